use Rattle.std.proofs.Common.{◌≡◌, map, drop}
use Rattle.ped_symbols.specs.Passes.{kind_with, with_kinds}
use Rattle.ped_symbols.proofs.statements.Known.keep_kinds.Given as goal

abbrev pub invariant-loop-u : goal.invariant-loop-u
invariant-loop-u l = with_kinds (kind_with l.self) l.kinds.entries.entries (map (λ u. u.name) (drop l.u-index l.uses)) ≡ with_kinds (kind_with l.self) l.initial.kinds.entries.entries (map (λ u. u.name) l.uses)
