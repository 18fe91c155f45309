use Rattle.std.proofs.Common.{◌≡◌, ◌++◌, map, drop}
use Rattle.ped_symbols.specs.Uses.{used_as}
use Rattle.ped_symbols.proofs.uses.push_all.Given as goal

abbrev pub invariant-loop-name : goal.invariant-loop-name
invariant-loop-name l = l.uses.items ++ map (used_as l.fn.role) (drop l.name-index l.names) ≡ l.initial.uses.items ++ map (used_as l.fn.role) l.names
