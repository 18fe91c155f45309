use Rattle.std.proofs.Common.{◌≡◌, drop}
use Rattle.std.specs.List.{list_any}
use Rattle.ped_symbols.specs.Declarations as Plain
use Rattle.ped_symbols.specs.NameRefusals.{uses_other_rank}
use Rattle.ped_symbols.specs.Passes.{Knows}
use Rattle.ped_symbols.proofs.sites.some_other_rank.Given as goal

abbrev pub invariant-loop-u : goal.invariant-loop-u
invariant-loop-u l = (d : Plain.Declared) → Knows l.declared d → list_any (uses_other_rank d) (drop l.u-index l.uses) ≡ list_any (uses_other_rank d) l.uses
