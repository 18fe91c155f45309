use Rattle.std.proofs.Common.{◌≡◌, drop}
use Rattle.std.specs.List.{list_any}
use Rattle.ped_symbols.specs.Declarations as Plain
use Rattle.ped_symbols.specs.NameRefusals.{uses_constant}
use Rattle.ped_symbols.specs.Passes.{Knows}
use Rattle.ped_symbols.proofs.sites.some_constant.Given as goal

abbrev pub invariant-loop-u : goal.invariant-loop-u
invariant-loop-u l = (d : Plain.Declared) → Knows l.declared d → list_any (uses_constant d) (drop l.u-index l.uses) ≡ list_any (uses_constant d) l.uses
