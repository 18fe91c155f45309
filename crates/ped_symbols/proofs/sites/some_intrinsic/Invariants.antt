use Rattle.std.proofs.Common.{◌≡◌, drop}
use Rattle.std.specs.List.{list_any}
use Rattle.ped_symbols.specs.NameRefusals.{dimensions_intrinsic}
use Rattle.ped_symbols.proofs.sites.some_intrinsic.Given as goal

abbrev pub invariant-loop-u : goal.invariant-loop-u
invariant-loop-u l = list_any dimensions_intrinsic (drop l.u-index l.uses) ≡ list_any dimensions_intrinsic l.uses
