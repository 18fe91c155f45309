use Rattle.std.proofs.Common.{◌≡◌, drop}
use Rattle.ped_rules.specs.ped_symbols.specs.NameRefusals.{has_twice}
use Rattle.ped_reduce.proofs.privacy.has_twice.Given as goal

abbrev pub invariant-loop-place : goal.invariant-loop-place
invariant-loop-place l = has_twice (drop l.place l.names) ≡ has_twice l.names
