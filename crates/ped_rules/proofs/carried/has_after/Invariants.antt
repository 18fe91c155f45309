use Rattle.std.proofs.Common.{◌≡◌, drop}
use Rattle.std.specs.List.{list_any}
use Rattle.std.specs.Prelude.{slice_get}
use Rattle.ped_rules.specs.Carried.{is_after}
use Rattle.ped_rules.proofs.carried.has_after.Given as goal

abbrev pub invariant-loop-vector : goal.invariant-loop-vector
invariant-loop-vector l = list_any (λ v. is_after (slice_get v l.level)) (drop l.vector-index l.vectors) ≡ list_any (λ v. is_after (slice_get v l.level)) l.vectors
