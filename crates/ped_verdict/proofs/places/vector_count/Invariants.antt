use Rattle.std.proofs.Common.{◌≡◌, ◌^◌}
use Rattle.ped_verdict.proofs.places.vector_count.Given as goal

abbrev pub invariant-loop : goal.invariant-loop
invariant-loop l = l.count ≡ 3 ^ l.counter
