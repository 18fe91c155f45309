use Rattle.std.proofs.Common.{rules, ◌≤◌, ◌^◌}
use Rattle.ped_verdict.proofs.Ordered.{few}
use Rattle.ped_verdict.proofs.places.vector_count.Goals as goal

pub overflow_mul-count : goal.overflow_mul-count
overflow_mul-count c = let f : 3 ^ c.loop.counter ≤ 729 = few c.loop.counter (search rules) in search rules
