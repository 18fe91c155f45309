use Rattle.std.proofs.Common.{arith}
use Rattle.ped_links.proofs.ranking.arrow_counts.Goals as goal

pub count_up-requires : goal.count_up-requires
count_up-requires c n i =
    let below = c.ends.ensures.below n i in
    let long = c.deref_mut.ensures.len in
    let wide = c.loop-from.invariant in
    let same = c.loop-from.counts.ok.0 in
    omega (arith, below, long, wide, same)
