use Rattle.std.proofs.Common.{get_or, arith}
use Rattle.ped_links.proofs.Added.{in_at}
use Rattle.ped_links.proofs.ranking.count_up.Goals as goal

pub count_one_more-requires : goal.count_one_more-requires
count_one_more-requires c =
    let i = c.loop-number.number-index in
    let below = c.requires (get_or c.args.numbers.now i 0) (in_at c.args.numbers.now i (omega arith)) in
    omega (arith, below, c.loop-number.invariant)
