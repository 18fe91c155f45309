use Rattle.std.proofs.Common.{get_or, arith}
use Rattle.ped_links.proofs.Added.{in_at}
use Rattle.ped_links.proofs.ranking.count_down.Goals as goal

pub count_one_less-requires-clause-number : goal.count_one_less-requires-clause-number
count_one_less-requires-clause-number c =
    let i = c.loop-number.number-index in
    let below = c.requires.numbers (get_or c.args.numbers.now i 0) (in_at c.args.numbers.now i (omega arith)) in
    omega (arith, below, c.loop-number.invariant.wide)

pub count_one_less-requires-clause-waiting : goal.count_one_less-requires-clause-waiting
count_one_less-requires-clause-waiting c n i =
    let below = c.loop-number.invariant.waiting n i in
    omega (arith, below, c.loop-number.invariant.wide)

pub loop-number-preserved : goal.loop-number-preserved
loop-number-preserved c = record {
  wide = let wide = c.in_ok-count_one_less.ensures.wide in omega (arith, wide, c.loop-number.invariant.wide);
  waiting = λ n i. let below = c.in_ok-count_one_less.ensures.waiting n i in omega (arith, below, c.loop-number.invariant.wide);
}
