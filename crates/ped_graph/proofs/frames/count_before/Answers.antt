use Rattle.std.proofs.Common.{◌≡◌, ◌<◌, ◌+◌, ◌-◌, ◌/◌, length, Bool, true, false, arith}
use Rattle.ped_graph.specs.CodeFacts.{framed_of}
use Rattle.ped_graph.specs.Keys.{key_shown}
use Rattle.ped_graph.proofs.Slices.{item_there}
use Rattle.ped_graph.proofs.InOrder.{up_to, from_on}
use Rattle.ped_graph.proofs.frames.count_before.Goals as goal

pub loop-low-preserved-then-is_before : goal.loop-low-preserved-then-is_before
loop-low-preserved-then-is_before c =
    let pairs = c.args.pairs.now in
    let middle = c.loop-low.low + (c.loop-low.high - c.loop-low.low) / 2 in
    let below : middle < length pairs = omega arith in
    let at = item_there pairs middle c.index-pairs-middle.result c.index-pairs-middle.is below in
    record {
      ordered = omega arith;
      within = c.loop-low.invariant.within;
      before = up_to framed_of pairs c.requires (key_shown c.args.key.now) middle c.index-pairs-middle.result at (c.is_before.ensures.0 c.if-is_before.true);
      behind = c.loop-low.invariant.behind;
    }

pub loop-low-preserved : goal.loop-low-preserved
loop-low-preserved c =
    let pairs = c.args.pairs.now in
    let middle = c.loop-low.low + (c.loop-low.high - c.loop-low.low) / 2 in
    let below : middle < length pairs = omega arith in
    let at = item_there pairs middle c.index-pairs-middle.result c.index-pairs-middle.is below in
    record {
      ordered = omega arith;
      within = omega arith;
      before = c.loop-low.invariant.before;
      behind = from_on framed_of pairs c.requires (key_shown c.args.key.now) middle c.index-pairs-middle.result at (λ before. absurd (no_true c.is_before.result c.if-is_before.false (c.is_before.ensures.1 before)));
    }
  where
    no_true : (t : Bool) → t ≡ false → t ≡ true → ⊥
    no_true t e f = cc
