-- What the last entry of the range is.
use Rattle.std.specs.Ordering.{nat_cmp}
use Rattle.std.specs.BTreeMap.Range.{IsRangeOf}
use Rattle.std.specs.declared.ops.Bound.TheVariants.{Included, Unbounded}
use Rattle.ped_marks.proofs.Ranges.{last_in}
use Rattle.ped_marks.proofs.stretches.last_up_to.Goals as goal

pub returns-in-Some : goal.returns-in-Some
returns-in-Some c =
    let is : IsRangeOf nat_cmp Unbounded (Included c.args.place) c.args.map.now c.range.result = c.range.ensures.in_range tt in
    last_in c.args.map.now c.args.place c.range.result is (c.in-Some.start.now, c.in-Some.stretch.now) c.next_back.new.self c.in-Some.ensures.steps
