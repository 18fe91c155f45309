use Rattle.ped_flow.specs.Kept.{name_of, constants_of}
use Rattle.ped_flow.proofs.Skipping.{rest_known}
use Rattle.ped_flow.proofs.WalkSteps.{count_next}
use Rattle.ped_flow.proofs.OutsideSteps.{outside_next, assign_first, print_first, if_first, do_first}
use Rattle.ped_flow.proofs.outside.+outside.Goals as goal

pub outside_all-loop-s-preserved : goal.outside_all-loop-s-preserved
outside_all-loop-s-preserved t c = record {
  first = outside_next (constants_of c.args.scalar.now) (name_of c.args.scalar.now) c.args.body.now c.loop-s.s-index c.s-item.result c.loop-s-test.true c.s-item.is c.loop-s.number c.outside.new.number c.outside.ensures.number
      c.loop-s.first c.outside.result c.least-first.result _ c.loop-s.invariant.first c.outside.ensures.first c.least-first.ensures;
  number = count_next (constants_of c.args.scalar.now) (name_of c.args.scalar.now) c.args.body.now c.loop-s.s-index c.s-item.result c.loop-s-test.true c.s-item.is c.loop-s.number c.outside.new.number c.outside.ensures.number
      _ c.loop-s.invariant.number;
  known = rest_known c.args.scalar.now.places.now c.args.scalar.now.table.now c.args.body.now c.loop-s.s-index c.s-item.result c.loop-s-test.true c.s-item.is c.loop-s.number c.loop-s.invariant.known c.outside.new.number c.outside.ensures.number;
}

pub outside_inside-returns-in-Assign-clause-first : goal.outside_inside-returns-in-Assign-clause-first
outside_inside-returns-in-Assign-clause-first t c =
    assign_first (constants_of c.args.scalar.now) (name_of c.args.scalar.now) c.args.s.now c.args.number.now c.in-Assign.left c.in-Assign.right
    c.expression.result c.target.result c.least.result c.in-Assign.is c.expression.ensures c.target.ensures c.least.ensures

pub outside_inside-returns-in-Print-clause-first : goal.outside_inside-returns-in-Print-clause-first
outside_inside-returns-in-Print-clause-first t c =
    print_first (constants_of c.args.scalar.now) (name_of c.args.scalar.now) c.args.s.now c.args.number.now c.in-Print.list c.deref.result.now c.items.result c.in-Print.is c.deref.ensures.value c.items.ensures

pub outside_inside-returns-in-If-clause-first : goal.outside_inside-returns-in-If-clause-first
outside_inside-returns-in-If-clause-first t c =
    if_first (constants_of c.args.scalar.now) (name_of c.args.scalar.now) c.args.s.now c.args.number.now c.in-If.c c.in-If.then_part c.in-If.else_part c.deref-in-If.result.now c.deref-in-If-2.result.now
    c.condition.result c.outside_all-first.result c.outside_all-second.result c.least-in-If.result c.least-in-If-2.result c.outside_all-first.new.number
    c.in-If.is c.deref-in-If.ensures.value c.deref-in-If-2.ensures.value c.condition.ensures c.outside_all-first.ensures.first c.outside_all-first.ensures.number c.outside_all-second.ensures.first c.least-in-If.ensures c.least-in-If-2.ensures

pub outside_inside-returns-in-Do-clause-first : goal.outside_inside-returns-in-Do-clause-first
outside_inside-returns-in-Do-clause-first t c =
    do_first (constants_of c.args.scalar.now) (name_of c.args.scalar.now) c.args.s.now c.args.number.now c.in-Do.d c.deref-in-Do.result.now
    c.entry.result c.outside_all-body.result c.unless-other.result c.least-in-Do.result c.is_same.result c.in-Do.is c.deref-in-Do.ensures.value c.entry.ensures c.outside_all-body.ensures.first c.is_same.ensures c.unless-other.ensures c.least-in-Do.ensures
