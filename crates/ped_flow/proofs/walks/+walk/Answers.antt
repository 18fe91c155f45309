use Rattle.ped_flow.specs.Kept.{name_of, constants_of}
use Rattle.ped_flow.proofs.Skipping.{rest_known}
use Rattle.ped_flow.proofs.WalkSteps.{assign_summed, count_next, walk_next}
use Rattle.ped_flow.proofs.walks.+walk.Goals as goal

pub inside-returns-in-Assign-clause-sum : goal.inside-returns-in-Assign-clause-sum
inside-returns-in-Assign-clause-sum t c =
    assign_summed (constants_of c.args.scalar.now) (name_of c.args.scalar.now) c.args.s.now c.in-Assign.left c.in-Assign.right c.args.number.now
    c.expression.result c.target.result c.then.result c.in-Assign.is c.expression.ensures c.target.ensures c.then.ensures

pub statements-loop-s-preserved : goal.statements-loop-s-preserved
statements-loop-s-preserved t c = record {
  sum = walk_next (constants_of c.args.scalar.now) (name_of c.args.scalar.now) c.args.body.now c.loop-s.s-index c.s-item.result c.loop-s-test.true c.s-item.is c.loop-s.number c.statement.new.number c.statement.ensures.number
      c.loop-s.summary c.statement.result c.then-summary.result _ c.loop-s.invariant.sum c.statement.ensures.sum c.then-summary.ensures;
  number = count_next (constants_of c.args.scalar.now) (name_of c.args.scalar.now) c.args.body.now c.loop-s.s-index c.s-item.result c.loop-s-test.true c.s-item.is c.loop-s.number c.statement.new.number c.statement.ensures.number
      _ c.loop-s.invariant.number;
  known = rest_known c.args.scalar.now.places.now c.args.scalar.now.table.now c.args.body.now c.loop-s.s-index c.s-item.result c.loop-s-test.true c.s-item.is c.loop-s.number c.loop-s.invariant.known c.statement.new.number c.statement.ensures.number;
}
