use Rattle.ped_flow.specs.Kept.{name_of, constants_of}
use Rattle.ped_flow.proofs.Skipping.{rest_known}
use Rattle.ped_flow.proofs.WalkSteps.{count_next, before_next}
use Rattle.ped_flow.proofs.before.+before.Goals as goal

pub before_all-loop-s-preserved : goal.before_all-loop-s-preserved
before_all-loop-s-preserved t c = record {
  sum = before_next (constants_of c.args.scalar.now) (name_of c.args.scalar.now) c.args.body.now c.loop-s.s-index c.s-item.result c.loop-s-test.true c.s-item.is c.loop-s.number c.statement.new.number c.statement.ensures.number
      c.args.l c.loop-s.summary c.loop-s.way c.before-in-loop-s.result c.statement.result c.then.result c.or-summary.result c.then-way.result _
      c.loop-s.invariant.sum c.before-in-loop-s.ensures.sum c.statement.ensures.sum c.then.ensures c.or-summary.ensures c.then-way.ensures;
  number = count_next (constants_of c.args.scalar.now) (name_of c.args.scalar.now) c.args.body.now c.loop-s.s-index c.s-item.result c.loop-s-test.true c.s-item.is c.loop-s.number c.statement.new.number c.statement.ensures.number
      _ c.loop-s.invariant.number;
  known = rest_known c.args.scalar.now.places.now c.args.scalar.now.table.now c.args.body.now c.loop-s.s-index c.s-item.result c.loop-s-test.true c.s-item.is c.loop-s.number c.loop-s.invariant.known c.statement.new.number c.statement.ensures.number;
}
