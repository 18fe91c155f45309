use Rattle.std.proofs.Common.{sym, ◌∙◌}
use Rattle.ped_tree.specs.Views.{stmt_tree}
use Rattle.ped_flow.specs.Kept.{name_of, constants_of}
use Rattle.ped_flow.proofs.Apart.{behind_elsewhere}
use Rattle.ped_flow.proofs.Skipping.{rest_known}
use Rattle.ped_flow.proofs.WalkSteps.{count_next, behind_next}
use Rattle.ped_flow.proofs.behind.+behind.Goals as goal

pub behind_all-loop-s-preserved : goal.behind_all-loop-s-preserved
behind_all-loop-s-preserved t c = record {
  sum = behind_next (constants_of c.args.scalar.now) (name_of c.args.scalar.now) c.args.body.now c.loop-s.s-index c.s-item.result c.loop-s-test.true c.s-item.is c.loop-s.number c.behind-here.new.number c.behind-here.ensures.number
      c.args.l c.loop-s.summary c.behind-here.result c.through.result c.or-summary.result _ c.loop-s.invariant.sum c.behind-here.ensures.sum c.through.ensures c.or-summary.ensures;
  number = count_next (constants_of c.args.scalar.now) (name_of c.args.scalar.now) c.args.body.now c.loop-s.s-index c.s-item.result c.loop-s-test.true c.s-item.is c.loop-s.number c.behind-here.new.number c.behind-here.ensures.number
      _ c.loop-s.invariant.number;
  known = rest_known c.args.scalar.now.places.now c.args.scalar.now.table.now c.args.body.now c.loop-s.s-index c.s-item.result c.loop-s-test.true c.s-item.is c.loop-s.number c.loop-s.invariant.known c.behind-here.new.number c.behind-here.ensures.number;
}

pub behind-returns-in-Some-clause-sum : goal.behind-returns-in-Some-clause-sum
behind-returns-in-Some-clause-sum t c =
    c.unreached.ensures ∙ sym (behind_elsewhere (constants_of c.args.scalar.now) (name_of c.args.scalar.now) c.args.l (stmt_tree c.args.s.now) c.args.number.now c.in-Some.ensures.away)
