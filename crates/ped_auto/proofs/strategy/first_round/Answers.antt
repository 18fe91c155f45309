use Rattle.std.proofs.Common.{◌-◌, true, false, arith}
use Rattle.std.proofs.Math.Nat.{le_trans}
use Rattle.ped_auto.specs.Strategy.{Visits, Round}
use Rattle.ped_auto.specs.CodeStages.{stage, CutsOff}
use Rattle.ped_auto.proofs.Leading.{leads_visits}
use Rattle.ped_auto.proofs.OneCourse.{one_visit}
use Rattle.ped_auto.proofs.Rounding.{met_by, round_over_loop, round_over_other, cut_at_loop, next_small, over_by, round_is_over}
use Rattle.ped_auto.proofs.Outcomes.{when_err, stage_is}
use Rattle.ped_auto.proofs.strategy.first_round.Goals.{then-is_serial_loop+in_ok-visit, else-is_serial_loop}
use Rattle.ped_auto.proofs.strategy.first_round.Goals as goal

pub returns-in_err-visit-clause-cut : goal.returns-in_err-visit-clause-cut
returns-in_err-visit-clause-cut g c =
    let e = g.E.Editor.editing in
    let laws = g.met.E.Editor.laws in
    let inv = c.loop-number.invariant in
    let number = c.loop-number.number in
    let met = met_by e laws c.loop-number.editor number c.count.result c.is_serial_loop.result true c.count.ensures c.loop-number-test.true c.is_serial_loop.ensures c.if-is_serial_loop.true in
    when_err _ (CutsOff e (Round e (Visits e)) c.args.editor.now c.args.accepted.now c.args.steps.now c.visit.new.editor c.visit.new.steps)
    (λ before low.
    cut_at_loop e laws (Visits e) (leads_visits e laws) (stage c.args.editor.now c.args.accepted.now (c.args.steps.now - before)) (stage c.loop-number.editor c.loop-number.accepted (c.loop-number.steps - before))
    number (inv.on before low) met c.visit.new.editor (c.visit.new.steps - before) (c.in_err-visit.ensures.cut before (le_trans low inv.least)))

pub loop-number-preserved : goal.loop-number-preserved
loop-number-preserved g c =
    let e = g.E.Editor.editing in
    let laws = g.met.E.Editor.laws in
    let inv = c.loop-number.invariant in
    let number = c.loop-number.number in
    record {
      on = λ before low.
          (let p = stage c.args.editor.now c.args.accepted.now (c.args.steps.now - before) in
          let m = stage c.loop-number.editor c.loop-number.accepted (c.loop-number.steps - before) in
          let x = stage c.if-is_serial_loop.editor c.if-is_serial_loop.accepted (c.if-is_serial_loop.steps - before) in
          elim c.if-is_serial_loop.branch [
            | then-is_serial_loop+in_ok-visit w ↦
                (let met = met_by e laws c.loop-number.editor number c.count.result c.is_serial_loop.result true c.count.ensures c.loop-number-test.true c.is_serial_loop.ensures w.if-is_serial_loop.true in
                let r = stage w.visit.new.editor w.visit.new.accepted (w.visit.new.steps - before) in
                round_over_loop e laws (Visits e) (leads_visits e laws) (one_visit e laws) p m r x number (inv.on before low) met (w.in_ok-visit.ensures.visited before (le_trans low inv.least))
                (stage_is c.if-is_serial_loop.editor w.visit.new.editor c.if-is_serial_loop.accepted w.visit.new.accepted c.if-is_serial_loop.steps w.visit.new.steps before w.editor-is w.accepted-is w.steps-is))
            | else-is_serial_loop w ↦
                (let met = met_by e laws c.loop-number.editor number c.count.result c.is_serial_loop.result false c.count.ensures c.loop-number-test.true c.is_serial_loop.ensures w.if-is_serial_loop.false in
                round_over_other e laws (Visits e) (leads_visits e laws) (one_visit e laws) p m x number (inv.on before low) met
                (stage_is c.if-is_serial_loop.editor c.loop-number.editor c.if-is_serial_loop.accepted c.loop-number.accepted c.if-is_serial_loop.steps c.loop-number.steps before w.editor-is w.accepted-is w.steps-is))
          ]);
      first = let first = inv.first in omega arith;
      small = next_small e laws c.loop-number.editor number c.count.result c.count.ensures c.loop-number-test.true;
      least = elim c.if-is_serial_loop.branch [
        | then-is_serial_loop+in_ok-visit w ↦ (let a = inv.least in let b = w.visit.ensures.least in let same = w.steps-is in omega arith)
        | else-is_serial_loop w ↦ (let a = inv.least in let same = w.steps-is in omega arith)
      ];
    }

pub returns-clause-round : goal.returns-clause-round
returns-clause-round g c = λ before low.
    let e = g.E.Editor.editing in
    let p = stage c.args.editor.now c.args.accepted.now (c.args.steps.now - before) in
    let m = stage c.loop-number.editor c.loop-number.accepted (c.loop-number.steps - before) in
    round_is_over e (Visits e) p m c.loop-number.number (c.loop-number.invariant.on before low) (over_by e m c.loop-number.number c.count.result c.count.ensures c.loop-number-test.false)
