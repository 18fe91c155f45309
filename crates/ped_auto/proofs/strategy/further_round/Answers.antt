use Rattle.std.proofs.Common.{◌+◌, ◌-◌, true, false, arith}
use Rattle.std.proofs.Math.Nat.{le_trans}
use Rattle.ped_auto.specs.Strategy.{VisitsAgain, Round}
use Rattle.ped_auto.specs.CodeStages.{stage, CutsOff}
use Rattle.ped_auto.proofs.Leading.{leads_again}
use Rattle.ped_auto.proofs.OneCourse.{one_again}
use Rattle.ped_auto.proofs.Rounding.{met_by, round_over_loop, round_over_other, cut_at_loop, next_small, over_by, round_is_over}
use Rattle.ped_auto.proofs.LeftLoops.{left_visited, left_passed, left_in_words, all_left}
use Rattle.ped_auto.proofs.FurtherRounding.{no_fewer}
use Rattle.ped_auto.proofs.Outcomes.{when_err, stage_is}
use Rattle.ped_auto.proofs.strategy.further_round.Goals.{then-is_serial_loop+in_ok-visit_again, else-is_serial_loop}
use Rattle.ped_auto.proofs.strategy.further_round.Goals as goal

pub returns-in_err-visit_again-clause-cut : goal.returns-in_err-visit_again-clause-cut
returns-in_err-visit_again-clause-cut g c =
    let e = g.E.Editor.editing in
    let laws = g.met.E.Editor.laws in
    let inv = c.loop-number.invariant in
    let number = c.loop-number.number in
    let met = met_by e laws c.loop-number.editor number c.count.result c.is_serial_loop.result true c.count.ensures c.loop-number-test.true c.is_serial_loop.ensures c.if-is_serial_loop.true in
    when_err _ (CutsOff e (Round e (VisitsAgain e)) c.args.editor.now c.args.accepted.now c.args.steps.now c.visit_again.new.editor c.visit_again.new.steps)
    (λ before low.
    cut_at_loop e laws (VisitsAgain e) (leads_again e laws) (stage c.args.editor.now c.args.accepted.now (c.args.steps.now - before)) (stage c.loop-number.editor c.loop-number.accepted (c.loop-number.steps - before))
    number (inv.on before low) met c.visit_again.new.editor (c.visit_again.new.steps - before) (c.in_err-visit_again.ensures.cut before (le_trans low inv.least)))

pub loop-number-preserved : goal.loop-number-preserved
loop-number-preserved g c =
    let e = g.E.Editor.editing in
    let laws = g.met.E.Editor.laws in
    let inv = c.loop-number.invariant in
    let number = c.loop-number.number in
    record {
      on = λ before low.
          (let p = stage c.args.editor.now c.args.accepted.now (c.args.steps.now - before) in
          let m = stage c.loop-number.editor c.loop-number.accepted (c.loop-number.steps - before) in
          let x = stage c.if-is_serial_loop.editor c.if-is_serial_loop.accepted (c.if-is_serial_loop.steps - before) in
          elim c.if-is_serial_loop.branch [
            | then-is_serial_loop+in_ok-visit_again w ↦
                (let met = met_by e laws c.loop-number.editor number c.count.result c.is_serial_loop.result true c.count.ensures c.loop-number-test.true c.is_serial_loop.ensures w.if-is_serial_loop.true in
                let r = stage w.visit_again.new.editor w.visit_again.new.accepted (w.visit_again.new.steps - before) in
                round_over_loop e laws (VisitsAgain e) (leads_again e laws) (one_again e laws) p m r x number (inv.on before low) met (w.in_ok-visit_again.ensures.visited before (le_trans low inv.least))
                (stage_is c.if-is_serial_loop.editor w.visit_again.new.editor c.if-is_serial_loop.accepted w.visit_again.new.accepted c.if-is_serial_loop.steps w.visit_again.new.steps before w.editor-is w.accepted-is w.steps-is))
            | else-is_serial_loop w ↦
                (let met = met_by e laws c.loop-number.editor number c.count.result c.is_serial_loop.result false c.count.ensures c.loop-number-test.true c.is_serial_loop.ensures w.if-is_serial_loop.false in
                round_over_other e laws (VisitsAgain e) (leads_again e laws) (one_again e laws) p m x number (inv.on before low) met
                (stage_is c.if-is_serial_loop.editor c.loop-number.editor c.if-is_serial_loop.accepted c.loop-number.accepted c.if-is_serial_loop.steps c.loop-number.steps before w.editor-is w.accepted-is w.steps-is))
          ]);
      left =
          (let p = stage c.args.editor.now c.args.accepted.now (c.args.steps.now - 0) in
          let m = stage c.loop-number.editor c.loop-number.accepted (c.loop-number.steps - 0) in
          let first = c.args.accepted.now in
          elim c.if-is_serial_loop.branch [
            | then-is_serial_loop+in_ok-visit_again w ↦
                (let met = met_by e laws c.loop-number.editor number c.count.result c.is_serial_loop.result true c.count.ensures c.loop-number-test.true c.is_serial_loop.ensures w.if-is_serial_loop.true in
                left_in_words e (number + 1) first w.visit_again.new.editor c.if-is_serial_loop.editor w.visit_again.new.accepted c.if-is_serial_loop.accepted w.visit_again.new.left c.if-is_serial_loop.left
                w.editor-is w.accepted-is w.left-is
                (left_visited e c.loop-number.editor w.visit_again.new.editor number first c.loop-number.accepted w.visit_again.new.accepted c.loop-number.left w.visit_again.new.left laws inv.first
                met.program met.reads met.within met.answers (no_fewer e p m (inv.on 0 (omega arith)).came) inv.left w.in_ok-visit_again.ensures.told))
            | else-is_serial_loop w ↦
                (let met = met_by e laws c.loop-number.editor number c.count.result c.is_serial_loop.result false c.count.ensures c.loop-number-test.true c.is_serial_loop.ensures w.if-is_serial_loop.false in
                left_in_words e (number + 1) first c.loop-number.editor c.if-is_serial_loop.editor c.loop-number.accepted c.if-is_serial_loop.accepted c.loop-number.left c.if-is_serial_loop.left
                w.editor-is w.accepted-is w.left-is
                (λ none. left_passed e c.loop-number.editor number c.loop-number.left laws inv.first met.program met.reads met.within met.answers (inv.left none)))
          ]);
      first = let first = inv.first in omega arith;
      small = next_small e laws c.loop-number.editor number c.count.result c.count.ensures c.loop-number-test.true;
      least = elim c.if-is_serial_loop.branch [
        | then-is_serial_loop+in_ok-visit_again w ↦ (let a = inv.least in let b = w.visit_again.ensures.least in let same = w.steps-is in omega arith)
        | else-is_serial_loop w ↦ (let a = inv.least in let same = w.steps-is in omega arith)
      ];
    }

pub returns-clause-round : goal.returns-clause-round
returns-clause-round g c = λ before low.
    let e = g.E.Editor.editing in
    let p = stage c.args.editor.now c.args.accepted.now (c.args.steps.now - before) in
    let m = stage c.loop-number.editor c.loop-number.accepted (c.loop-number.steps - before) in
    round_is_over e (VisitsAgain e) p m c.loop-number.number (c.loop-number.invariant.on before low) (over_by e m c.loop-number.number c.count.result c.count.ensures c.loop-number-test.false)

pub returns-clause-left : goal.returns-clause-left
returns-clause-left g c = λ none.
    let e = g.E.Editor.editing in
    let m = stage c.loop-number.editor c.loop-number.accepted 0 in
    let over = over_by e m c.loop-number.number c.count.result c.count.ensures c.loop-number-test.false in
    all_left e c.loop-number.editor c.loop-number.number c.loop-number.left over.0 over.1 over.2 (c.loop-number.invariant.left none)
