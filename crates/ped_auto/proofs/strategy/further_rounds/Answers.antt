use Rattle.std.proofs.Common.{◌≡◌, ◌+◌, ◌-◌, ◌≤◌, ◌<◌, length, sym, ◌∙◌, arith}
use Rattle.std.proofs.Math.Nat.{le_trans}
use Rattle.ped_auto.specs.CodeStages.{stage, CutsOff}
use Rattle.ped_auto.specs.Strategy.{VisitsAgain}
use Rattle.ped_auto.proofs.Leading.{leads_again, leads_round}
use Rattle.ped_auto.proofs.Falling.{fewer_first, fewer_behind, few_accepted}
use Rattle.ped_auto.proofs.FurtherRounding.{SomeRounds, rounds_begin, rounds_go_on, rounds_end, cut_rounds, no_fewer}
use Rattle.ped_auto.proofs.Outcomes.{when_err}
use Rattle.ped_auto.proofs.strategy.further_rounds.Goals as goal

pub loop-left-init : goal.loop-left-init
loop-left-init g c =
    let e = g.E.Editor.editing in
    record {
      on = λ before low. rounds_begin e (stage c.args.editor.now c.args.accepted.now (c.args.steps.now - before));
      fewer = λ t reads. fewer_first e g.met.E.Editor.laws c.args.editor.now (length c.args.accepted.now) t reads;
      least = omega arith;
    }

pub returns-in_err-left-clause-cut : goal.returns-in_err-left-clause-cut
returns-in_err-left-clause-cut g c =
    let e = g.E.Editor.editing in
    let inv = c.loop-left.invariant in
    when_err _ (CutsOff e (SomeRounds e) c.args.editor.now c.args.accepted.now c.args.steps.now c.further_round.new.editor c.further_round.new.steps)
    (λ before low.
    cut_rounds e g.met.E.Editor.laws (stage c.args.editor.now c.args.accepted.now (c.args.steps.now - before)) (stage c.loop-left.editor c.loop-left.accepted (c.loop-left.steps - before))
    (inv.on before low) c.further_round.new.editor (c.further_round.new.steps - before) (c.in_err-left.ensures.cut before (le_trans low inv.least)))

pub returns-then-len-before-clause-rounds : goal.returns-then-len-before-clause-rounds
returns-then-len-before-clause-rounds g c = λ before low.
    let e = g.E.Editor.editing in
    let inv = c.loop-left.invariant in
    rounds_end e (stage c.args.editor.now c.args.accepted.now (c.args.steps.now - before)) (stage c.loop-left.editor c.loop-left.accepted (c.loop-left.steps - before))
    (stage c.further_round.new.editor c.further_round.new.accepted (c.further_round.new.steps - before)) (inv.on before low) (c.in_ok-left.ensures.round before (le_trans low inv.least))
    (sym c.len.ensures ∙ c.if-len-before.true ∙ c.len-before.ensures)

pub loop-left-smaller : goal.loop-left-smaller
loop-left-smaller g c =
    let e = g.E.Editor.editing in
    let laws = g.met.E.Editor.laws in
    let inv = c.loop-left.invariant in
    let m = stage c.loop-left.editor c.loop-left.accepted (c.loop-left.steps - 0) in
    let r = stage c.further_round.new.editor c.further_round.new.accepted (c.further_round.new.steps - 0) in
    let round = c.in_ok-left.ensures.round 0 (omega arith) in
    let few : length c.loop-left.accepted ≤ length c.args.accepted.now + 4000 = few_accepted e laws m r (length c.args.accepted.now + 4000) round inv.fewer in
    let more : length c.loop-left.accepted ≤ length c.further_round.new.accepted = no_fewer e m r (leads_round e (VisitsAgain e) (leads_again e laws) m r round) in
    let before : c.len-before.result ≡ length c.loop-left.accepted = c.len-before.ensures in
    let behind : c.len.result ≡ length c.further_round.new.accepted = c.len.ensures in
    let apart = c.if-len-before.false in
    let shown : length c.args.accepted.now + 4001 - length c.further_round.new.accepted < length c.args.accepted.now + 4001 - length c.loop-left.accepted = omega (arith, apart) in
    shown

pub loop-left-preserved : goal.loop-left-preserved
loop-left-preserved g c =
    let e = g.E.Editor.editing in
    let laws = g.met.E.Editor.laws in
    let inv = c.loop-left.invariant in
    record {
      on = λ before low.
          rounds_go_on e laws (stage c.args.editor.now c.args.accepted.now (c.args.steps.now - before)) (stage c.loop-left.editor c.loop-left.accepted (c.loop-left.steps - before))
          (stage c.further_round.new.editor c.further_round.new.accepted (c.further_round.new.steps - before)) (inv.on before low) (c.in_ok-left.ensures.round before (le_trans low inv.least))
          (λ same. c.if-len-before.false (c.len.ensures ∙ same ∙ sym c.len-before.ensures));
      fewer = fewer_behind e laws (stage c.loop-left.editor c.loop-left.accepted (c.loop-left.steps - 0)) (stage c.further_round.new.editor c.further_round.new.accepted (c.further_round.new.steps - 0))
          (length c.args.accepted.now + 4000) (c.in_ok-left.ensures.round 0 (omega arith)) inv.fewer;
      least = le_trans inv.least c.further_round.ensures.least;
    }
