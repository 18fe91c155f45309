use Rattle.std.proofs.Common.{◌-◌, arith}
use Rattle.std.proofs.Math.Nat.{le_trans}
use Rattle.ped_auto.specs.CutOff.{IsCutOff}
use Rattle.ped_auto.specs.CodeReports.{causes_of}
use Rattle.ped_auto.specs.CodeStages.{stage}
use Rattle.ped_auto.specs.CodeReports.{report_of}
use Rattle.ped_auto.proofs.Whole.{AllRounds, auto_done, cut_in_first, cut_in_further, cut_off, few_tests, just_tests, cut_from_begin}
use Rattle.ped_auto.proofs.Outcomes.{when_err}
use Rattle.ped_auto.proofs.strategy.auto.Goals as goal

pub returns-in_err-first_round-clause-reached : goal.returns-in_err-first_round-clause-reached
returns-in_err-first_round-clause-reached g c =
    let e = g.E.Editor.editing in
    let n = c.args.steps.now in
    when_err _ (IsCutOff e c.args.editor.now c.first_round.new.editor (c.first_round.new.steps - n))
    (cut_off e c.args.editor.now c.first_round.new.editor (c.first_round.new.steps - n)
    (cut_from_begin e (AllRounds e) c.args.editor.now c.new-accepted.result n c.first_round.new.editor (c.first_round.new.steps - n) c.new-accepted.ensures
    (cut_in_first e g.met.E.Editor.laws (stage c.args.editor.now c.new-accepted.result (n - n)) c.first_round.new.editor (c.first_round.new.steps - n) (c.in_err-first_round.ensures.cut n (omega arith)))))

pub returns-in_err-first_round-clause-most : goal.returns-in_err-first_round-clause-most
returns-in_err-first_round-clause-most g c =
    let e = g.E.Editor.editing in
    let n = c.args.steps.now in
    few_tests e c.args.editor.now c.first_round.new.editor n c.first_round.new.steps c.first_round.ensures.least
    (cut_from_begin e (AllRounds e) c.args.editor.now c.new-accepted.result n c.first_round.new.editor (c.first_round.new.steps - n) c.new-accepted.ensures
    (cut_in_first e g.met.E.Editor.laws (stage c.args.editor.now c.new-accepted.result (n - n)) c.first_round.new.editor (c.first_round.new.steps - n) (c.in_err-first_round.ensures.cut n (omega arith))))

pub returns-in_err-left-clause-reached : goal.returns-in_err-left-clause-reached
returns-in_err-left-clause-reached g c =
    let e = g.E.Editor.editing in
    let n = c.args.steps.now in
    when_err _ (IsCutOff e c.args.editor.now c.further_rounds.new.editor (c.further_rounds.new.steps - n))
    (cut_off e c.args.editor.now c.further_rounds.new.editor (c.further_rounds.new.steps - n)
    (cut_from_begin e (AllRounds e) c.args.editor.now c.new-accepted.result n c.further_rounds.new.editor (c.further_rounds.new.steps - n) c.new-accepted.ensures
    (cut_in_further e g.met.E.Editor.laws (stage c.args.editor.now c.new-accepted.result (n - n)) (stage c.first_round.new.editor c.first_round.new.accepted (c.first_round.new.steps - n))
    c.further_rounds.new.editor (c.further_rounds.new.steps - n) (c.in_ok-first_round.ensures.round n (omega arith)) (c.in_err-left.ensures.cut n c.first_round.ensures.least))))

pub returns-in_err-left-clause-most : goal.returns-in_err-left-clause-most
returns-in_err-left-clause-most g c =
    let e = g.E.Editor.editing in
    let n = c.args.steps.now in
    few_tests e c.args.editor.now c.further_rounds.new.editor n c.further_rounds.new.steps (le_trans c.first_round.ensures.least c.further_rounds.ensures.least)
    (cut_from_begin e (AllRounds e) c.args.editor.now c.new-accepted.result n c.further_rounds.new.editor (c.further_rounds.new.steps - n) c.new-accepted.ensures
    (cut_in_further e g.met.E.Editor.laws (stage c.args.editor.now c.new-accepted.result (n - n)) (stage c.first_round.new.editor c.first_round.new.accepted (c.first_round.new.steps - n))
    c.further_rounds.new.editor (c.further_rounds.new.steps - n) (c.in_ok-first_round.ensures.round n (omega arith)) (c.in_err-left.ensures.cut n c.first_round.ensures.least)))

pub returns-clause-does : goal.returns-clause-does
returns-clause-does g c =
    let e = g.E.Editor.editing in
    let n = c.args.steps.now in
    auto_done e c.args.editor.now c.further_rounds.new.editor c.new-accepted.result c.further_rounds.new.accepted n (c.further_rounds.new.steps - n)
    (stage c.first_round.new.editor c.first_round.new.accepted (c.first_round.new.steps - n)) (causes_of c.in_ok-left.left) c.new-accepted.ensures
    (c.in_ok-first_round.ensures.round n (omega arith)) (c.in_ok-left.ensures.rounds n c.first_round.ensures.least) c.in_ok-left.ensures.left

pub returns-clause-most : goal.returns-clause-most
returns-clause-most g c =
    let e = g.E.Editor.editing in
    let n = c.args.steps.now in
    just_tests e g.met.E.Editor.laws c.args.editor.now c.further_rounds.new.editor (report_of (record { accepted = c.further_rounds.new.accepted; left = c.in_ok-left.left })) n c.further_rounds.new.steps
    (le_trans c.first_round.ensures.least c.further_rounds.ensures.least)
    (auto_done e c.args.editor.now c.further_rounds.new.editor c.new-accepted.result c.further_rounds.new.accepted n (c.further_rounds.new.steps - n)
    (stage c.first_round.new.editor c.first_round.new.accepted (c.first_round.new.steps - n)) (causes_of c.in_ok-left.left) c.new-accepted.ensures
    (c.in_ok-first_round.ensures.round n (omega arith)) (c.in_ok-left.ensures.rounds n c.first_round.ensures.least) c.in_ok-left.ensures.left)
