use Rattle.std.proofs.Common.{subst}
use Rattle.std.proofs.lemmas.Result.{IfOk-weaker}
use Rattle.ped_tree.specs.Tree.{ProgramTree}
use Rattle.ped_tree.specs.Views.{program_tree}
use Rattle.ped_eval.specs.OutcomeViews.{outcome_view}
use Rattle.ped_versions.specs.States.{State}
use Rattle.ped_versions.specs.ped_valid.specs.Validity.{ReadsValid}
use Rattle.ped_session.specs.LoweredRuns.{IsLoweredRun}
use Rattle.ped_session.specs.Meanings.{IsMeaningKept}
use Rattle.ped_session.proofs.OneStep.{one_tree}
use Rattle.ped_session.proofs.KeptMeanings.{as_before, truly_before}
use Rattle.ped_session.proofs.session.Session.run.Goals as goal

pub returns-clause-outcome : goal.returns-clause-outcome
returns-clause-outcome g c =
    let t = program_tree c.present.result.program.now in
    let reads = subst (λ (s : State). ReadsValid s.present t) c.self.view_is c.present.ensures.reads in
    IfOk-weaker c.run_present.result _ _ (λ o is u from.
    subst (λ (v : ProgramTree). IsLoweredRun c.args.choices.now c.args.input.now v (outcome_view o)) (one_tree c.args.self.now.present t u reads from) is) c.run_present.ensures

pub returns-clause-before : goal.returns-clause-before
returns-clause-before g c =
    let t = program_tree c.present.result.program.now in
    let reads = subst (λ (s : State). ReadsValid s.present t) c.self.view_is c.present.ensures.reads in
    let kept = subst IsMeaningKept c.self.view_is c.self.invariant in
    IfOk-weaker c.run_present.result _ _ (λ o is earlier u comes from trusted free.
    as_before c.interleavings_agree.ensures c.lowering_keeps_the_meaning.ensures c.args.self.now c.args.input.now c.args.choices.now t (outcome_view o) kept reads is
    earlier u comes from trusted free) c.run_present.ensures

pub returns-clause-truly_before : goal.returns-clause-truly_before
returns-clause-truly_before g c =
    let t = program_tree c.present.result.program.now in
    let reads = subst (λ (s : State). ReadsValid s.present t) c.self.view_is c.present.ensures.reads in
    let kept = subst IsMeaningKept c.self.view_is c.self.invariant in
    IfOk-weaker c.run_present.result _ _ (λ o is earlier u v comes from to none free.
    truly_before c.interleavings_agree.ensures c.args.self.now c.args.input.now c.args.choices.now t (outcome_view o) kept reads is
    earlier u v comes from to none free) c.run_present.ensures
