use Rattle.std.proofs.Common.{◌≡◌, ◌∙◌, ℕ, ◌-◌, ◌≤◌, List, ◌++◌, Bool, ◌||◌, false, true, refl, ap, arith}
use Rattle.ped_transformations.specs.ped_auto.specs.CodeReports.{report_of}
use Rattle.ped_session.specs.AutoAnswers.{auto_text}
use Rattle.ped_session.proofs.Answering.{same_answered}
use Rattle.ped_session.proofs.answers.answer_auto.Goals as goal

unrefused : (b : Bool) → b ≡ (b || false)
unrefused true = refl
unrefused false = refl

pub returns-clause-answers : goal.returns-clause-answers
returns-clause-answers g c = record {
  said = record { bytes = auto_text c.args.line (report_of c.in_ok-report.report) c.auto.new.editor.present; refused = false; tests = c.auto.new.steps - c.args.steps.now };
  is = (record { report = report_of c.in_ok-report.report; does = c.in_ok-report.ensures.does; says = refl }, refl);
  adds = same_answered
      (c.in_ok-extend_from_slice.ensures.ok ∙ ap (λ (t : List ℕ). c.args.answered.now.bytes ++ t) (c.as_slice.ensures ∙ c.in_ok-text.ensures ∙ ap (auto_text c.args.line (report_of c.in_ok-report.report)) c.source.ensures))
      (unrefused c.args.answered.now.refused);
  ticks = let least : c.args.steps.now ≤ c.auto.new.steps = c.auto.ensures.least in omega (arith, least);
}

pub returns-clause-most : goal.returns-clause-most
returns-clause-most g c = λ said next h. c.in_ok-report.ensures.most h.0.report next said.tests h.0.does

pub returns-in_err-report-clause-most : goal.returns-in_err-report-clause-most
returns-in_err-report-clause-most g c = λ said next h. c.in_err-report.ensures.most h.0.report next said.tests h.0.does

pub returns-in_err-text-clause-most : goal.returns-in_err-text-clause-most
returns-in_err-text-clause-most g c = λ said next h. c.in_ok-report.ensures.most h.0.report next said.tests h.0.does

pub returns-in_err-extend_from_slice-clause-most : goal.returns-in_err-extend_from_slice-clause-most
returns-in_err-extend_from_slice-clause-most g c = λ said next h. c.in_ok-report.ensures.most h.0.report next said.tests h.0.does
