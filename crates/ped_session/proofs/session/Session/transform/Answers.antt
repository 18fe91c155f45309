use Rattle.std.proofs.Common.{◌≡◌, ℕ, is_some, ap, sym, ◌∙◌, subst}
use Rattle.std.proofs.lemmas.Result.{IfOk-weaker}
use Rattle.ped_tree.specs.Views.{program_tree}
use Rattle.ped_tree.specs.Numbering.{statement_with}
use Rattle.ped_transformations.specs.Table.{step_of}
use Rattle.ped_transformations.proofs.StepKinds.{kind_is}
use Rattle.ped_versions.specs.declared.changes.ChangeKind.{ChangeKind}
use Rattle.ped_versions.specs.States.{State}
use Rattle.ped_versions.specs.ped_valid.specs.Validity.{ReadsValid}
use Rattle.ped_session.specs.Changing.{Takes}
use Rattle.ped_transformations.specs.Table.{step_at}
use Rattle.ped_script.specs.declared.kinds.WhichStep.{WhichStep}
use Rattle.ped_versions.specs.declared.changes.ChangeKind.TheVariants.{Transformation}
use Rattle.ped_session.specs.Steps.{change_by}
use Rattle.ped_session.proofs.ParallelAnswers.{answers_parallel}
use Rattle.ped_session.proofs.Stepping.{is_missing, is_there, takes, tests_most}
use Rattle.ped_session.proofs.session.Session.transform.Goals as goal

pub returns-then-not-has_statement-clause-answers : goal.returns-then-not-has_statement-clause-answers
returns-then-not-has_statement-clause-answers g c =
    let t = program_tree c.present.result.program.now in
    let reads = subst (λ (s : State). ReadsValid s.present t) c.self.view_is c.present.ensures.reads in
    let command = c.args.command.now in
    is_missing (step_of command) t c.args.self.now reads
    (ap (λ (n : ℕ). is_some (statement_with n t)) (kind_is command.statement command.step).0 ∙ sym (c.has_statement.ensures t c.present.ensures.is.graph) ∙ c.if-not-has_statement.true)

pub returns-clause-answers : goal.returns-clause-answers
returns-clause-answers g c =
    let t = program_tree c.present.result.program.now in
    let reads = subst (λ (s : State). ReadsValid s.present t) c.self.view_is c.present.ensures.reads in
    let s = c.args.self.now in
    let command = c.args.command.now in
    let at = step_of command in
    let there = ap (λ (n : ℕ). is_some (statement_with n t)) (kind_is command.statement command.step).0 ∙ sym (c.has_statement.ensures t c.present.ensures.is.graph) ∙ c.if-not-has_statement.false in
    IfOk-weaker c.take.result _ _ (λ r taken.
    takes at s c.take.new.self r c.in_ok-answer.answer (is_there at.statement t s reads there)
    c.in_ok-answer.ensures.answers (subst (λ (k : ChangeKind). Takes k c.in_ok-answer.answer s r c.take.new.self) c.change_of.ensures taken)) c.take.ensures.answers

pub returns-clause-most : goal.returns-clause-most
returns-clause-most g c reply next h =
    let t = program_tree c.present.result.program.now in
    let reads = subst (λ (s : State). ReadsValid s.present t) c.self.view_is c.present.ensures.reads in
    let s = c.args.self.now in
    let command = c.args.command.now in
    let at = step_of command in
    let there = ap (λ (n : ℕ). is_some (statement_with n t)) (kind_is command.statement command.step).0 ∙ sym (c.has_statement.ensures t c.present.ensures.is.graph) ∙ c.if-not-has_statement.false in
    tests_most at s c.in_ok-answer.answer c.args.steps.now c.take.new.steps (c.every_step_is_lawful.ensures command)
    (is_there at.statement t s reads there)
    c.in_ok-answer.ensures.answers c.take.ensures.most reply next h

pub take_parallel-requires-clause-parallel : goal.take_parallel-requires-clause-parallel
take_parallel-requires-clause-parallel g c =
    let command = c.args.command.now in
    answers_parallel command.statement command.step c.args.self.now c.in_ok-answer.answer (c.is_parallel.ensures c.if-is_parallel.true) c.in_ok-answer.ensures.answers

pub returns-then-is_parallel-clause-answers : goal.returns-then-is_parallel-clause-answers
returns-then-is_parallel-clause-answers g c =
    let t = program_tree c.present.result.program.now in
    let reads = subst (λ (s : State). ReadsValid s.present t) c.self.view_is c.present.ensures.reads in
    let s = c.args.self.now in
    let command = c.args.command.now in
    let at = step_of command in
    let there = ap (λ (n : ℕ). is_some (statement_with n t)) (kind_is command.statement command.step).0 ∙ sym (c.has_statement.ensures t c.present.ensures.is.graph) ∙ c.if-not-has_statement.false in
    let kind : change_by at.kind ≡ Transformation = ap (λ (w : WhichStep). change_by (step_at command.statement w).kind) (c.is_parallel.ensures c.if-is_parallel.true) in
    IfOk-weaker c.take_parallel.result _ _ (λ r taken.
    takes at s c.take_parallel.new.self r c.in_ok-answer.answer (is_there at.statement t s reads there)
    c.in_ok-answer.ensures.answers (subst (λ (k : ChangeKind). Takes k c.in_ok-answer.answer s r c.take_parallel.new.self) (sym kind) taken)) c.take_parallel.ensures.answers
