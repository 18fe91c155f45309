-- Answers of steps, and what a session makes of them.
use Rattle.std.proofs.Common.{◌≡◌, ℕ, ◌+◌, ◌≤◌, List, true, false, Some, None, Result, Ok, Err, is_some, refl, sym, ap, subst, ◌∙◌, arith}
use Rattle.ped_tree.specs.Tree.{ProgramTree}
use Rattle.ped_tree.specs.Views.{program_tree}
use Rattle.ped_tree.specs.Printing.{program_text}
use Rattle.ped_tree.specs.Numbering.{statement_with}
use Rattle.ped_transformations.specs.ped_symbols.specs.Kinds.{table_of}
use Rattle.ped_transformations.specs.ped_symbols.specs.NameRefusals.{IsValid}
use Rattle.ped_versions.specs.ped_valid.specs.Validity.{ReadsValid}
use Rattle.ped_versions.specs.ped_update.specs.Fresh.{tested_pairs}
use Rattle.ped_transformations.specs.ped_steps.specs.declared.causes.Refused.{Refused}
use Rattle.ped_transformations.specs.ped_steps.specs.declared.changes.Change as step
use Rattle.ped_transformations.specs.ped_steps.specs.CodeCauses.{cause_of}
use Rattle.ped_transformations.specs.ped_steps.specs.Changes.{IsChange}
use Rattle.ped_session.specs.declared.replies.Refusal.TheVariants.{NoSuchStatement}
use Rattle.ped_session.specs.declared.replies.Reply.{Reply}
use Rattle.ped_session.specs.declared.replies.Reply.TheVariants as reply
use Rattle.ped_versions.specs.States.{State, changed_to}
use Rattle.ped_transformations.specs.ped_rules.specs.Steps.{StepAt, Answers}
use Rattle.ped_transformations.specs.ped_rules.specs.Lawful.{IsLawful}
use Rattle.ped_transformations.specs.Table.{step_of}
use Rattle.ped_transformations.proofs.LawfulTable.{AllLawful}
use Rattle.ped_script.specs.declared.kinds.StepCommand.{StepCommand}
use Rattle.ped_session.specs.Steps.{change_by, Transforms, missing, forbidden, transformed}
use Rattle.ped_session.specs.Changing.{IsStepAnswer, IsTakeable, Takes, most_tests}
use Rattle.ped_session.specs.Scripts.{tests_of}
use Rattle.ped_session.proofs.OneStep.{one_tree, none_and_some, no_cause}
use Rattle.ped_session.proofs.KeptMeanings.{kept_by_step}

made : (at : StepAt) (t new : ProgramTree) (keep : List (ℕ × ℕ)) (change : step.Change) → at.Makes t new keep → IsChange new keep change → at.Makes t (program_tree change.tree) change.keep
made at t new keep change makes is =
    subst (λ (u : ProgramTree). at.Makes t u change.keep) (sym is.tree) (subst (λ (k : List (ℕ × ℕ)). at.Makes t new k) (sym is.kept) makes)

-- what a step answers for the present program
pub answered : (at : StepAt) (t : ProgramTree) (s : State) → ReadsValid s.present t → (answer : Result step.Change Refused) → Answers at t answer → IsStepAnswer at s answer
answered at t s reads (Ok change) h = (t, reads, h.0, made at t h.1 h.2 change h.3 h.4, subst IsValid (sym h.4.tree) h.4.valid)
answered at t s reads (Err why) h = (t, reads, h.0)

-- it can be taken
pub takeable : AllLawful → (command : StepCommand) (t : ProgramTree) (s : State) → ReadsValid s.present t → (answer : Result step.Change Refused) → Answers (step_of command) t answer
    → IsTakeable (change_by (step_of command).kind) s answer
takeable all command t s reads (Ok change) h =
    let new = program_tree change.tree in
    let makes = made (step_of command) t h.1 h.2 change h.3 h.4 in
    let valid : IsValid new = subst IsValid (sym h.4.tree) h.4.valid in (
      valid,
      h.4.symbols ∙ ap table_of (sym h.4.tree),
      (all command).one_to_one t new change.keep makes,
      kept_by_step all command s.present t new change.keep reads reads.valid valid h.0 makes,
    )
takeable all command t s reads (Err why) h = h.1

-- the present program has no such statement
pub is_missing : (at : StepAt) (t : ProgramTree) (s : State) → ReadsValid s.present t → is_some (statement_with at.statement t) ≡ false
    → Transforms at s (reply.Refused NoSuchStatement) s
is_missing at t s reads none = missing t reads none (refl, refl)

-- or it has
pub is_there : (number : ℕ) (u : ProgramTree) (s : State) → ReadsValid s.present u → is_some (statement_with number u) ≡ true
    → (t : ProgramTree) → ReadsValid s.present t → is_some (statement_with number t) ≡ true
is_there number u s from some t reads = subst (λ (v : ProgramTree). is_some (statement_with number v) ≡ true) (one_tree s.present u t from reads) some

-- what a step answers is taken
pub takes : (at : StepAt) (s next : State) (r : Reply) (answer : Result step.Change Refused)
    → ((t : ProgramTree) → ReadsValid s.present t → is_some (statement_with at.statement t) ≡ true)
    → IsStepAnswer at s answer → Takes (change_by at.kind) answer s r next → Transforms at s r next
takes at s next r (Ok change) some a h =
    let new = program_tree change.tree in
    let old = one_tree s.present h.1 a.0 h.2 a.1 in
    transformed a.0 new change.keep a.1 (some a.0 a.1) a.2 a.3 a.4 h.0
    (h.3 ∙ ap (λ (u : ProgramTree). changed_to (program_text new) (change_by at.kind) (tested_pairs u new change.keep) s) old)
takes at s next r (Err why) some a h = forbidden a.0 a.1 (some a.0 a.1) (cause_of why) a.2 h

-- no more is tested than its reply says
pub tests_most : (at : StepAt) (s : State) (answer : Result step.Change Refused) (before now : ℕ) → IsLawful at
    → ((t : ProgramTree) → ReadsValid s.present t → is_some (statement_with at.statement t) ≡ true)
    → IsStepAnswer at s answer → ((old : ProgramTree) → ReadsValid s.present old → now ≤ before + most_tests answer old)
    → (r : Reply) (next : State) → Transforms at s r next → now ≤ before + tests_of r next
tests_most at s (Ok change) before now lawful some a most r next (missing t reads none same) = absurd (none_and_some (statement_with at.statement t) none (some t reads))
tests_most at s (Ok change) before now lawful some a most r next (forbidden t reads there c is same) =
    absurd (no_cause c (lawful.one_cause t (Some c) None is (subst (λ (u : ProgramTree). at.IsCause u None) (one_tree s.present a.0 t a.1 reads) a.2)))
tests_most at s (Ok change) before now lawful some a most r next (transformed t new keep reads there none makes valid replies goes) =
    let here = subst (λ (u : ProgramTree). at.Makes u (program_tree change.tree) change.keep) (one_tree s.present a.0 t a.1 reads) a.3 in
    let one = lawful.one_made t new (program_tree change.tree) keep change.keep makes here in
    let tests : tests_of r next ≡ most_tests (Ok change) t = (λ i. tests_of (replies i) (goes i)) ∙ (λ i. tested_pairs t (one.0 i) (one.1 i)) in
    subst (λ (n : ℕ). now ≤ before + n) (sym tests) (most t reads)
tests_most at s (Err why) before now lawful some a most r next h = let few : now ≤ before + 0 = most a.0 a.1 in omega (arith, few)
