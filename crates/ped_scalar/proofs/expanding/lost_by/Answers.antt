use Rattle.std.proofs.Common.{ℕ, ◌+◌, ◌<◌, ◌^◌, Some, None, MatchOption, inl, sym, ◌∙◌, subst}
use Rattle.ped_tree.specs.Tree.{ProgramTree}
use Rattle.ped_tree.specs.Views.{program_tree}
use Rattle.ped_tree.specs.Numbering.{statements_count}
use Rattle.ped_rules.specs.ped_flow.specs.Questions.{IsFirst, IsExposed, IsAssignedThrough}
use Rattle.ped_rules.specs.ped_steps.proofs.Answering.{few_numbers}
use Rattle.ped_rules.specs.Scalars.{IsLiveBy, is_scalar}
use Rattle.ped_scalar.proofs.FlowAnswers.{true_not_false}
use Rattle.ped_scalar.proofs.LostAnswers.{kept_answer, lost_answer}
use Rattle.ped_scalar.proofs.expanding.lost_by.Goals as goal

pub returns-then-not-is_scalar : goal.returns-then-not-is_scalar
returns-then-not-is_scalar g c =
    let t = program_tree c.args.scene.now.tree.now in
    λ n p. true_not_false (is_scalar t c.args.name.now) p.0 (sym (c.is_scalar.ensures t c.requires.symbols) ∙ c.if-not-is_scalar.true)

pub exposed-requires : goal.exposed-requires
exposed-requires g c =
    subst (λ (u : ProgramTree). statements_count u.body + 1 < 2 ^ 32) (sym c.requires.flow) (few_numbers (program_tree c.args.scene.now.tree.now) c.requires.valid)

pub returns-in-Some : goal.returns-in-Some
returns-in-Some g c =
    let t = program_tree c.args.scene.now.tree.now in
    let x = c.args.name.now in
    (sym (c.is_scalar.ensures t c.requires.symbols) ∙ c.if-not-is_scalar.false, inl (subst (λ (u : ProgramTree). IsFirst (IsExposed u c.args.number x) (Some c.in-Some.statement)) c.requires.flow c.in-Some.ensures))

pub assigned_through-requires : goal.assigned_through-requires
assigned_through-requires g c =
    subst (λ (u : ProgramTree). statements_count u.body + 1 < 2 ^ 32) (sym c.requires.flow) (few_numbers (program_tree c.args.scene.now.tree.now) c.requires.valid)

pub returns-then-assigned_through : goal.returns-then-assigned_through
returns-then-assigned_through g c =
    let t = program_tree c.args.scene.now.tree.now in
    let x = c.args.name.now in
    let s = c.args.number in
    kept_answer t s x (subst (λ (u : ProgramTree). IsFirst (IsExposed u s x) None) c.requires.flow c.in-None.ensures)
    (subst (λ (u : ProgramTree). IsAssignedThrough u s x) c.requires.flow (c.assigned_through.ensures.0 c.if-assigned_through.true))

pub live_by-requires : goal.live_by-requires
live_by-requires g c = record {
  few = subst (λ (u : ProgramTree). statements_count u.body + 1 < 2 ^ 32) (sym c.requires.flow) (few_numbers (program_tree c.args.scene.now.tree.now) c.requires.valid);
}

pub returns-in-None : goal.returns-in-None
returns-in-None g c =
    let t = program_tree c.args.scene.now.tree.now in
    let x = c.args.name.now in
    let s = c.args.number in
    lost_answer t s x c.live_by.result (sym (c.is_scalar.ensures t c.requires.symbols) ∙ c.if-not-is_scalar.false)
    (subst (λ (u : ProgramTree). IsFirst (IsExposed u s x) None) c.requires.flow c.in-None.ensures)
    (λ assigned. true_not_false c.assigned_through.result (c.assigned_through.ensures.1 (subst (λ (u : ProgramTree). IsAssignedThrough u s x) (sym c.requires.flow) assigned)) c.if-assigned_through.false)
    (subst (λ (u : ProgramTree). MatchOption c.live_by.result ((n : ℕ) → IsLiveBy u s x n → ⊥) (IsLiveBy u s x)) c.requires.flow c.live_by.ensures)
