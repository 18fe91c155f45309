use Rattle.std.proofs.Common.{Option, sym, ◌∙◌, subst}
use Rattle.ped_tree.specs.Views.{program_tree, stmt_trees, head_of}
use Rattle.ped_edges.specs.declared.edges.Edge.{Edge}
use Rattle.ped_rules.specs.Carried.{IsFirstOf as IsFirstEdge}
use Rattle.ped_reduce.specs.CodeRules.{IsFirstOf, behind_limit}
use Rattle.ped_reduce.specs.Reducing.{carried_beside, IsUnlowerable}
use Rattle.ped_reduce.proofs.ReducingAnswers as answers
use Rattle.ped_reduce.proofs.reducing.behind_limit.Goals as goal

pub returns-then-branch : goal.returns-then-branch
returns-then-branch g c =
    answers.listed_refusal c.args.number c.args.names.now (program_tree c.args.scene.now.tree.now) c.requires.clear (head_of c.args.d.now) (stmt_trees c.args.d.now.body.items) c.requires.is c.requires.valid
    c.against.result c.against.ensures (sym c.in_ok-has_list.ensures ∙ c.if-branch.true)

pub is_unlowerable-requires-clause-new : goal.is_unlowerable-requires-clause-new
is_unlowerable-requires-clause-new g c = sym c.in_ok-has_list.ensures ∙ c.if-branch.false

pub returns-then-branch-2 : goal.returns-then-branch-2
returns-then-branch-2 g c =
    answers.unlowerable_refusal c.args.number c.args.names.now (program_tree c.args.scene.now.tree.now) c.requires.clear (head_of c.args.d.now) (stmt_trees c.args.d.now.body.items) c.requires.is c.requires.valid
    c.against-then-branch-2.result c.against-then-branch-2.ensures (c.in_ok-is_unlowerable.ensures.0 c.if-branch-2.true)

pub returns-in-Some : goal.returns-in-Some
returns-in-Some g c =
    let t = program_tree c.args.scene.now.tree.now in
    let s = c.args.number in
    let names = c.args.names.now in
    let unlowerable = answers.not_so (IsUnlowerable t s names) c.in_ok-is_unlowerable.field-0 c.in_ok-is_unlowerable.ensures c.if-branch-2.false in
    let first = subst (IsFirstOf (behind_limit s names t)) c.in-Some.is c.in_ok-first.ensures in
    answers.late_refusal s names t c.requires.clear (head_of c.args.d.now) (stmt_trees c.args.d.now.body.items) c.requires.is c.requires.valid (sym c.in_ok-has_list.ensures ∙ c.if-branch.false) unlowerable
    c.in-Some.first c.against-in-Some.result c.against-in-Some.ensures first

pub returns-in-Some-2 : goal.returns-in-Some-2
returns-in-Some-2 g c =
    let t = program_tree c.args.scene.now.tree.now in
    let s = c.args.number in
    let names = c.args.names.now in
    let unlowerable = answers.not_so (IsUnlowerable t s names) c.in_ok-is_unlowerable.field-0 c.in_ok-is_unlowerable.ensures c.if-branch-2.false in
    let none = subst (IsFirstOf (behind_limit s names t)) c.in_default.is c.in_ok-first.ensures in
    let first = subst (λ (o : Option Edge). IsFirstEdge t (carried_beside t s names) o) c.in-Some-2.is c.in_ok-edge.ensures in
    answers.edge_refusal s names t c.requires.clear (head_of c.args.d.now) (stmt_trees c.args.d.now.body.items) c.requires.is c.requires.valid (sym c.in_ok-has_list.ensures ∙ c.if-branch.false) unlowerable
    c.in-Some-2.edge none first

pub returns-in-None : goal.returns-in-None
returns-in-None g c =
    let t = program_tree c.args.scene.now.tree.now in
    let s = c.args.number in
    let names = c.args.names.now in
    let unlowerable = answers.not_so (IsUnlowerable t s names) c.in_ok-is_unlowerable.field-0 c.in_ok-is_unlowerable.ensures c.if-branch-2.false in
    let none = subst (IsFirstOf (behind_limit s names t)) c.in_default.is c.in_ok-first.ensures in
    let first = subst (λ (o : Option Edge). IsFirstEdge t (carried_beside t s names) o) c.in-None.is c.in_ok-edge.ensures in
    answers.no_refusal s names t c.requires.clear (head_of c.args.d.now) (stmt_trees c.args.d.now.body.items) c.requires.is c.requires.valid (sym c.in_ok-has_list.ensures ∙ c.if-branch.false) unlowerable
    none first
