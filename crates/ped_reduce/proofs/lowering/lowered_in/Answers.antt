use Rattle.std.proofs.Common.{◌≡◌, ◌==◌, ℕ, ◌≤◌, List, [], length, false, sym, ap, ◌∙◌, subst, arith}
use Rattle.std.specs.Prelude.{IfOk}
use Rattle.std.proofs.lemmas.Bool.{both_ways}
use Rattle.std.proofs.lemmas.Result.{IfOk-weaker}
use Rattle.ped_tree.specs.Views.{program_tree, stmt_trees, head_of}
use Rattle.ped_tree.specs.declared.statements.Stmt.{Stmt}
use Rattle.ped_rules.specs.ped_steps.proofs.Answering.{few_numbers}
use Rattle.ped_reduce.specs.Lists.{list_of}
use Rattle.ped_reduce.specs.Reducing.{is_in_live}
use Rattle.ped_reduce.specs.CodeLowered.{lowered_view, IsFree, IsNext}
use Rattle.ped_reduce.proofs.LoweringAnswers.{not_forbidden, live_by}
use Rattle.ped_reduce.proofs.LoweringCode.{few_of}
use Rattle.ped_reduce.proofs.lowering.lowered_in.Goals as goal

pub is_in_live-requires : goal.is_in_live-requires
is_in_live-requires g c = few_numbers (program_tree c.args.scene.now.tree.now) c.requires.scene.valid

pub returns-then-not-branch : goal.returns-then-not-branch
returns-then-not-branch g c =
    let t = program_tree c.args.scene.now.tree.now in
    let s = c.args.number in
    let h = head_of c.args.d.now in
    let body = stmt_trees c.args.d.now.body.items in
    let same : c.deref-2.result.now ≡ list_of body = c.deref-2.ensures.value ∙ c.in_ok-names.ensures ∙ ap (λ (ss : List Stmt). list_of (stmt_trees ss)) c.deref.ensures.value in
    λ r. not_forbidden t s h body c.requires.is c.args.lowered.now r
    (λ free. both_ways c.in_ok-is_free.field-0 c.if-not-branch.true (c.in_ok-is_free.ensures.1 (subst (IsFree t s) (sym same) free)))

pub lowered_with-requires-clause-small : goal.lowered_with-requires-clause-small
lowered_with-requires-clause-small g c =
    let few = few_of (program_tree c.args.scene.now.tree.now) c.requires.scene.valid in
    let inside = c.requires.inside in
    omega (arith, few, inside)

pub returns : goal.returns
returns g c =
    let t = program_tree c.args.scene.now.tree.now in
    let s = c.args.number in
    let h = head_of c.args.d.now in
    let body = stmt_trees c.args.d.now.body.items in
    let l = c.args.lowered.now in
    let names = c.in_ok-names.ensures ∙ ap (λ (ss : List Stmt). list_of (stmt_trees ss)) c.deref.ensures.value in
    let asked : c.deref-2.result.now ≡ list_of body = c.deref-2.ensures.value ∙ names in
    let same : c.deref-3.result.now ≡ list_of body = c.deref-3.ensures.value ∙ names in
    let some : list_of body ≡ [] → ⊥ = λ none. both_ways c.is_empty.result c.if-is_empty.false (c.is_empty.ensures ∙ ap (λ (n : ℕ). n == 0) (sym c.deref-3.ensures.len ∙ ap (λ (xs : List (List ℕ)). length xs) (same ∙ none))) in
    let size = ap (λ (xs : List (List ℕ)). length xs) same in
    let long = c.deref-3.ensures.len in
    let counted = c.len.ensures in
    let eight = c.if-len-gt8.false in
    let few : length (list_of body) ≤ 8 = omega (arith, size, long, counted, eight) in
    let outside : is_in_live t (lowered_view l) s ≡ false = sym c.in_ok-is_in_live.ensures ∙ c.if-branch.false in
    let free = subst (IsFree t s) asked (c.in_ok-is_free.ensures.0 c.if-not-branch.false) in
    IfOk-weaker c.lowered_with.result _ _ (live_by t s h body c.requires.is l some few outside free)
    (subst (λ (ns : List (List ℕ)). IfOk c.lowered_with.result (IsNext s ns l)) same c.lowered_with.ensures)
