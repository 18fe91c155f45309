use Rattle.std.proofs.Common.{◌≡◌, Some, None, Option, MatchOption, length, Bool, if◌then◌else◌, sym, ap, subst, ◌∙◌, eqb-true, arith}
use Rattle.ped_tree.specs.Tree.{StmtTrees, If}
use Rattle.ped_tree.specs.Views.{cond_tree, stmt_trees}
use Rattle.ped_inline.specs.Blocks as Spec
use Rattle.ped_inline.proofs.BlockAnswers.{with_else, not_always, without_else}
use Rattle.ped_inline.proofs.blocks.body_between.Goals as goal

pub returns-then-not-is_empty : goal.returns-then-not-is_empty
returns-then-not-is_empty c =
    with_else (cond_tree c.args.condition.now) (stmt_trees c.args.then_part.now) c.args.else_part.now
    (λ none. let said = c.is_empty.ensures in let some = c.if-not-is_empty.true in grind (arith, none, said, some))

pub returns-then-not-is_always : goal.returns-then-not-is_always
returns-then-not-is_always c =
    not_always (cond_tree c.args.condition.now) (stmt_trees c.args.then_part.now) (stmt_trees c.args.else_part.now) (sym c.is_always.ensures ∙ c.if-not-is_always.true)

pub returns : goal.returns
returns c =
    let empty : length c.args.else_part.now ≡ 0 = (let said = c.is_empty.ensures in let none = c.if-not-is_empty.false in grind (arith, said, none, eqb-true)) in
    let body = stmt_trees c.args.then_part.now in
    let same : Spec.block_body (If (cond_tree c.args.condition.now) body (stmt_trees c.args.else_part.now)) ≡ Spec.behind_call body =
    (without_else (cond_tree c.args.condition.now) body c.args.else_part.now empty ∙ ap (λ (b : Bool). if b then Spec.behind_call body else None) (sym c.is_always.ensures ∙ c.if-not-is_always.false)) in
    subst (λ (found : Option StmtTrees). MatchOption c.behind_call.result (found ≡ None) (λ rest. found ≡ Some (stmt_trees rest.now))) (sym same) c.behind_call.ensures
