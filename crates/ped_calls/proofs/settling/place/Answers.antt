use Rattle.std.proofs.Common.{◌≡◌, List, [], map, length, true, false, sym, ap, ◌∙◌, arith}
use Rattle.std.proofs.lemmas.List.{nil_from_length}
use Rattle.std.proofs.lemmas.Result.{on_ok_weaker}
use Rattle.ped_tree.specs.Tree.{more_stmts}
use Rattle.ped_tree.specs.Views.{decl_tree, stmt_tree}
use Rattle.ped_tree.specs.declared.statements.Stmt.{Stmt}
use Rattle.ped_calls.specs.Opening.{placed, is_comment}
use Rattle.ped_calls.proofs.Settled.{is_zero, placed_pushed}
use Rattle.ped_calls.proofs.settling.place.Goals as goal

pub returns-then-not-is_empty : goal.returns-then-not-is_empty
returns-then-not-is_empty c left =
    let ds = map decl_tree c.args.decls.now.items in
    let rest = c.args.rest.now in
    let counted : length rest.items ≡ rest.len = omega (arith, rest.ok.0) in
    ap (λ (ss : List Stmt). placed ds (map stmt_tree ss) left) c.in_ok-push.ensures.items
    ∙ placed_pushed ds rest.items c.args.statement left rest.len counted (sym c.is_empty.ensures ∙ c.if-not-is_empty.true)

pub returns : goal.returns
returns c =
    let old = map decl_tree c.args.decls.now.items in
    let new = map decl_tree c.push_comment-done.new.decls.items in
    let rest = c.args.rest.now in
    let zero : rest.len ≡ 0 = is_zero rest.len (sym c.is_empty.ensures ∙ c.if-not-is_empty.false) in
    let none : rest.items ≡ [] = nil_from_length rest.items (omega (arith, zero, rest.ok.0)) in
    let remark : is_comment (stmt_tree c.args.statement) ≡ true = sym c.is_comment.ensures ∙ c.if-not-is_comment.false in
    on_ok_weaker c.push_comment-done.result
    (λ h left.
    ap (λ (ss : List Stmt). placed new (map stmt_tree ss) left) none
    ∙ h remark left
    ∙ ap (λ (ss : List Stmt). placed old (map stmt_tree ss) (more_stmts (stmt_tree c.args.statement) left)) (sym none))
    c.push_comment-done.ensures
