use Rattle.std.proofs.Common.{◌≡◌, [], map, sym, ap, ◌∙◌, arith}
use Rattle.std.proofs.lemmas.List.{nil_from_length}
use Rattle.std.specs.Vec.Iter.{into_iter_items}
use Rattle.ped_tree.specs.Views.{decl_tree, stmt_trees}
use Rattle.ped_rules.specs.CodeSettling.{decls_of, body_of}
use Rattle.ped_rules.proofs.Settled.{decls_at_end, body_at_end}
use Rattle.ped_rules.proofs.settling.behind_comments.Goals as goal

pub returns-clause-decls : goal.returns-clause-decls
returns-clause-decls c =
    let at = c.loop-statement in
    let decls = map decl_tree at.decls.items in
    let body = stmt_trees at.body.items in
    let none : into_iter_items at.statement-iterator ≡ [] = nil_from_length _ (omega (arith, c.in-None.ensures.steps.0, at.statement-iterator.rest.ok.0)) in
    sym (decls_at_end decls body) ∙ ap (λ x. decls_of decls body (stmt_trees x)) (sym none) ∙ at.invariant.decls

pub returns-clause-body : goal.returns-clause-body
returns-clause-body c =
    let at = c.loop-statement in
    let body = stmt_trees at.body.items in
    let none : into_iter_items at.statement-iterator ≡ [] = nil_from_length _ (omega (arith, c.in-None.ensures.steps.0, at.statement-iterator.rest.ok.0)) in
    sym (body_at_end body) ∙ ap (λ x. body_of body (stmt_trees x)) (sym none) ∙ at.invariant.body
