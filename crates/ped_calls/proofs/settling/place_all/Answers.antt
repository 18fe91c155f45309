use Rattle.std.proofs.Common.{rules, ◌≡◌, List, [], map, sym, ap, ◌∙◌, arith}
use Rattle.std.proofs.lemmas.List.{nil_from_length}
use Rattle.std.specs.Vec.Iter.{into_iter_items}
use Rattle.ped_tree.specs.Views.{decl_tree, stmt_tree, stmt_trees}
use Rattle.ped_tree.specs.declared.statements.Stmt.{Stmt}
use Rattle.ped_calls.specs.Opening.{placed}
use Rattle.ped_calls.proofs.Settled.{placed_end}
use Rattle.ped_calls.proofs.settling.place_all.Goals as goal

pub returns-clause-tree : goal.returns-clause-tree
returns-clause-tree c =
    let at = c.loop-statement in
    let none : into_iter_items at.statement-iterator ≡ [] = nil_from_length _ (omega (arith, c.in-None.ensures.steps.0, at.statement-iterator.rest.ok.0)) in
    let whole : into_iter_items c.into_iter-statement-iterator.result ≡ c.args.body.items = search rules in
    sym (placed_end (map decl_tree at.decls.items) (map stmt_tree at.rest.items))
    ∙ ap (λ (ss : List Stmt). placed (map decl_tree at.decls.items) (map stmt_tree at.rest.items) (stmt_trees ss)) (sym none)
    ∙ at.invariant
    ∙ (λ i. placed (map decl_tree c.args.declared.items) (map stmt_tree (c.new-rest.ensures.items i)) (stmt_trees (whole i)))
