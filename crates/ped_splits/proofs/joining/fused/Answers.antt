use Rattle.std.proofs.Common.{List, map, sym, ap, ◌∙◌}
use Rattle.ped_tree.specs.Tree.{Head, StmtTree, StmtTrees, Do}
use Rattle.ped_tree.specs.Views.{stmt_trees, decl_tree}
use Rattle.ped_tree.specs.declared.declarations.Decl.{Decl}
use Rattle.ped_rules.specs.ped_steps.specs.Replacing.{followed}
use Rattle.ped_splits.specs.Neighbours.{joined_head, renamed_body}
use Rattle.ped_splits.specs.CodePairs.{all_joined}
use Rattle.ped_splits.proofs.Joints.{joined_gap}
use Rattle.ped_splits.proofs.joining.fused.Goals as goal

pub returns-clause-tree : goal.returns-clause-tree
returns-clause-tree c = λ is.
    let p = c.args.pair.now in
    let x = is.neighbour in
    let joined : Head → StmtTrees → StmtTrees → Head → StmtTrees → StmtTree = λ h own between k next. Do (joined_head h k) (followed own (followed between (renamed_body h k next))) in
    let new = c.in_ok-new.ensures ∙ (λ i. joined (sym is.own i) (sym is.own_body i) (sym is.between i) (sym is.next i) (sym is.next_body i)) in
    let decls = c.in_ok-decls.ensures ∙ ap (λ (ds : List Decl). map decl_tree ds) c.deref.ensures.value in
    let made = rw c.in_ok-body.was at c.joined_among-body.ensures in
    let body =
    made
    ∙ (λ i. all_joined (new i) p.number (stmt_trees (c.deref-2.ensures.value i)) 1)
    ∙ ap (λ (ts : StmtTrees). all_joined (joined x.own x.own_body x.between x.next x.next_body) p.number ts 1) x.stands
    ∙ joined_gap (joined x.own x.own_body x.between x.next x.next_body) p.number x.own x.own_body x.between x.next x.next_body x.comments x.gap 1 x.numbered in
    λ i. record { decls = decls i; body = body i }
