use Rattle.std.proofs.Common.{◌≡◌, ◌+◌, List, map, sym, ap, ◌∙◌}
use Rattle.ped_tree.specs.Tree.{StmtTree, If, Do}
use Rattle.ped_tree.specs.Numbering.{numbered, all_numbered}
use Rattle.ped_tree.specs.Views.{cond_tree, stmt_tree, stmt_trees, head_of}
use Rattle.ped_tree.specs.declared.statements.Stmt.{Stmt}
use Rattle.ped_tree.proofs.Levels.{stmt_tree-If}
use Rattle.ped_reduce.specs.CodeLowering.{partials_view}
use Rattle.ped_reduce.proofs.LoweredCounts.{sums_in}
use Rattle.ped_reduce.proofs.OriginsCode.{loop_tree, sums_if, sums_do}
use Rattle.ped_reduce.proofs.origins.+sums.Goals as goal

pub count_sums_in-returns-in-If-clause-value : goal.count_sums_in-returns-in-If-clause-value
count_sums_in-returns-in-If-clause-value t c =
    let ps = map partials_view c.args.partials.now in
    let a = stmt_trees c.in-If.then_part.items in
    let b = stmt_trees c.in-If.else_part.items in
    let tree : stmt_tree c.args.statement.now ≡ If (cond_tree c.in-If.condition) a b = ◌∙◌ {A = StmtTree} (ap stmt_tree c.in-If.is) (stmt_tree-If c.in-If.condition c.in-If.then_part c.in-If.else_part) in
    let first : c.count_sums.result ≡ sums_in ps (all_numbered a) = c.count_sums.ensures.value ∙ ap (λ (ss : List Stmt). sums_in ps (all_numbered (stmt_trees ss))) c.deref.ensures.value in
    let second : c.count_sums-in-If.result ≡ sums_in ps (all_numbered b) = c.count_sums-in-If.ensures.value ∙ ap (λ (ss : List Stmt). sums_in ps (all_numbered (stmt_trees ss))) c.deref-in-If.ensures.value in
    (λ i. first i + second i) ∙ sums_if ps (cond_tree c.in-If.condition) a b ∙ ap (λ (s : StmtTree). sums_in ps (numbered s)) (sym tree)

pub count_sums_in-returns-in-Do-clause-value : goal.count_sums_in-returns-in-Do-clause-value
count_sums_in-returns-in-Do-clause-value t c =
    let ps = map partials_view c.args.partials.now in
    let d = c.in-Do.d in
    let tree : stmt_tree c.args.statement.now ≡ Do (head_of d) (stmt_trees d.body.items) = ◌∙◌ {A = StmtTree} (ap stmt_tree c.in-Do.is) (loop_tree d) in
    c.count_sums-in-Do.ensures.value
    ∙ ap (λ (ss : List Stmt). sums_in ps (all_numbered (stmt_trees ss))) c.deref-in-Do.ensures.value
    ∙ sums_do ps (head_of d) (stmt_trees d.body.items)
    ∙ ap (λ (s : StmtTree). sums_in ps (numbered s)) (sym tree)
