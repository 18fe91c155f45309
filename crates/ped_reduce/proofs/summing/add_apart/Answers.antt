use Rattle.std.proofs.Common.{◌≡◌, List, Some, map, sym, ap, ◌∙◌, subst, arith}
use Rattle.std.specs.Prelude.{OnOk, option_map}
use Rattle.std.proofs.lemmas.List.{drop_all}
use Rattle.ped_tree.specs.Tree.{StmtTrees}
use Rattle.ped_tree.specs.Views.{stmt_tree, stmt_trees}
use Rattle.ped_tree.specs.declared.statements.Stmt.{Stmt}
use Rattle.ped_rules.specs.ped_steps.specs.Replacing.{followed, alone}
use Rattle.ped_reduce.specs.declared.partials.Partials.{Partials}
use Rattle.ped_reduce.specs.Sums.{sum_to}
use Rattle.ped_reduce.specs.CodeSums.{sum_view}
use Rattle.ped_reduce.specs.Lowering.{added_apart, sum_apart}
use Rattle.ped_reduce.specs.CodeLowering.{partials_view}
use Rattle.ped_reduce.proofs.SummedCode.{apart_here}
use Rattle.ped_reduce.proofs.summing.add_apart.Goals as goal

pub returns-in-Some : goal.returns-in-Some
returns-in-Some c =
    let v = c.args.v in
    let ps = c.args.partials.now in
    let s = stmt_tree c.args.statement.now in
    let sum = sum_view c.in-Some.sum in
    let told : Some sum ≡ sum_to c.p-item.result.scalar s = ap (option_map sum_view) (sym c.in-Some.is) ∙ c.sum_to.ensures in
    let here = apart_here v ps c.loop-p.p-index c.p-item.result c.loop-p-test.true c.p-item.is s sum (sum_apart v (map partials_view ps) s) c.loop-p.invariant.rest told in
    let whole = ap (λ (ss : List Stmt). followed (stmt_trees ss) (added_apart v (partials_view c.p-item.result) sum)) c.loop-p.invariant.kept ∙ ap (λ (ts : StmtTrees). followed (stmt_trees c.args.all.now.items) ts) here in
    subst (λ (ts : StmtTrees). OnOk c.add_sum.result (stmt_trees c.add_sum.new.all.items ≡ ts)) whole c.add_sum.ensures

pub returns : goal.returns
returns c =
    let v = c.args.v in
    let s = stmt_tree c.args.statement.now in
    let left = drop_all c.loop-p.p-index c.args.partials.now (omega (arith, c.loop-p-test.false)) in
    let itself = ap alone c.in_ok-copy.ensures ∙ ap (λ (ps : List Partials). sum_apart v (map partials_view ps) s) (sym left) ∙ c.loop-p.invariant.rest in
    let whole = ap (λ (ss : List Stmt). followed (stmt_trees ss) (alone (stmt_tree c.in_ok-copy.field-0))) c.loop-p.invariant.kept ∙ ap (λ (ts : StmtTrees). followed (stmt_trees c.args.all.now.items) ts) itself in
    subst (λ (ts : StmtTrees). OnOk c.add_one.result (stmt_trees c.add_one.new.all.items ≡ ts)) whole c.add_one.ensures
