use Rattle.std.proofs.Common.{List, map, sym, ap, ◌∙◌, arith}
use Rattle.std.proofs.lemmas.List.{drop_all}
use Rattle.ped_tree.specs.Views.{stmt_trees}
use Rattle.ped_tree.specs.declared.statements.Stmt.{Stmt}
use Rattle.ped_rules.specs.ped_steps.specs.Replacing.{followed}
use Rattle.ped_rules.specs.ped_steps.proofs.Followed.{followed-none}
use Rattle.ped_reduce.specs.Lowering.{all_summed}
use Rattle.ped_reduce.specs.CodeLowering.{partials_view}
use Rattle.ped_reduce.proofs.SummedCode.{summed_next}
use Rattle.ped_reduce.proofs.summing.+summed.Goals as goal

pub add_summed-loop-statement-preserved : goal.add_summed-loop-statement-preserved
add_summed-loop-statement-preserved t c =
    let v = c.args.v in
    let ps = map partials_view c.args.partials.now in
    summed_next v ps c.args.statements.now c.loop-statement.statement-index c.statement-item.result c.loop-statement-test.true c.statement-item.is
    _ _ _ c.loop-statement.invariant c.in_ok-add_one_summed.ensures

pub add_summed-returns : goal.add_summed-returns
add_summed-returns t c =
    let all = stmt_trees c.loop-statement.all.items in
    let left = drop_all c.loop-statement.statement-index c.args.statements.now (omega (arith, c.loop-statement-test.false)) in
    sym (followed-none all) ∙ ap (λ (ss : List Stmt). followed all (all_summed c.args.v (map partials_view c.args.partials.now) (stmt_trees ss))) (sym left) ∙ c.loop-statement.invariant
