use Rattle.std.proofs.Common.{List, sym, ap, ◌∙◌, arith}
use Rattle.std.proofs.lemmas.List.{drop_all}
use Rattle.ped_tree.specs.Views.{stmt_trees}
use Rattle.ped_tree.specs.declared.statements.Stmt.{Stmt}
use Rattle.ped_rules.specs.ped_steps.specs.Replacing.{followed}
use Rattle.ped_rules.specs.ped_steps.proofs.Followed.{followed-none}
use Rattle.ped_splits.proofs.joining.add_copies.Goals as goal

pub returns : goal.returns
returns c =
    let all = stmt_trees c.loop-statement.all.items in
    let left = drop_all c.loop-statement.statement-index c.args.statements.now (omega (arith, c.loop-statement-test.false)) in
    sym (followed-none all) ∙ ap (λ (ss : List Stmt). followed all (stmt_trees ss)) (sym left) ∙ c.loop-statement.invariant
