use Rattle.std.proofs.Common.{◌≤◌, ◌∙◌, ap, map, length, arith, take_all}
use Rattle.ped_tree.specs.Views.{expr_tree, stmt_tree, pack_stmts}
use Rattle.ped_symbolic.specs.Substitution.{statement_substituted}
use Rattle.ped_symbolic.proofs.Packed.{statements_packed}
use Rattle.ped_symbolic.proofs.substitution.statements.+substitute_in_statement.Goals as goal

pub substitute_in_statements-returns : goal.substitute_in_statements-returns
substitute_in_statements-returns t c =
    let x = c.args.name.now in
    let by = expr_tree c.args.by.now in
    let old = map stmt_tree c.args.statements.now in
    let ended : length c.args.statements.now ≤ c.loop-statement.statement-index = omega (arith, c.loop-statement-test.false, c.loop-statement.auto.statement-index-end) in
    ap pack_stmts (c.loop-statement.invariant ∙ ap (λ ss. map (statement_substituted x by) (map stmt_tree ss)) (take_all c.loop-statement.statement-index c.args.statements.now ended)) ∙ statements_packed x by old
