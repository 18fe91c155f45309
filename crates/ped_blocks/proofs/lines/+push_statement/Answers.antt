use Rattle.std.proofs.Common.{◌≡◌, ◌+◌, ◌∷◌, drop, rules, arith, ap, ◌∙◌}
use Rattle.std.proofs.lemmas.Result.{on_ok_weaker}
use Rattle.std.proofs.lemmas.Grind.{common_steps}
use Rattle.ped_tree.specs.Views.{stmt_tree, stmt_trees}
use Rattle.ped_tree.specs.Numbering.{statement_count, statements_count}
use Rattle.ped_blocks.proofs.Counts.{count_of_if, count_of_loop}
use Rattle.ped_blocks.proofs.Repeated.{lines_of_if, lines_of_loop, lines_left}
use Rattle.ped_blocks.proofs.lines.+push_statement.Goals as goal

pub push_statement-returns-in_ok-push_statements-in-If :
    goal.push_statement-returns-in_ok-push_statements-in-If
push_statement-returns-in_ok-push_statements-in-If t c =
    let count : statement_count (stmt_tree c.args.stmt.now) ≡ statements_count (stmt_trees c.in-If.then_part.items) + statements_count (stmt_trees c.in-If.else_part.items) + 1 = ap (λ s. statement_count (stmt_tree s)) c.in-If.is ∙ count_of_if c.in-If.condition c.in-If.then_part c.in-If.else_part in
    on_ok_weaker c.push_statements-in-If.result
    (λ e. lines_of_if c.args.lines.now.items c.push.new.self.items c.push_statements.new.lines.items c.push_statements-in-If.new.lines.items (statements_count (stmt_trees c.in-If.then_part.items)) (statements_count (stmt_trees c.in-If.else_part.items)) _ c.args.line count (search rules) (search rules) (grind (arith, e)))
    c.push_statements-in-If.ensures

pub push_statement-returns-in_ok-push-in-Do : goal.push_statement-returns-in_ok-push-in-Do
push_statement-returns-in_ok-push-in-Do t c =
    let count : statement_count (stmt_tree c.args.stmt.now) ≡ statements_count (stmt_trees c.in-Do.body.body.items) + 1 = ap (λ s. statement_count (stmt_tree s)) c.in-Do.is ∙ count_of_loop c.in-Do.body in
    on_ok_weaker c.push_statements-in-Do.result
    (λ e. lines_of_loop c.args.lines.now.items c.push-in-Do.new.self.items c.push_statements-in-Do.new.lines.items (statements_count (stmt_trees c.in-Do.body.body.items)) _ c.args.line count (search rules) (grind (arith, e)))
    c.push_statements-in-Do.ensures

pub push_statements-loop-stmt-preserved : goal.push_statements-loop-stmt-preserved
push_statements-loop-stmt-preserved t c =
    let i = c.loop-stmt.stmt-index in
    let all = c.args.stmts.now in
    let first : drop i all ≡ c.stmt-item.result ∷ drop (i + 1) all = grind (arith, common_steps) in
    lines_left c.loop-stmt.lines.items c.push_statement.new.lines.items _ (statement_count (stmt_tree c.stmt-item.result)) (statements_count (stmt_trees (drop (i + 1) all))) _ c.args.line
    (ap (λ x. statements_count (stmt_trees x)) first)
    (search rules)
    c.loop-stmt.invariant
