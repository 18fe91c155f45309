use Rattle.std.proofs.Common.{◌≡◌, ◌+◌, map, arith, rules, ap, ◌∙◌}
use Rattle.std.proofs.lemmas.Result.{on_ok_weaker}
use Rattle.ped_tree.specs.Tree.{Do}
use Rattle.ped_tree.specs.Views.{head, stmt_tree, stmt_trees}
use Rattle.ped_print.specs.PrintedLines.{line_of}
use Rattle.ped_print.proofs.Nests.{stmt_tree-Do, else_part, do_part}
use Rattle.ped_print.proofs.nesting.+nesting.Goals as goal

pub push_else-returns-clause-lines : goal.push_else-returns-clause-lines
push_else-returns-clause-lines t c =
    on_ok_weaker c.push_statements.result
    (λ e. else_part c.args.all.now c.args.depth (c.args.before + 1) (map line_of c.args.lines.now.items) (map line_of c.push_words.new.lines.items) (map line_of c.push_statements.new.lines.items) (λ h. grind (arith, h, c.if-is_empty.false, c.is_empty.ensures, c.if-is_empty.ensures)) c.in_ok-push_words.ensures.lines e)
    c.push_statements.ensures.lines

pub push_statement-returns-in_ok-push_words-in-Do-clause-lines :
    goal.push_statement-returns-in_ok-push_words-in-Do-clause-lines
push_statement-returns-in_ok-push_words-in-Do-clause-lines t c =
    let d = c.in-Do.head in
    let e : stmt_tree c.args.statement.now ≡ Do (head d.variable d.first d.last d.step d.parallel d.private d.rejected) (stmt_trees d.body.items) = ap stmt_tree c.in-Do.is ∙ stmt_tree-Do d in
    rw e
    (do_part (head d.variable d.first d.last d.step d.parallel d.private d.rejected) (stmt_trees d.body.items) c.args.depth (c.args.before + 1)
    (map line_of c.args.lines.now.items) (map line_of c.push_head.new.lines.items) (map line_of c.push_statements-in-Do.new.lines.items) (map line_of c.push_words.new.lines.items)
    (grind (arith, c.in_ok-push_head-in-Do.ensures.lines, e)) (search rules) (search rules))
