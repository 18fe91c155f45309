use Rattle.std.proofs.Common.{List, map, ap, ◌∙◌}
use Rattle.ped_tree.specs.Views.{stmt_tree}
use Rattle.ped_tree.specs.declared.statements.Stmt.{Stmt}
use Rattle.ped_links.specs.ped_units.specs.Expanding.{behind_stmts}
use Rattle.ped_calls.proofs.CourseSteps.{behind_pushed}
use Rattle.ped_calls.proofs.first_calls.add_copy.Goals as goal

pub returns : goal.returns
returns c rest =
    ap (λ (ss : List Stmt). behind_stmts (map stmt_tree ss) rest) c.in_ok-push.ensures.items
    ∙ behind_pushed c.args.copies.now.items c.in_ok-copy.field-0 (stmt_tree c.args.statement.now) rest c.in_ok-copy.ensures
