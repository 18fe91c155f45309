use Rattle.std.proofs.Common.{◌≡◌, drop}
use Rattle.ped_tree.specs.Views.{stmt_trees, program_tree}
use Rattle.ped_tree.specs.Views.{head_of}
use Rattle.ped_tree.specs.NamesIn.{all_loop_variables}
use Rattle.ped_flow.specs.Escapes.{either_escape, escapes_of}
use Rattle.ped_flow.proofs.escapes.+escapes.Given as goal

abbrev pub invariant-escapes_in-loop-s : goal.invariant-escapes_in-loop-s
invariant-escapes_in-loop-s l =
    either_escape l.escape (escapes_of (program_tree l.l.flow.now.program.now) l.l.number (head_of l.l.body.now) (stmt_trees l.l.body.now.body.items) (all_loop_variables (stmt_trees (drop l.s-index l.statements))))
    ≡ escapes_of (program_tree l.l.flow.now.program.now) l.l.number (head_of l.l.body.now) (stmt_trees l.l.body.now.body.items) (all_loop_variables (stmt_trees l.statements))
