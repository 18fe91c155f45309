use Rattle.std.proofs.Common.{◌+◌, ◌*◌, map, drop}
use Rattle.ped_tree.specs.Views.{stmt_tree, stmt_trees}
use Rattle.ped_links.specs.ped_units.specs.Expanding.{call_expanded}
use Rattle.ped_calls.specs.Courses.{ExpandsOn, units_of}
use Rattle.ped_calls.specs.Meaning.{meanings_of}
use Rattle.ped_calls.proofs.Measures.{stmt_weight, stmts_weight, expand_measure}
use Rattle.ped_calls.proofs.expanding.File.+expand.Given as goal

abbrev pub decreases-statements : goal.decreases-statements
decreases-statements l = expand_measure l.self.now.units.now l.within.now.deeper (4 * stmts_weight (stmt_trees l.statements.now) + 3)

abbrev pub decreases-statement : goal.decreases-statement
decreases-statement l = expand_measure l.self.now.units.now l.within.now.deeper (4 * stmt_weight (stmt_tree l.statement.now))

abbrev pub decreases-assignment : goal.decreases-assignment
decreases-assignment l = expand_measure l.self.now.units.now l.within.now.deeper 3

abbrev pub decreases-call : goal.decreases-call
decreases-call l = expand_measure l.self.now.units.now l.within.now.deeper 2

abbrev pub decreases-block : goal.decreases-block
decreases-block l = expand_measure l.self.now.units.now l.within.now.deeper 1

abbrev pub decreases-inside : goal.decreases-inside
decreases-inside l = expand_measure l.self.now.units.now l.within.now.deeper 0

abbrev pub invariant-statements-loop-statement : goal.invariant-statements-loop-statement
invariant-statements-loop-statement l =
    ExpandsOn (meanings_of l.within.meanings.now) (call_expanded l.within.deeper (units_of l.self.units.now) l.within.constants.now)
    (stmt_trees l.statements) l.initial.course (stmt_trees (drop l.statement-index l.statements)) (map stmt_tree l.all.items) l.course
