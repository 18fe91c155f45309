use Rattle.std.proofs.Common.{◌≡◌, ◌+◌, ◌≤◌, ◌++◌, drop, length}
use Rattle.ped_tree.specs.Numbering.{statements_count}
use Rattle.ped_tree.specs.Views.{stmt_trees}
use Rattle.ped_refs.specs.References.{statements_references}
use Rattle.ped_refs.specs.Occurrences.{references_of}
use Rattle.ped_refs.specs.Listing.{constants_round, nest_round}
use Rattle.ped_refs.proofs.occurring.+statements.Given as goal

abbrev pub invariant-add_statements-loop-statement : goal.invariant-add_statements-loop-statement
invariant-add_statements-loop-statement l = record {
  before : l.before + statements_count (stmt_trees (drop l.statement-index l.statements)) ≡ l.fn.before + statements_count (stmt_trees l.statements);
  few : length (statements_references (constants_round l.around) (nest_round l.around) (l.before + 1) (stmt_trees (drop l.statement-index l.statements)))
      ≤ length (statements_references (constants_round l.around) (nest_round l.around) (l.fn.before + 1) (stmt_trees l.statements));
  found : references_of l.found.items ++ statements_references (constants_round l.around) (nest_round l.around) (l.before + 1) (stmt_trees (drop l.statement-index l.statements))
      ≡ references_of l.fn.found.items ++ statements_references (constants_round l.around) (nest_round l.around) (l.fn.before + 1) (stmt_trees l.statements);
}
