use Rattle.std.proofs.Common.{◌≡◌, ◌+◌, ◌++◌, drop}
use Rattle.ped_tree.specs.Views.{stmt_trees}
use Rattle.ped_tree.specs.Numbering.{statements_count}
use Rattle.ped_refs.specs.Loops.{nest_of}
use Rattle.ped_weaves.specs.ped_flow.specs.PlainBounds.{all_loops_round}
use Rattle.ped_steps.proofs.rounds.+round.Given as goal

abbrev pub invariant-add_all-loop-statement : goal.invariant-add_all-loop-statement
invariant-add_all-loop-statement l = record {
  number : l.next + statements_count (stmt_trees (drop l.statement-index l.statements)) ≡ l.place + statements_count (stmt_trees l.statements);
  round : nest_of l.loops.items ++ all_loops_round l.number (stmt_trees (drop l.statement-index l.statements)) l.next ≡ nest_of l.initial.loops.items ++ all_loops_round l.number (stmt_trees l.statements) l.place;
}
