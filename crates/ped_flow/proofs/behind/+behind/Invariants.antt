use Rattle.std.proofs.Common.{◌≡◌, ◌+◌, drop}
use Rattle.ped_tree.specs.Views.{stmt_trees}
use Rattle.ped_tree.specs.Numbering.{statements_count}
use Rattle.ped_flow.specs.Summaries.{summary_in_turn, summary_either, summary_of_all, summary_behind_all}
use Rattle.ped_flow.specs.Kept.{name_of, constants_of}
use Rattle.ped_flow.specs.Entries.{AreKnown}
use Rattle.ped_flow.proofs.behind.+behind.Given as goal

abbrev pub invariant-behind_all-loop-s : goal.invariant-behind_all-loop-s
invariant-behind_all-loop-s l = record {
  sum : summary_either (summary_in_turn l.summary (summary_of_all (constants_of l.scalar) (name_of l.scalar) (stmt_trees (drop l.s-index l.body)) l.number))
      (summary_behind_all (constants_of l.scalar) (name_of l.scalar) l.l (stmt_trees (drop l.s-index l.body)) l.number)
      ≡ summary_behind_all (constants_of l.scalar) (name_of l.scalar) l.l (stmt_trees l.body) l.initial.number;
  number : l.number + statements_count (stmt_trees (drop l.s-index l.body)) ≡ l.initial.number + statements_count (stmt_trees l.body);
  known : AreKnown l.scalar (stmt_trees (drop l.s-index l.body)) l.number;
}
