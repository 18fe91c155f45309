use Rattle.std.proofs.Common.{◌≡◌, ◌+◌, drop}
use Rattle.ped_tree.specs.Views.{stmt_trees}
use Rattle.ped_tree.specs.Numbering.{statements_count}
use Rattle.ped_flow.specs.Summaries.{summary_in_turn, summary_either, summary_before_all}
use Rattle.ped_flow.specs.Kept.{name_of, constants_of}
use Rattle.ped_flow.specs.Entries.{AreKnown}
use Rattle.ped_flow.proofs.before.+before.Given as goal

abbrev pub invariant-before_all-loop-s : goal.invariant-before_all-loop-s
invariant-before_all-loop-s l = record {
  sum : summary_either l.summary (summary_in_turn l.way (summary_before_all (constants_of l.scalar) (name_of l.scalar) l.l (stmt_trees (drop l.s-index l.body)) l.number))
      ≡ summary_before_all (constants_of l.scalar) (name_of l.scalar) l.l (stmt_trees l.body) l.initial.number;
  number : l.number + statements_count (stmt_trees (drop l.s-index l.body)) ≡ l.initial.number + statements_count (stmt_trees l.body);
  known : AreKnown l.scalar (stmt_trees (drop l.s-index l.body)) l.number;
}
