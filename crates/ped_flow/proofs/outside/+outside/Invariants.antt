use Rattle.std.proofs.Common.{◌≡◌, ◌+◌, drop}
use Rattle.ped_tree.specs.Views.{stmt_trees}
use Rattle.ped_tree.specs.Numbering.{statements_count}
use Rattle.ped_flow.specs.Summaries.{least_of}
use Rattle.ped_flow.specs.Kept.{name_of, constants_of, all_first_outside}
use Rattle.ped_flow.specs.Entries.{AreKnown}
use Rattle.ped_flow.proofs.outside.+outside.Given as goal

abbrev pub invariant-outside_all-loop-s : goal.invariant-outside_all-loop-s
invariant-outside_all-loop-s l = record {
  first : least_of l.first (all_first_outside (constants_of l.scalar) (name_of l.scalar) (stmt_trees (drop l.s-index l.body)) l.number) ≡ all_first_outside (constants_of l.scalar) (name_of l.scalar) (stmt_trees l.body) l.initial.number;
  number : l.number + statements_count (stmt_trees (drop l.s-index l.body)) ≡ l.initial.number + statements_count (stmt_trees l.body);
  known : AreKnown l.scalar (stmt_trees (drop l.s-index l.body)) l.number;
}
