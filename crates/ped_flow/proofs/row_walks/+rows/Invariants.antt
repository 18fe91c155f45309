use Rattle.std.proofs.Common.{◌≡◌, ℕ, ◌+◌, ◌<◌, ◌≤◌, ◌++◌, List, Option, drop}
use Rattle.ped_tree.specs.Views.{stmt_trees}
use Rattle.ped_tree.specs.Numbering.{statements_count}
use Rattle.ped_tree.specs.NamesIn.{all_loop_variables}
use Rattle.ped_flow.specs.Summaries.{least_of, summary_in_turn, summary_of_all}
use Rattle.ped_flow.specs.Kept.{all_first_outside}
use Rattle.ped_flow.specs.RowMarks.{names_in, constants_in}
use Rattle.ped_flow.specs.Parts.{IsPart}
use Rattle.ped_flow.specs.Entries.{entry_at, KnowsAll, AreSameBut}
use Rattle.ped_flow.specs.declared.summaries.Summary.{Summary}
use Rattle.ped_flow.specs.declared.entries.Entry.{Entry}
use Rattle.ped_flow.proofs.row_walks.+rows.Given as goal

abbrev pub invariant-all_parts-loop-s : goal.invariant-all_parts-loop-s
invariant-all_parts-loop-s l = record {
  number : l.number + statements_count (stmt_trees (drop l.s-index l.body)) ≡ l.initial.number + statements_count (stmt_trees l.body);
  after : l.initial.number ≤ l.number;
  sum : List ℕ → Summary;
  outside : List ℕ → Option ℕ;
  variables : List (List ℕ);
  is : IsPart (names_in l.places) l.part sum outside variables;
  summaries : (x : List ℕ) → summary_in_turn (sum x) (summary_of_all (constants_in l.places) x (stmt_trees (drop l.s-index l.body)) l.number) ≡ summary_of_all (constants_in l.places) x (stmt_trees l.body) l.initial.number;
  loose : (x : List ℕ) → least_of (outside x) (all_first_outside (constants_in l.places) x (stmt_trees (drop l.s-index l.body)) l.number) ≡ all_first_outside (constants_in l.places) x (stmt_trees l.body) l.initial.number;
  indices : variables ++ all_loop_variables (stmt_trees (drop l.s-index l.body)) ≡ all_loop_variables (stmt_trees l.body);
  known : (table : List (Option Entry)) → ((k : ℕ) → k < l.number → entry_at table k ≡ entry_at l.table k) → KnowsAll l.places table (stmt_trees (drop l.s-index l.body)) l.number → KnowsAll l.places table (stmt_trees l.body) l.initial.number;
  others : AreSameBut l.initial.table l.table l.initial.number l.number;
}
