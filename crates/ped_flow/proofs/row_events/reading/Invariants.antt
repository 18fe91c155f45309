use Rattle.std.proofs.Common.{◌≡◌, ℕ, [], List, Option, map, length, drop}
use Rattle.std.specs.List.{flat_map}
use Rattle.ped_tree.specs.Views.{expr_tree}
use Rattle.ped_flow.specs.Events.{left_events}
use Rattle.ped_flow.specs.Summaries.{least_of, summary_in_turn, summary_events}
use Rattle.ped_flow.specs.Kept.{first_reader}
use Rattle.ped_flow.specs.RowMarks.{names_in, constants_in}
use Rattle.ped_flow.specs.Parts.{IsPart}
use Rattle.ped_flow.specs.declared.summaries.Summary.{Summary}
use Rattle.ped_flow.proofs.row_events.reading.Given as goal

abbrev pub invariant-loop-left : goal.invariant-loop-left
invariant-loop-left l = record {
  width : l.part.summaries.width ≡ length (names_in l.places);
  part : (n : ℕ) → record {
    sum : List ℕ → Summary;
    outside : List ℕ → Option ℕ;
    is : IsPart (names_in l.places) l.part sum outside [];
    summaries : (x : List ℕ) → summary_in_turn (sum x) (summary_events x (flat_map (left_events (constants_in l.places) n) (map expr_tree (drop l.left-index l.lefts)))) ≡ summary_events x (flat_map (left_events (constants_in l.places) n) (map expr_tree l.lefts));
    loose : (x : List ℕ) → least_of (outside x) (first_reader x (flat_map (left_events (constants_in l.places) n) (map expr_tree (drop l.left-index l.lefts)))) ≡ first_reader x (flat_map (left_events (constants_in l.places) n) (map expr_tree l.lefts));
  };
}
