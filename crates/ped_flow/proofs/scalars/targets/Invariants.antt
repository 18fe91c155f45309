use Rattle.std.proofs.Common.{◌≡◌, map, drop}
use Rattle.std.specs.List.{flat_map}
use Rattle.ped_tree.specs.Views.{expr_tree}
use Rattle.ped_flow.specs.Events.{left_events}
use Rattle.ped_flow.specs.Summaries.{summary_in_turn, summary_events}
use Rattle.ped_flow.specs.Kept.{name_of, constants_of}
use Rattle.ped_flow.proofs.scalars.targets.Given as goal

abbrev pub invariant-loop-left : goal.invariant-loop-left
invariant-loop-left l =
    summary_in_turn l.summary (summary_events (name_of l.scalar) (flat_map (left_events (constants_of l.scalar) l.number) (map expr_tree (drop l.left-index l.lefts))))
    ≡ summary_events (name_of l.scalar) (flat_map (left_events (constants_of l.scalar) l.number) (map expr_tree l.lefts))
