use Rattle.std.proofs.Common.{◌≡◌, map, drop}
use Rattle.std.specs.List.{flat_map}
use Rattle.ped_tree.specs.Views.{item_tree}
use Rattle.ped_flow.specs.Events.{reads_of, scalars_in_item}
use Rattle.ped_flow.specs.Summaries.{summary_in_turn, summary_events}
use Rattle.ped_flow.specs.Kept.{name_of, constants_of}
use Rattle.ped_flow.proofs.scalars.items.Given as goal

abbrev pub invariant-loop-i : goal.invariant-loop-i
invariant-loop-i l =
    summary_in_turn l.summary (summary_events (name_of l.scalar) (reads_of l.number (flat_map (scalars_in_item (constants_of l.scalar)) (map item_tree (drop l.i-index l.items)))))
    ≡ summary_events (name_of l.scalar) (reads_of l.number (flat_map (scalars_in_item (constants_of l.scalar)) (map item_tree l.items)))
