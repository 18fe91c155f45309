use Rattle.std.proofs.Common.{◌≡◌, map, drop}
use Rattle.ped_tree.specs.Views.{expr_tree, pack_exprs}
use Rattle.ped_flow.specs.Events.{reads_of, all_scalars_in}
use Rattle.ped_flow.specs.Summaries.{summary_in_turn, summary_events}
use Rattle.ped_flow.specs.Kept.{name_of, constants_of}
use Rattle.ped_flow.proofs.scalars.+expressions.Given as goal

abbrev pub invariant-expressions-loop-e : goal.invariant-expressions-loop-e
invariant-expressions-loop-e l =
    summary_in_turn l.summary (summary_events (name_of l.scalar) (reads_of l.number (all_scalars_in (constants_of l.scalar) (pack_exprs (map expr_tree (drop l.e-index l.es))))))
    ≡ summary_events (name_of l.scalar) (reads_of l.number (all_scalars_in (constants_of l.scalar) (pack_exprs (map expr_tree l.es))))
