use Rattle.std.proofs.Common.{drop, map}
use Rattle.std.specs.Prelude.{◌↔◌}
use Rattle.ped_tree.specs.Views.{expr_tree, pack_exprs}
use Rattle.ped_loop_runs.specs.ped_flow.specs.PlainBounds.{ArePlainlyBuilt}
use Rattle.ped_rules.specs.CodePlain.{tree_at, values_at}
use Rattle.ped_rules.proofs.bounds.+plainness.Given as goal

abbrev pub invariant-are_built-loop-argument : goal.invariant-are_built-loop-argument
invariant-are_built-loop-argument l =
    ArePlainlyBuilt (values_at l.place) (tree_at l.place) l.place.number (pack_exprs (map expr_tree (drop l.argument-index l.arguments)))
    ↔ ArePlainlyBuilt (values_at l.place) (tree_at l.place) l.place.number (pack_exprs (map expr_tree l.arguments))
