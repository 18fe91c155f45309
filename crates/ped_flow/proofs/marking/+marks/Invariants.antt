use Rattle.std.proofs.Common.{◌≡◌, List, Bool, length, map, drop}
use Rattle.ped_tree.specs.Views.{expr_tree, pack_exprs}
use Rattle.ped_flow.specs.Events.{all_scalars_in}
use Rattle.ped_flow.specs.RowPlaces.{AreMarked}
use Rattle.ped_flow.specs.RowMarks.{names_in, constants_in}
use Rattle.ped_flow.proofs.marking.+marks.Given as goal

abbrev pub invariant-mark_expressions-loop-e : goal.invariant-mark_expressions-loop-e
invariant-mark_expressions-loop-e l = record {
  width : length l.row ≡ length (names_in l.places);
  marked : (new : List Bool) → AreMarked (names_in l.places) l.row new (all_scalars_in (constants_in l.places) (pack_exprs (map expr_tree (drop l.e-index l.es))))
      → AreMarked (names_in l.places) l.initial.row new (all_scalars_in (constants_in l.places) (pack_exprs (map expr_tree l.es)));
}
