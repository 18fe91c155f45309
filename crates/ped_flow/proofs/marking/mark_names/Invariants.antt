use Rattle.std.proofs.Common.{◌≡◌, List, Bool, length, drop}
use Rattle.ped_flow.specs.RowPlaces.{AreMarked}
use Rattle.ped_flow.specs.RowMarks.{names_in}
use Rattle.ped_flow.proofs.marking.mark_names.Given as goal

abbrev pub invariant-loop-name : goal.invariant-loop-name
invariant-loop-name l = record {
  width : length l.row ≡ length (names_in l.places);
  marked : (new : List Bool) → AreMarked (names_in l.places) l.row new (drop l.name-index l.names) → AreMarked (names_in l.places) l.initial.row new l.names;
}
