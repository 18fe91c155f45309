use Rattle.std.proofs.Common.{◌≡◌, ◌-◌, ◌++◌, List, All, length, drop, true}
use Rattle.std.specs.List.{list_all}
use Rattle.ped_views.specs.Views.{SubscriptPair}
use Rattle.ped_views.specs.Limits.{FitsLoops}
use Rattle.ped_graph.specs.Sides.{is_usable, AreOwnPositions}
use Rattle.ped_graph.proofs.told.positions.Given as goal

-- the positions so far fit; with those of the subscripts ahead they are all
abbrev pub invariant-loop-i : goal.invariant-loop-i
invariant-loop-i l = record {
  fit : All (FitsLoops l.common (length l.source.loops - l.common) (length l.sink.loops - l.common)) l.found.items;
  told : list_all is_usable l.source.positions ≡ true → list_all is_usable l.sink.positions ≡ true
      → (rest : List SubscriptPair) → AreOwnPositions l.common (drop l.i l.source.positions) (drop l.i l.sink.positions) rest
      → AreOwnPositions l.common l.source.positions l.sink.positions (l.found.items ++ rest);
}
