use Rattle.std.proofs.Common.{◌≡◌, ◌-◌, length}
use Rattle.ped_store.specs.DataLines.{next_value_of}
use Rattle.ped_store.specs.DataPlaces.{data_at, IsPlaceIn}
use Rattle.ped_store.proofs.data_lines.value_place.Given as goal

abbrev pub invariant-loop-place : goal.invariant-loop-place
invariant-loop-place l = record {
  within : IsPlaceIn l.input l.place;
  same : next_value_of (data_at l.input l.fn.start) ≡ next_value_of (data_at l.input l.place);
}

abbrev pub decreases-loop-place : goal.decreases-loop-place
decreases-loop-place l = length l.input - l.place.next
