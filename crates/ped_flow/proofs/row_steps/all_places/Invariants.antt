use Rattle.std.proofs.Common.{◌≡◌, ◌<◌, ℕ, true, length}
use Rattle.ped_flow.specs.RowPlaces.{bit}
use Rattle.ped_flow.proofs.row_steps.all_places.Given as goal

abbrev pub invariant-loop-place : goal.invariant-loop-place
invariant-loop-place l = record {
  width : length l.row ≡ l.width;
  below : (i : ℕ) → i < l.place → bit l.row i ≡ true;
}
