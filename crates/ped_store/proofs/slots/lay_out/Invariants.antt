use Rattle.std.proofs.Common.{◌≡◌, ℕ, List, drop}
use Rattle.std.specs.Option.{option_or}
use Rattle.ped_store.specs.Slots.{slot_bounds, first_bounds, IsLaid}
use Rattle.ped_store.proofs.slots.lay_out.Given as goal

abbrev pub invariant-loop-shape : goal.invariant-loop-shape
invariant-loop-shape l = record {
  laid : IsLaid 0 l.layout.slots.entries l.layout.cells;
  first : (x : List ℕ) → option_or (slot_bounds l.layout.slots.entries x) (first_bounds (drop l.shape-index l.shapes) x) ≡ first_bounds l.shapes x;
}
