use Rattle.std.proofs.Common.{◌≡◌, ℕ, length, take, slice_index_or, false}
use Rattle.ped_refs.specs.Occurrences.{references_of}
use Rattle.ped_splits.specs.CodeUnits.{refers_by}
use Rattle.ped_splits.proofs.arrows.units_with.Given as goal

abbrev pub invariant-loop-occurrence : goal.invariant-loop-occurrence
invariant-loop-occurrence l = (length l.units ≡ l.width) × ((i : ℕ) → slice_index_or l.units i false ≡ refers_by l.parted.number l.parted.homes.now (references_of (take l.occurrence-index l.found)) l.name i)
