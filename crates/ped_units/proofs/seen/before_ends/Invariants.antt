use Rattle.std.proofs.Common.{◌≡◌, ◌++◌, map, length}
use Rattle.ped_units.specs.Seeing.{ends_next}
use Rattle.ped_units.specs.Views.{unit_entry_of}
use Rattle.ped_units.proofs.seen.before_ends.Given as goal

abbrev pub invariant-loop-rest : goal.invariant-loop-rest
invariant-loop-rest l = l.before_end.items ++ ends_next (map unit_entry_of l.left) ≡ ends_next (map unit_entry_of l.entries)

abbrev pub decreases-loop-rest : goal.decreases-loop-rest
decreases-loop-rest l = length l.left
