use Rattle.std.proofs.Common.{◌≡◌, ◌++◌, map}
use Rattle.std.specs.Vec.Iter.{into_iter_items}
use Rattle.ped_units.specs.Reading.{segments_of}
use Rattle.ped_units.specs.Seeing.{segments_onto}
use Rattle.ped_units.specs.Views.{unit_entry_of, segment_of}
use Rattle.ped_units.proofs.segments.segments.Given as goal

abbrev pub invariant-loop-entry : goal.invariant-loop-entry
invariant-loop-entry l =
    map segment_of l.done.items ++ segments_onto (segment_of l.current) l.ended (map unit_entry_of (into_iter_items l.entry-iterator)) ≡ segments_of (map unit_entry_of l.fn.entries.items)
