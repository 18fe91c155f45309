use Rattle.std.proofs.Common.{List, Bool, map, length, drop}
use Rattle.std.specs.Vec.Iter.{into_iter_items}
use Rattle.ped_tree.specs.Grammar.ItemViews.{entry_of}
use Rattle.ped_units.specs.Reading.{UnitEntry}
use Rattle.ped_units.specs.Seeing.{AreSeen, call_view}
use Rattle.ped_units.proofs.KeptCalls.{KeptSoFar}
use Rattle.ped_units.proofs.seen.Seen.kept.Given as goal

abbrev pub invariant-loop-entry : goal.invariant-loop-entry
invariant-loop-entry l = (in_subroutine : Bool) (es : List UnitEntry) → AreSeen in_subroutine es l.fn.self → KeptSoFar in_subroutine es (map entry_of l.kept.items) (map entry_of (into_iter_items l.entry-iterator)) (map call_view (drop (length l.kept.items) l.calls.items))
