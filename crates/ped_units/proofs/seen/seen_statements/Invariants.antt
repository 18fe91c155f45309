use Rattle.std.proofs.Common.{◌≡◌, ◌++◌, map, drop}
use Rattle.std.specs.Vec.Iter.{into_iter_items}
use Rattle.ped_tree.specs.Grammar.ItemViews.{entry_of}
use Rattle.ped_units.specs.Reading.{as_entries, stand_in}
use Rattle.ped_units.specs.Seeing.{ends_next, call_view, calls_in_entries}
use Rattle.ped_units.specs.Views.{unit_entry_of}
use Rattle.ped_units.proofs.seen.seen_statements.Given as goal

abbrev pub invariant-loop-entry : goal.invariant-loop-entry
invariant-loop-entry l = record {
  entries : map entry_of l.seen.entries.items ++ as_entries stand_in l.in_subroutine (map unit_entry_of (into_iter_items l.entry-iterator)) ≡ as_entries stand_in l.in_subroutine (map unit_entry_of l.fn.entries.items);
  calls : map call_view l.seen.calls.items ++ calls_in_entries (map unit_entry_of (into_iter_items l.entry-iterator)) ≡ calls_in_entries (map unit_entry_of l.fn.entries.items);
  ends : drop l.place l.before_end.items ≡ ends_next (map unit_entry_of (into_iter_items l.entry-iterator));
}
