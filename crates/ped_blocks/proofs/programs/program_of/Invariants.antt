use Rattle.std.proofs.Common.{◌≡◌, map}
use Rattle.std.specs.Vec.Iter.{into_iter_items}
use Rattle.ped_tree.specs.Grammar.ItemViews.{entry_of}
use Rattle.ped_blocks.specs.Machine.{nothing_built, take_entries}
use Rattle.ped_blocks.specs.BlockViews.{built_of}
use Rattle.ped_blocks.proofs.programs.program_of.Given as goal

abbrev pub invariant-loop-entry : goal.invariant-loop-entry
invariant-loop-entry l =
    take_entries l.saved (built_of l.built) (map entry_of (into_iter_items l.entry-iterator)) ≡ take_entries l.saved nothing_built (map entry_of l.fn.entries.items)
