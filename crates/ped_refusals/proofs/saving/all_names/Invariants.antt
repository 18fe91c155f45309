use Rattle.std.proofs.Common.{◌≡◌, map, drop}
use Rattle.std.specs.List.{flat_map}
use Rattle.ped_tree.specs.Grammar.Occurrences.{entry_names}
use Rattle.ped_tree.specs.Grammar.ItemViews.{entry_of}
use Rattle.ped_tree.specs.Names.Collecting.{with_names}
use Rattle.ped_refusals.proofs.saving.all_names.Given as goal

abbrev pub invariant-loop-entry : goal.invariant-loop-entry
invariant-loop-entry l = with_names l.names (flat_map entry_names (map entry_of (drop l.entry-index l.entries))) ≡ with_names l.initial.names (flat_map entry_names (map entry_of l.entries))
