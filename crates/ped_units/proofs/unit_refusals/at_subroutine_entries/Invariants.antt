use Rattle.std.proofs.Common.{◌≡◌, map, drop}
use Rattle.std.specs.List.{flat_map}
use Rattle.ped_tree.specs.Grammar.Refusal.{earliest}
use Rattle.ped_tree.specs.Grammar.RefusalViews.{found_of}
use Rattle.ped_units.specs.Refusals.{at_subroutine_entry}
use Rattle.ped_units.specs.Views.{unit_entry_of}
use Rattle.ped_units.proofs.unit_refusals.at_subroutine_entries.Given as goal

abbrev pub invariant-loop-entry : goal.invariant-loop-entry
invariant-loop-entry l = earliest (found_of l.found) (flat_map at_subroutine_entry (map unit_entry_of (drop l.entry-index l.entries))) ≡ earliest (found_of l.initial.found) (flat_map at_subroutine_entry (map unit_entry_of l.entries))
