use Rattle.std.proofs.Common.{◌≡◌, map, drop}
use Rattle.ped_tree.specs.Grammar.Occurrences.{all_constants, all_do_variables}
use Rattle.ped_tree.specs.Grammar.ItemViews.{entry_of}
use Rattle.ped_tree.specs.Names.Collecting.{with_names}
use Rattle.ped_refusals.proofs.saving.constants_and_do_variables.Given as goal

abbrev pub invariant-constants : goal.invariant-constants
invariant-constants l = with_names l.names (all_constants (map entry_of (drop l.entry-index l.entries))) ≡ with_names l.initial.names (all_constants (map entry_of l.entries))

abbrev pub invariant-variables : goal.invariant-variables
invariant-variables l = with_names l.names (all_do_variables (map entry_of (drop l.entry-index l.entries))) ≡ with_names l.initial.names (all_do_variables (map entry_of l.entries))
