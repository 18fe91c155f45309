use Rattle.std.proofs.Common.{◌≡◌, map, drop}
use Rattle.ped_tree.specs.Grammar.Occurrences.{rejected_names}
use Rattle.ped_tree.specs.Grammar.StatementViews.{note_of}
use Rattle.ped_tree.specs.Names.Collecting.{with_names}
use Rattle.ped_refusals.proofs.occurrences.add_rejected.Given as goal

abbrev pub invariant-loop-directive : goal.invariant-loop-directive
invariant-loop-directive l = with_names l.names (rejected_names (map note_of (drop l.directive-index l.directives))) ≡ with_names l.initial.names (rejected_names (map note_of l.directives))
