use Rattle.std.proofs.Common.{◌≡◌, ◌++◌, map, drop}
use Rattle.ped_tree.specs.Grammar.Occurrences as Spec
use Rattle.ped_tree.specs.Grammar.StatementViews.{note_of}
use Rattle.ped_blocks.proofs.directives.rejected_names.Given as goal

abbrev pub invariant-loop-directive : goal.invariant-loop-directive
invariant-loop-directive l =
    l.names ++ Spec.rejected_names (map note_of (drop l.directive-index l.directives)) ≡ Spec.rejected_names (map note_of l.directives)
