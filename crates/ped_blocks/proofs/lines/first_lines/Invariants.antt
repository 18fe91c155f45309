use Rattle.std.proofs.Common.{◌≡◌, ◌++◌, map, drop}
use Rattle.ped_tree.specs.Grammar.ProgramForms as Spec
use Rattle.ped_tree.specs.Grammar.ItemViews.{entry_of}
use Rattle.ped_blocks.proofs.lines.first_lines.Given as goal

abbrev pub invariant-loop-entry : goal.invariant-loop-entry
invariant-loop-entry l =
    l.lines.items ++ Spec.first_lines l.saved (map entry_of (drop l.entry-index l.entries)) ≡ Spec.first_lines l.saved (map entry_of l.entries)
