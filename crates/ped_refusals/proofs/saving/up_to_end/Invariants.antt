use Rattle.std.proofs.Common.{◌≡◌, ◌++◌, map, drop, take}
use Rattle.ped_tree.specs.Grammar.Occurrences.{up_to_end}
use Rattle.ped_tree.specs.Grammar.ItemViews.{entry_of}
use Rattle.ped_refusals.proofs.saving.up_to_end.Given as goal

abbrev pub invariant-loop-i : goal.invariant-loop-i
invariant-loop-i l = map entry_of (take l.i l.entries) ++ up_to_end (map entry_of (drop l.i l.entries)) ≡ up_to_end (map entry_of l.entries)
