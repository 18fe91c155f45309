use Rattle.std.proofs.Common.{length, map}
use Rattle.ped_tree.specs.Grammar.ItemViews.{entry_of}
use Rattle.ped_tree.specs.Grammar.RefusalViews.{found_of}
use Rattle.ped_refusals.specs.OpenContexts.{context_of}
use Rattle.ped_refusals.proofs.Reaching.{Reached}
use Rattle.ped_refusals.proofs.refusals.first_refusal.Given as goal

abbrev pub invariant-loop-entry : goal.invariant-loop-entry
invariant-loop-entry l = Reached l.saved (map entry_of l.entries) (context_of l.context) (found_of l.found) (map entry_of l.left)

abbrev pub decreases-loop-entry : goal.decreases-loop-entry
decreases-loop-entry l = length l.left
