use Rattle.std.proofs.Common.{ℕ, ◌+◌, ◌-◌, ◌≤◌, length}
use Rattle.ped_rules.specs.ped_flow.specs.ped_tree.specs.Tree.{ProgramTree}
use Rattle.ped_auto.specs.SerialLoops.{serial_loops}
use Rattle.ped_auto.specs.CodeStages.{stage}
use Rattle.ped_auto.proofs.FurtherRounding.{IsOnRounds}
use Rattle.ped_auto.proofs.strategy.further_rounds.Given as goal

-- the rest of the rounds leads on; each accepted command has made a PARALLEL DO of one of at most 4,000 DOs
abbrev pub invariant-loop-left : goal.invariant-loop-left
invariant-loop-left g l = record {
  on : (before : ℕ) → before ≤ l.fn.steps → IsOnRounds g.E.Editor.editing (stage l.fn.editor l.fn.accepted (l.fn.steps - before)) (stage l.editor l.accepted (l.steps - before));
  fewer : (t : ProgramTree) → g.E.Editor.editing.Reads l.editor t → length l.accepted + length (serial_loops t) ≤ length l.fn.accepted + 4000;
  least : l.fn.steps ≤ l.steps;
}

abbrev pub decreases-loop-left : goal.decreases-loop-left
decreases-loop-left g l = length l.fn.accepted + 4001 - length l.accepted
