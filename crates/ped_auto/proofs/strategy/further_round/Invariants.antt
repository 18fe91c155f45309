use Rattle.std.proofs.Common.{◌≡◌, ℕ, ◌-◌, ◌≤◌, length}
use Rattle.ped_auto.specs.Strategy.{VisitsAgain}
use Rattle.ped_auto.specs.CodeStages.{stage}
use Rattle.ped_auto.proofs.Rounding.{IsOnRound}
use Rattle.ped_auto.proofs.LeftLoops.{AreLeftSoFar}
use Rattle.ped_auto.proofs.strategy.further_round.Given as goal

-- the rest of the round leads on; where nothing was accepted, the causes so far are those of the DOs so far
abbrev pub invariant-loop-number : goal.invariant-loop-number
invariant-loop-number g l = record {
  on : (before : ℕ) → before ≤ l.fn.steps → IsOnRound g.E.Editor.editing (VisitsAgain g.E.Editor.editing) (stage l.fn.editor l.fn.accepted (l.fn.steps - before)) (stage l.editor l.accepted (l.steps - before)) l.number;
  left : length l.accepted ≡ length l.fn.accepted → AreLeftSoFar g.E.Editor.editing l.editor l.number l.left;
  first : 1 ≤ l.number;
  small : l.number ≤ 4001;
  least : l.fn.steps ≤ l.steps;
}

abbrev pub decreases-loop-number : goal.decreases-loop-number
decreases-loop-number g l = 4001 - l.number
