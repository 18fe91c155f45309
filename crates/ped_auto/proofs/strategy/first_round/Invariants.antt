use Rattle.std.proofs.Common.{ℕ, ◌-◌, ◌≤◌}
use Rattle.ped_auto.specs.Strategy.{Visits}
use Rattle.ped_auto.specs.CodeStages.{stage}
use Rattle.ped_auto.proofs.Rounding.{IsOnRound}
use Rattle.ped_auto.proofs.strategy.first_round.Given as goal

-- the rest of the round leads on
abbrev pub invariant-loop-number : goal.invariant-loop-number
invariant-loop-number g l = record {
  on : (before : ℕ) → before ≤ l.fn.steps → IsOnRound g.E.Editor.editing (Visits g.E.Editor.editing) (stage l.fn.editor l.fn.accepted (l.fn.steps - before)) (stage l.editor l.accepted (l.steps - before)) l.number;
  first : 1 ≤ l.number;
  small : l.number ≤ 4001;
  least : l.fn.steps ≤ l.steps;
}

abbrev pub decreases-loop-number : goal.decreases-loop-number
decreases-loop-number g l = 4001 - l.number
