use Rattle.std.proofs.Common.{◌≡◌, ℕ, ◌-◌, ◌≤◌, drop, false}
use Rattle.ped_auto.specs.CodeStages.{stage, HasStatement}
use Rattle.ped_auto.proofs.EachName.{IsOnEach}
use Rattle.ped_auto.proofs.strategy.privatise_each.Given as goal

-- the rest of the names leads on; where none was taken, nothing has changed
abbrev pub invariant-loop-name : goal.invariant-loop-name
invariant-loop-name g l = record {
  there : HasStatement g.E.Editor.editing l.editor l.number;
  on : (before : ℕ) → before ≤ l.fn.steps → IsOnEach g.E.Editor.editing l.number l.names (drop l.name-index l.names) (stage l.fn.editor l.fn.accepted (l.fn.steps - before)) (stage l.editor l.accepted (l.steps - before));
  none : l.taken ≡ false → (before : ℕ) → before ≤ l.fn.steps → stage l.editor l.accepted (l.steps - before) ≡ stage l.fn.editor l.fn.accepted (l.fn.steps - before);
  least : l.fn.steps ≤ l.steps;
}
