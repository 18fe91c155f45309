-- What a step answers, where it is known which it is.
use Rattle.std.proofs.Common.{◌≡◌, ℕ, Result, sym, subst}
use Rattle.std.specs.Prelude.{IfOk}
use Rattle.ped_base.specs.declared.memory.NoMemory.{NoMemory}
use Rattle.ped_tree.specs.Tree.{ProgramTree}
use Rattle.ped_script.specs.declared.kinds.WhichStep.{WhichStep}
use Rattle.ped_auto.specs.ped_rules.specs.ped_steps.specs.declared.causes.Refused.{Refused}
use Rattle.ped_auto.specs.ped_rules.specs.ped_steps.specs.declared.changes.Change.{Change}
use Rattle.ped_auto.specs.ped_rules.specs.Steps.{Answers}
use Rattle.ped_transformations.specs.Table.{step_at}

pub answered : (t : ProgramTree) (number : ℕ) (k step : WhichStep) → step ≡ k → (found : Result (Result Change Refused) NoMemory) → IfOk found (Answers (step_at number k) t) → IfOk found (Answers (step_at number step) t)
answered t number k step is found h = subst (λ (w : WhichStep). IfOk found (Answers (step_at number w) t)) (sym is) h
