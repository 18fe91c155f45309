-- What a machine of the code stands for, and what its steps answer (this project).
use Rattle.std.specs.Prelude.{◌≡◌, ℕ, List, Result, Ok, Err}
use Rattle.ped_tree.specs.Tree.{ProgramTree}
use Rattle.ped_store.specs.Stores.{Store}
use Rattle.ped_store.specs.Acts.{Act, store_behind}
use Rattle.ped_interleavings.specs.Lefts.{Left, finished}
use Rattle.ped_interleavings.specs.Steps.{Next, over, met, went, halted}
use Rattle.ped_interleavings.specs.ped_eval.specs.Outcomes.{Outcome, Fault, setting_of, outcome_of}
use Rattle.ped_interleavings.specs.ped_eval.specs.Runs.{going}
use Rattle.ped_interleavings.specs.Interleavings.{Standing, IsReached}
use Rattle.ped_machine.specs.declared.steps.Step.{Step}
use Rattle.ped_machine.specs.declared.steps.Step.TheVariants as step

-- a run with its state: the program, the rest of it, and its store
pub record Held : Type 0 where
  pub tree : ProgramTree
  pub left : Left
  pub store : Store

-- the same with the choices that it has not used
abbrev pub standing : Held → List ℕ → Standing
standing h choices = record { left = h.left; choices = choices; store = h.store }

-- the same program is left the same, with the same store
pub record IsSameRun (old new : Held) : Type 0 where
  pub tree : new.tree ≡ old.tree
  pub left : new.left ≡ old.left
  pub store : new.store ≡ old.store

-- after an act this is the rest
pub record IsBehind (a : Act) (rest : Left) (old new : Held) : Type 0 where
  pub left : new.left ≡ rest
  pub store : new.store ≡ store_behind a.touches old.store

-- the answer of a step says what its result is, and the run is in the state after it; after a fault nothing is said about the run
abbrev pub IsStepBy : Next → Held → Step → Held → Type 0
IsStepBy over old step.Ended new = IsSameRun old new
IsStepBy (met fault statement) old (step.Fault number n) new = (number ≡ fault) × (n ≡ statement)
IsStepBy (went a rest) old step.Went new = IsBehind a rest old new
IsStepBy (halted a) old step.Went new = IsBehind a finished old new
IsStepBy next old answer new = ⊥

-- something holds but after a fault
abbrev pub IfFaultless : {E : Type 0} → Result Step E → Type 0 → Type 0
IfFaultless (Ok step.Went) P = P
IfFaultless (Ok step.Ended) P = P
IfFaultless (Ok (step.Fault number n)) P = Unit {0}
IfFaultless (Err e) P = P

-- a run with these choices reaches this state, with some choices left
abbrev pub ReachesSome : Held → List ℕ → Held → Type 0
ReachesSome old choices new = (left : List ℕ) × IsReached (setting_of old.tree) (standing old choices) (standing new left)

-- the outcome of a run whose last step has answered so
abbrev pub IsOutcomeBy : Step → Held → Outcome → Type 0
IsOutcomeBy step.Went h o = Unit {0}
IsOutcomeBy step.Ended h o = o ≡ outcome_of h.tree (going h.store)
IsOutcomeBy (step.Fault number n) h o = o ≡ Fault number n
