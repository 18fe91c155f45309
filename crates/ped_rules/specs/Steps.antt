-- Steps of the editor: of which kind one is, what forbids it, what it makes of a program, and what its code answers (ParaScope; this project).
use Rattle.std.specs.Prelude.{ℕ, List, Option, Some, None, Result, Ok, Err, ⊤}
use Rattle.ped_tree.specs.Tree.{ProgramTree}
use Rattle.ped_loop_runs.specs.ped_steps.specs.declared.causes.Refused.{Refused}
use Rattle.ped_loop_runs.specs.ped_steps.specs.declared.changes.Change.{Change}
use Rattle.ped_loop_runs.specs.ped_steps.specs.Causes.{Cause}
use Rattle.ped_loop_runs.specs.ped_steps.specs.CodeCauses.{cause_of, IsShort}
use Rattle.ped_loop_runs.specs.ped_steps.specs.Changes.{IsChange}

-- a step transforms the program, so that it means the same; or it takes down what the user says about a dependence (ParaScope)
pub data StepKind : Type 0 where
  transformation : StepKind
  rejection : StepKind

-- a step at a statement: its kind; the first cause against it in a program, or that there is none; and what it makes of a program: a new one, and the statements that it keeps, each with its number before and after the step. So it may ask the dependences of another program than the old one; and of data it may ask more than that no rejected dependence of the old one occurs there: that none does of those that it asks (ParaScope; this project)
pub record StepAt : Type 1 where
  pub statement : ℕ
  pub kind : StepKind
  pub IsCause : ProgramTree → Option Cause → Type 0
  pub Makes : ProgramTree → ProgramTree → List (ℕ × ℕ) → Type 0
  pub IsTrueFor : ProgramTree → (data_bytes : List ℕ) → Type 0

-- what a step asks of data that asks the dependences of the old program alone: nothing more (this project)
abbrev pub asks_no_more : ProgramTree → (data_bytes : List ℕ) → Type 0
asks_no_more t data_bytes = ⊤

-- what the code of a step answers for a program: a change to what the step makes of it, where nothing forbids the step; or the first cause against it (this project)
abbrev pub Answers : StepAt → ProgramTree → Result Change Refused → Type 0
Answers at t (Ok change) = at.IsCause t None × (new : ProgramTree) × (keep : List (ℕ × ℕ)) × at.Makes t new keep × IsChange new keep change
Answers at t (Err refused) = at.IsCause t (Some (cause_of refused)) × IsShort refused
