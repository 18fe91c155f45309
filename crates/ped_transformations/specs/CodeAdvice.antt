-- What the code of the advice finds. Only contracts of private functions use it (this project).
use Rattle.std.specs.Prelude.{◌≡◌, ℕ, List, ◌++◌, Option, Some, None, Result, Ok, Err, option_map, ⊤}
use Rattle.ped_tree.specs.Tree.{ProgramTree}
use Rattle.ped_auto.specs.ped_rules.specs.ped_steps.specs.declared.causes.Refused.{Refused}
use Rattle.ped_auto.specs.ped_rules.specs.ped_steps.specs.declared.changes.Change.{Change}
use Rattle.ped_auto.specs.ped_rules.specs.ped_steps.specs.CodeCauses.{cause_of, IsShort}
use Rattle.ped_auto.specs.ped_rules.specs.Steps.{StepAt}
use Rattle.ped_transformations.specs.Advice.{Advised, IsLineOf}

-- the cause in what a step answers, or that there is none
abbrev pub cause_in : Result Change Refused → Option Refused
cause_in (Ok change) = None
cause_in (Err refused) = Some refused

-- a cause, where one was found, can be put into words
abbrev pub IsTellable : Option Refused → Type 0
IsTellable None = ⊤
IsTellable (Some refused) = IsShort refused

-- the first cause against a step in a program is what was found, and that can be put into words
abbrev pub IsAgainst : StepAt → ProgramTree → Option Refused → Type 0
IsAgainst at t found = at.IsCause t (option_map cause_of found) × IsTellable found

-- the line of a step at a statement follows what was there
pub record Tells (t : ProgramTree) (s : ℕ) (step : Advised) (before behind : List ℕ) : Type 0 where
  pub line : List ℕ
  pub is_line : IsLineOf t s step line
  pub adds : behind ≡ before ++ line
