-- What forbids `reduce`, as the code finds it. Only contracts of private functions use it (this project).
use Rattle.std.specs.Prelude.{ℕ, List, Option, Some, None}
use Rattle.ped_tree.specs.Tree.{ProgramTree}
use Rattle.ped_rules.specs.ped_steps.specs.declared.causes.Refused.{Refused}
use Rattle.ped_rules.specs.ped_steps.specs.Causes.{IsFirstCause}
use Rattle.ped_rules.specs.ped_steps.specs.CodeCauses.{cause_of, IsShort}
use Rattle.ped_reduce.specs.Reducing.{StandsAgainstReducing, carried_beside}

-- the first cause against the step; or there is none
abbrev pub IsFirstRefusal : (s : ℕ) → List (List ℕ) → ProgramTree → Option Refused → Type 0
IsFirstRefusal s names t None = IsFirstCause t (StandsAgainstReducing s names t) (carried_beside t s names) None
IsFirstRefusal s names t (Some refused) = IsFirstCause t (StandsAgainstReducing s names t) (carried_beside t s names) (Some (cause_of refused)) × IsShort refused
