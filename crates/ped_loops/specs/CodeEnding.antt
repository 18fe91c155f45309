-- How the code of a step goes: first its rules, then the dependences that forbid it. Only contracts of private functions use it (this project).
use Rattle.std.specs.Prelude.{ℕ, List, Option, Some, None, Result, Ok, Err}
use Rattle.ped_base.specs.declared.memory.NoMemory.{NoMemory}
use Rattle.ped_tree.specs.Tree.{ProgramTree}
use Rattle.ped_edges.specs.declared.edges.Edge.{Edge}
use Rattle.ped_rules.specs.ped_steps.specs.declared.causes.Refused.{Refused}
use Rattle.ped_rules.specs.ped_steps.specs.declared.causes.Refused.TheVariants as variant
use Rattle.ped_rules.specs.ped_steps.specs.declared.changes.Change.{Change}
use Rattle.ped_rules.specs.ped_steps.specs.Causes.{Rules, NoRule, IsFirstRule}
use Rattle.ped_rules.specs.ped_steps.specs.Changes.{IsChange}

-- what rules alone answer: a change to this program, where none of them forbids the step; or the first of them that does
abbrev pub IsByRules : Rules → ProgramTree → List (ℕ × ℕ) → Result Change Refused → Type 0
IsByRules stands new keep (Ok change) = NoRule stands × IsChange new keep change
IsByRules stands new keep (Err (variant.Rule r n)) = IsFirstRule stands r n
IsByRules stands new keep (Err (variant.Dependence e)) = ⊥

-- a change, unless a dependence forbids it
abbrev pub unless_forbidden : Change → Result (Option Edge) NoMemory → Result (Result Change Refused) NoMemory
unless_forbidden change (Ok None) = Ok (Ok change)
unless_forbidden change (Ok (Some e)) = Ok (Err (variant.Dependence e))
unless_forbidden change (Err e) = Err e
