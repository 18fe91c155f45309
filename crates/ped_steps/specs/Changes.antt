-- What a step answers: a change of the program, or the first cause against it (this project).
use Rattle.std.specs.Prelude.{◌≡◌, ℕ, List, [], Bool, Some, None, Result, Ok, Err}
use Rattle.ped_tree.specs.Tree.{ProgramTree}
use Rattle.ped_tree.specs.Views.{program_tree}
use Rattle.ped_weaves.specs.ped_graph.specs.ped_symbols.specs.Kinds.{table_of}
use Rattle.ped_weaves.specs.ped_graph.specs.ped_symbols.specs.NameRefusals.{IsValid}
use Rattle.ped_edges.specs.Edges.{Edge}
use Rattle.ped_steps.specs.declared.causes.Refused.{Refused}
use Rattle.ped_steps.specs.declared.changes.Change.{Change}
use Rattle.ped_steps.specs.Causes.{Rules, IsFirstCause}
use Rattle.ped_steps.specs.CodeCauses.{cause_of, IsShort}

-- a change to this program, which is valid and was read from no lines, with what its names stand for, that keeps these statements (this project)
pub record IsChange (new : ProgramTree) (keep : List (ℕ × ℕ)) (change : Change) : Type 0 where
  pub tree : program_tree change.tree ≡ new
  pub lines : change.tree.lines.items ≡ []
  pub valid : IsValid new
  pub symbols : change.symbols ≡ table_of new
  pub kept : change.keep ≡ keep

-- the first cause against a step in a program, where there is one; else the change to the new program (this project)
abbrev pub IsAnswer : ProgramTree → Rules → (Edge → Bool) → ProgramTree → List (ℕ × ℕ) → Result Change Refused → Type 0
IsAnswer t stands forbids new keep (Ok change) = IsFirstCause t stands forbids None × IsChange new keep change
IsAnswer t stands forbids new keep (Err refused) = IsFirstCause t stands forbids (Some (cause_of refused)) × IsShort refused
