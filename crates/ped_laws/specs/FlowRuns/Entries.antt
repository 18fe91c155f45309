-- What a run does before the entry of an outermost DO (ANSI X3.9-1978, section 11.10.3; this project).
use Rattle.std.specs.Prelude.{◌≡◌, ℕ, ◌+◌, ◌≤◌, List, [], ◌∷◌, ◌++◌}
use Rattle.ped_flow.specs.ped_tree.specs.Tree.{ProgramTree}
use Rattle.ped_flow.specs.ped_tree.specs.Numbering.{statements_count}
use Rattle.ped_eval.specs.ped_store.specs.Stores.{Store}
use Rattle.ped_eval.specs.ped_store.specs.Acts.{entered, Act}
use Rattle.ped_eval.specs.Scopes.{Setting}
use Rattle.ped_eval.specs.Runs.{run_all}
use Rattle.ped_flow.specs.Questions.{LoopOf}

-- in a run of a program these acts come before the entry of the outermost DO that has this number or has the statement with it in its body (this project)
pub record IsEntry (p : Setting) (t : ProgramTree) (s : Store) (l : ℕ) (front : List Act) : Type 0 where
  pub act : Act
  pub behind : List Act
  pub whole : (run_all p t.body 1 [] s).acts ≡ front ++ act ∷ behind
  pub count : ℕ
  pub enters : act.step ≡ entered count
  pub outermost : act.place.turns ≡ []
  pub number : ℕ
  pub loop : LoopOf t number
  pub is : act.place.statement ≡ p.number number
  pub from : number ≤ l
  pub to : l ≤ number + statements_count loop.body
