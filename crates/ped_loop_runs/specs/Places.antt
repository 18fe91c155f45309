-- The values that the iterations around an execution give, and its place in that of the outermost DO (ANSI X3.9-1978, section 11.10; this project).
use Rattle.std.specs.Prelude.{◌≡◌, ℕ, ℤ, pos, List, ◌++◌, unwrap_or}
use Rattle.ped_bodies.specs.ped_flow.specs.ped_tree.specs.Tree.{ProgramTree}
use Rattle.ped_bodies.specs.ped_store.specs.Stores.{Store}
use Rattle.ped_bodies.specs.ped_store.specs.Acts.{Act}
use Rattle.ped_bodies.specs.ped_laws.specs.Acts.Fitting.{store_after}
use Rattle.ped_bodies.specs.ped_laws.specs.FlowRuns.Entries.{IsEntry}
use Rattle.ped_bodies.specs.ped_laws.specs.Plain.Executions.{IsDuring}
use Rattle.ped_bodies.specs.ped_eval.specs.Scopes.{Setting, Scope, index_value}

-- the values that iterations give to the variables of their DO loops; of any other name 0 (ANSI X3.9-1978, section 11.10; this project)
abbrev pub told_at : Scope → List ℕ → ℤ
told_at scope x = unwrap_or (index_value scope x) (pos 0)

-- acts are done while the outermost DO that is the DO with number l, or is around it, is executed: its entry comes in the run after the front, and each store before, between and after the acts is one of that execution (ANSI X3.9-1978, section 11.10; this project)
pub record AreDuring (p : Setting) (t : ProgramTree) (start : Store) (l : ℕ) (acts : List Act) (u : Store) : Type 0 where
  pub front : List Act
  pub entry : IsEntry p t start l front
  pub during : (done left : List Act) → acts ≡ done ++ left → IsDuring p t l (store_after front start) (store_after done u)
