-- What the entry of a DO answers (ANSI X3.9-1978, section 11.10.3; this project).
use Rattle.std.specs.Prelude.{◌≡◌, ◌≤◌, ◌^◌, ℕ, ℤ, unsigned_abs, List, ◌∷◌, ◌++◌, Result, Ok, Err, if◌then◌else◌}
use Rattle.ped_tree.specs.Tree.{Head, StmtTrees}
use Rattle.ped_store.specs.Stores.{Store}
use Rattle.ped_symbols.specs.Kinds.{Table}
use Rattle.ped_eval.specs.Scopes.{Names}
use Rattle.ped_eval.specs.Evaluation.{Seen, number_behind}
use Rattle.ped_eval.specs.Loops as Loops
use Rattle.ped_eval.specs.Loops.{Entered, limits, entered_with, copied_names, inner_variables}
use Rattle.ped_eval.specs.Readiness.{setting_with}
use Rattle.ped_eval.specs.declared.plans.Plan.{Plan}
use Rattle.ped_eval.specs.declared.plans.Limits as code
use Rattle.ped_eval.specs.declared.states.RunError.{RunError}
use Rattle.ped_eval.specs.declared.states.RunError.TheVariants as error

-- a DO that has been entered, by what the code keeps of it, and the number after the references in its bounds
abbrev pub entered_by : Head → Plan → ℕ → Entered
entered_by h plan behind = record {
  number = plan.number;
  head = h;
  first = plan.first;
  step = plan.step;
  count = plan.count;
  behind_bounds = behind;
  inner = plan.inner;
}

-- what the code keeps of a DO that it has entered is right
pub record IsPlan (h : Head) (body : StmtTrees) (plan : Plan) : Type 0 where
  pub inner : plan.inner ≡ inner_variables h.parallel body
  pub copied : plan.copied ≡ copied_names (entered_by h plan 0)
  pub first : unsigned_abs plan.first ≤ 2 ^ 62
  pub step : unsigned_abs plan.step ≤ 2 ^ 31

-- the initial and the terminal value
abbrev pub limits_view : code.Limits → Loops.Limits
limits_view l = record { first = l.first; last = l.last }

-- the plan is that of this DO with these limits
pub record IsPlanWithin (constants : List (List ℕ × ℤ)) (n : ℕ) (h : Head) (body : StmtTrees) (l : Loops.Limits) (plan : Plan) : Type 0 where
  pub right : IsPlan h body plan
  pub entered : (seen : List Seen) → entered_with (setting_with constants) n h body seen l ≡ entered_by h plan (number_behind 1 seen)

-- the entry of this DO with number n answers so
abbrev pub IsEntry : Table → ℕ → Names → Store → Head → StmtTrees → Result Plan RunError → Type 0
IsEntry table n g s h body (Ok plan) = (l : Loops.Limits) × ((limits g h s).result ≡ Ok l) × IsPlanWithin table.constants n h body l plan
IsEntry table n g s h body (Err (error.Fault number statement)) = ((limits g h s).result ≡ Err number) × (statement ≡ n)
IsEntry table n g s h body (Err error.NoMemory) = Unit {0}

-- limits that have come to this make the plan of this DO with number n
abbrev pub IsPlanBy : Table → ℕ → Head → StmtTrees → Result code.Limits ℕ → Result Plan RunError → Type 0
IsPlanBy table n h body (Ok l) (Ok plan) = IsPlanWithin table.constants n h body (limits_view l) plan
IsPlanBy table n h body (Ok l) (Err (error.Fault number statement)) = ⊥
IsPlanBy table n h body (Ok l) (Err error.NoMemory) = Unit {0}
IsPlanBy table n h body (Err fault) (Ok plan) = ⊥
IsPlanBy table n h body (Err fault) (Err (error.Fault number statement)) = (number ≡ fault) × (statement ≡ n)
IsPlanBy table n h body (Err fault) (Err error.NoMemory) = Unit {0}

-- the names of which each iteration has its own copies, by the variables of the DO loops in it
abbrev pub copied_by : Head → List (List ℕ) → List (List ℕ)
copied_by h inner = if h.parallel then h.variable ∷ (h.private ++ inner) else h.private
