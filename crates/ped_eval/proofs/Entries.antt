-- A DO from the answers for its entry and for its iterations.
use Rattle.std.proofs.Common.{◌≡◌, ℕ, ◌+◌, ℤ, List, [], ◌∷◌, Result, Ok, Err, IfOk, IfErr, refl, sym, ap, subst, ◌∙◌}
use Rattle.ped_tree.specs.Tree.{Head, StmtTrees, Do}
use Rattle.ped_tree.specs.Numbering.{statements_count}
use Rattle.ped_symbols.specs.Kinds.{Table}
use Rattle.ped_store.specs.Stores.{Store}
use Rattle.ped_store.specs.Memories.{Memory}
use Rattle.ped_eval.specs.Scopes.{Scope, Names, names_in}
use Rattle.ped_eval.specs.ScopeViews.{names_at}
use Rattle.ped_eval.specs.Loops as Loops
use Rattle.ped_eval.specs.Loops.{Entered, limits}
use Rattle.ped_eval.specs.Evaluation.{number_behind}
use Rattle.ped_eval.specs.Plans.{entered_by, limits_view, IsPlanWithin, IsPlanBy, IsEntry}
use Rattle.ped_eval.specs.declared.plans.Limits as code
use Rattle.ped_eval.specs.Readiness.{setting_by, IsReady}
use Rattle.ped_eval.specs.Agreement.{before, Agrees}
use Rattle.ped_eval.specs.Runs.{Ending, run, run_all}
use Rattle.ped_eval.specs.Turns.{turns_end, body_run}
use Rattle.ped_eval.specs.Told.{Fails, Tells, TellsFrom, Ran}
use Rattle.ped_eval.specs.declared.plans.Plan.{Plan}
use Rattle.ped_eval.specs.declared.states.Flow.{Flow}
use Rattle.ped_eval.specs.declared.states.RunError.{RunError}
use Rattle.ped_eval.specs.declared.states.RunError.TheVariants as error
use Rattle.ped_eval.proofs.Endings.{do_goes, do_fails}
use Rattle.ped_eval.proofs.Evaluations.{kept_limits}

-- the number of a DO that has been entered
pub plan_number : (constants : List (List ℕ × ℤ)) (n : ℕ) (h : Head) (body : StmtTrees) (l : Loops.Limits) (plan : Plan) → IsPlanWithin constants n h body l plan → plan.number ≡ n
plan_number constants n h body l plan within = sym (ap (λ (x : Entered). x.number) (within.entered []))

module _ (table : Table) (scope : Scope) (n : ℕ) (m : Memory) (ready : IsReady table scope m) (h : Head) (body : StmtTrees) where
  kept : (s : Store) → Agrees scope (before scope n) m.cells s → (limits (names_in (setting_by table) scope) h s).result ≡ (limits (names_at m scope table.constants) h m.cells).result
  kept s g = sym (ap (λ a. a.result) (kept_limits (setting_by table) scope m s ready.bounds g.same h))

  -- a DO runs as its iterations do
  pub do_run : (l : Loops.Limits) (plan : Plan) → (limits (names_at m scope table.constants) h m.cells).result ≡ Ok l → IsPlanWithin table.constants n h body l plan → (r : Result Flow RunError) (new : Memory)
      → ((behind : ℕ) → TellsFrom scope (before scope plan.number) m.cells (before scope (plan.number + (statements_count body + 1))) r new.cells
      (turns_end plan.count 1 (entered_by h plan behind) scope (body_run (setting_by table) body plan.number scope)))
      → Ran scope n m (n + (statements_count body + 1)) r new (run (setting_by table) (Do h body) n scope)
  do_run l plan lim within r new told s g =
      let p = setting_by table in
      let behind : ℕ = number_behind 1 (limits (names_in p scope) h s).seen in
      let number : plan.number ≡ n = plan_number table.constants n h body l plan within in
      let turns : Agrees scope (before scope n) m.cells s
      → Tells scope (before scope (n + (statements_count body + 1))) r new.cells (turns_end plan.count 1 (entered_by h plan behind) scope (body_run p body n scope) s) =
      subst (λ (k : ℕ). Agrees scope (before scope k) m.cells s
      → Tells scope (before scope (k + (statements_count body + 1))) r new.cells (turns_end plan.count 1 (entered_by h plan behind) scope (body_run p body k scope) s)) number (told behind s) in
      let is : (run p (Do h body) n scope s).ending ≡ turns_end plan.count 1 (entered_by h plan behind) scope (body_run p body n scope) s =
      do_goes p n scope h body (λ f. run_all p body (n + 1) (f ∷ scope)) s l (kept s g ∙ lim)
      ∙ ap (λ (x : Entered). turns_end x.count 1 x scope (body_run p body n scope) s) (within.entered (limits (names_in p scope) h s).seen) in
      subst (λ (x : Ending). Tells scope (before scope (n + (statements_count body + 1))) r new.cells x) (sym is) (turns g)

  -- a DO whose entry fails does so
  pub do_failed : (x : RunError) (new : Memory) → IsEntry table n (names_at m scope table.constants) m.cells h body (Err x) → Ran scope n m (n + (statements_count body + 1)) (Err x) new (run (setting_by table) (Do h body) n scope)
  do_failed (error.Fault k j) new w s g =
      subst (λ (x : Ending). Fails k j x) (sym (do_fails (setting_by table) n scope h body (λ f. run_all (setting_by table) body (n + 1) (f ∷ scope)) s k (kept s g ∙ w.0))) (refl, w.1)
  do_failed error.NoMemory new w s g = tt

-- the plan that the limits make is the entry's answer
pub entry_by : (table : Table) (n : ℕ) (g : Names) (s : Store) (h : Head) (body : StmtTrees) (r : Result code.Limits ℕ) (answer : Result Plan RunError)
    → IfOk r (λ l. (limits g h s).result ≡ Ok (limits_view l)) → IfErr r (λ k. (limits g h s).result ≡ Err k) → IsPlanBy table n h body r answer → IsEntry table n g s h body answer
entry_by table n g s h body (Ok l) (Ok plan) ok err is = (limits_view l, ok, is)
entry_by table n g s h body (Ok l) (Err (error.Fault number statement)) ok err is = absurd is
entry_by table n g s h body (Ok l) (Err error.NoMemory) ok err is = tt
entry_by table n g s h body (Err k) (Ok plan) ok err is = absurd is
entry_by table n g s h body (Err k) (Err (error.Fault number statement)) ok err is = (err ∙ ap Err (sym is.0), is.1)
entry_by table n g s h body (Err k) (Err error.NoMemory) ok err is = tt

pub plan_behind : (answer : Result Plan RunError) (k m : ℕ) → k ≡ m → IfOk answer (λ plan. plan.behind ≡ k) → IfOk answer (λ plan. plan.behind ≡ m)
plan_behind (Ok plan) k m e h = h ∙ e
plan_behind (Err x) k m e h = tt
