-- What the answer for one statement tells of the whole run.
use Rattle.std.proofs.Common.{◌≡◌, ℕ, ◌+◌, ℤ, List, Result, Ok, Err, refl, sym, ap, subst, ◌∙◌}
use Rattle.ped_tree.specs.Tree.{ExprTree, StmtTree, StmtTrees, more_stmts}
use Rattle.ped_tree.specs.Numbering.{statement_count}
use Rattle.ped_store.specs.Cells.{Cell}
use Rattle.ped_store.specs.Stores.{Number, Store, put, storable}
use Rattle.ped_store.specs.Acts.{Place}
use Rattle.ped_store.specs.Memories.{Memory}
use Rattle.ped_eval.specs.Scopes.{Setting, Scope, Names, names_in}
use Rattle.ped_eval.specs.Evaluation.{Seen, ◌>>>◌, given, onward}
use Rattle.ped_eval.specs.Values.{value, target}
use Rattle.ped_eval.specs.Statements.{Stored, assigned}
use Rattle.ped_eval.specs.Runs.{Ending, going, stopped, failed, run, run_all, run_assignment}
use Rattle.ped_eval.specs.Agreement.{before, Agrees}
use Rattle.ped_eval.specs.Takings.{names_with}
use Rattle.ped_eval.specs.Turns.{after}
use Rattle.ped_eval.specs.Told.{Goes, Fails, Tells, TellsFrom, Reaches}
use Rattle.ped_eval.specs.declared.states.Flow.{Flow}
use Rattle.ped_eval.specs.declared.states.Flow.TheVariants as flow
use Rattle.ped_eval.specs.declared.states.RunError.{RunError}
use Rattle.ped_eval.specs.declared.states.RunError.TheVariants as error
use Rattle.ped_eval.proofs.Moments.{next_statement}
use Rattle.ped_eval.proofs.Agreements.{agrees_put, agrees_later}
use Rattle.ped_eval.proofs.Evaluations.{IsVariable, kept_assigned, target_variable, variable_past}
use Rattle.ped_eval.proofs.Endings.{ending_then, assignment_goes, assignment_fails}

-- an ending that goes on has a store
pub goes_on : (scope : Scope) (moment : List ℕ) (kept : Store) (e : Ending) → Goes scope moment kept e → (w : Store) × (e ≡ going w) × Agrees scope moment kept w
goes_on scope moment kept (going w) h = (w, refl, h)
goes_on scope moment kept (stopped w) h = elim h [ ]
goes_on scope moment kept (failed fault statement) h = elim h [ ]

-- an answer by which the run doesn't go on
abbrev pub IsBroken : Result Flow RunError → Type 0
IsBroken (Ok flow.Going) = ⊥
IsBroken (Ok flow.Stopped) = Unit {0}
IsBroken (Err e) = Unit {0}

-- what breaks off a part breaks off the whole
pub broken_off : (scope : Scope) (moment other : List ℕ) (r : Result Flow RunError) (kept : Store) (e : Ending) (next : Store → Ending) → IsBroken r → Tells scope moment r kept e → Tells scope other r kept (after e next)
broken_off scope moment other (Ok flow.Going) kept e next b h = elim b [ ]
broken_off scope moment other (Ok flow.Stopped) kept (going w) next b h = elim h [ ]
broken_off scope moment other (Ok flow.Stopped) kept (stopped w) next b h = h
broken_off scope moment other (Ok flow.Stopped) kept (failed fault statement) next b h = elim h [ ]
broken_off scope moment other (Err (error.Fault number n)) kept (going w) next b h = elim h [ ]
broken_off scope moment other (Err (error.Fault number n)) kept (stopped w) next b h = elim h [ ]
broken_off scope moment other (Err (error.Fault number n)) kept (failed fault statement) next b h = h
broken_off scope moment other (Err error.NoMemory) kept e next b h = tt

-- where a run goes on behind a part, what is left comes to the ending of the whole
pub reaches_behind : (scope : Scope) (moment next_moment : List ℕ) (kept new : Store) (part : Store → Ending) (rest : Store → Ending) (whole : Ending)
    → Reaches scope moment kept (λ u. after (part u) rest) whole → TellsFrom scope moment kept next_moment (Ok flow.Going) new part → Reaches scope next_moment new rest whole
reaches_behind scope moment next_moment kept new part rest whole reach told =
    let w = goes_on scope next_moment new (part reach.0) (told reach.0 reach.1) in
    (w.0, w.2, sym (ap (λ (e : Ending). after e rest) w.1) ∙ reach.2)

pub tells_broken : (scope : Scope) (moment next_moment other : List ℕ) (r : Result Flow RunError) (kept new : Store) (part : Store → Ending) (rest : Store → Ending) (whole : Ending)
    → IsBroken r → Reaches scope moment kept (λ u. after (part u) rest) whole → TellsFrom scope moment kept next_moment r new part → Tells scope other r new whole
tells_broken scope moment next_moment other r kept new part rest whole b reach told =
    subst (Tells scope other r new) reach.2 (broken_off scope next_moment other r new (part reach.0) rest b (told reach.0 reach.1))

module _ (p : Setting) (scope : Scope) where
  -- a run of statements as that of the first and then of the others
  pub all_is : (t : StmtTree) (rest : StmtTrees) (n : ℕ) (u : Store) → (run_all p (more_stmts t rest) n scope u).ending ≡ after (run p t n scope u).ending (λ w. (run_all p rest (n + statement_count t) scope w).ending)
  all_is t rest n u = ending_then (run p t n scope u) (run_all p rest (n + statement_count t) scope)

  pub statement_done : (t : StmtTree) (rest : StmtTrees) (n : ℕ) (kept new : Store) (whole : Ending)
      → Reaches scope (before scope n) kept (λ u. (run_all p (more_stmts t rest) n scope u).ending) whole
      → TellsFrom scope (before scope n) kept (before scope (n + statement_count t)) (Ok flow.Going) new (λ s. (run p t n scope s).ending)
      → Reaches scope (before scope (n + statement_count t)) new (λ u. (run_all p rest (n + statement_count t) scope u).ending) whole
  statement_done t rest n kept new whole reach told =
      reaches_behind scope (before scope n) (before scope (n + statement_count t)) kept new (λ s. (run p t n scope s).ending) (λ w. (run_all p rest (n + statement_count t) scope w).ending) whole
      (reach.0, reach.1, sym (all_is t rest n reach.0) ∙ reach.2) told

  pub statement_broken : (t : StmtTree) (rest : StmtTrees) (n : ℕ) (other : List ℕ) (r : Result Flow RunError) (kept new : Store) (whole : Ending)
      → IsBroken r → Reaches scope (before scope n) kept (λ u. (run_all p (more_stmts t rest) n scope u).ending) whole
      → TellsFrom scope (before scope n) kept (before scope (n + statement_count t)) r new (λ s. (run p t n scope s).ending)
      → Tells scope other r new whole
  statement_broken t rest n other r kept new whole b reach told =
      tells_broken scope (before scope n) (before scope (n + statement_count t)) other r kept new (λ s. (run p t n scope s).ending) (λ w. (run_all p rest (n + statement_count t) scope w).ending) whole
      b (reach.0, reach.1, sym (all_is t rest n reach.0) ∙ reach.2) told

-- what an assignment stores goes into the cell of a scalar or into an element
stored_by : (g : Names) (v : ℤ) (o : Result ℤ ℕ) (d : Cell) (w : Stored) → (given o >>> λ n. given (Ok (record { cell = d; number = n }))).result ≡ Ok w → w.cell ≡ d
stored_by g v (Ok n) d w h = let e : record { cell = d; number = n } ≡ w = cc in λ i. (sym e i).cell
stored_by g v (Err k) d w h = absurd cc

target_by : (g : Names) (v : ℤ) (seen : List Seen) (r : Result Cell ℕ) (w : Stored) → ((c : Cell) → r ≡ Ok c → IsVariable g c)
    → (onward seen r (λ c. given (storable v) >>> λ n. given (Ok (record { cell = c; number = n })))).result ≡ Ok w → IsVariable g w.cell
target_by g v seen (Ok d) w is h = subst (IsVariable g) (sym (stored_by g v (storable v) d w h)) (is d refl)
target_by g v seen (Err k) w is h = absurd cc

value_by : (g : Names) (left : ExprTree) (s : Store) (seen : List Seen) (r : Result ℤ ℕ) (w : Stored)
    → (onward seen r (λ v. target g left s >>> λ c. given (storable v) >>> λ n. given (Ok (record { cell = c; number = n })))).result ≡ Ok w → IsVariable g w.cell
value_by g left s seen (Ok v) w h = target_by g v (target g left s).seen (target g left s).result w (target_variable g left s) h
value_by g left s seen (Err k) w h = absurd cc

pub assigned_variable : (g : Names) (left right : ExprTree) (s : Store) (w : Stored) → (assigned g left right s).result ≡ Ok w → IsVariable g w.cell
assigned_variable g left right s w h = value_by g left s (value g right s).seen (value g right s).result w h

module _ (p : Setting) (scope : Scope) (n : ℕ) (at : Place) (left right : ExprTree) (m : Memory) (b : m.bounds ≡ p.bounds) where
  -- an assignment that is done is so in the run
  pub assignment_told : (w : Stored) → (assigned (names_with m scope p.constants) left right m.cells).result ≡ Ok w
      → TellsFrom scope (before scope n) m.cells (before scope (n + 1)) (Ok flow.Going) (put w.cell (Number w.number) m.cells) (λ s. (run_assignment (names_in p scope) at left right s).ending)
  assignment_told w e s h =
      let same = kept_assigned p scope m s b h.same left right in
      let done : (assigned (names_in p scope) left right s).result ≡ Ok w = (λ i. (sym same i).result) ∙ e in
      let is = assigned_variable (names_in p scope) left right s w done in
      subst (Goes scope (before scope (n + 1)) (put w.cell (Number w.number) m.cells)) (sym (assignment_goes (names_in p scope) at left right s w done))
      (agrees_later scope (before scope n) (before scope (n + 1)) (put w.cell (Number w.number) m.cells) (put w.cell (Number w.number) s) (next_statement scope n 1)
      (agrees_put scope (before scope n) w.cell (Number w.number) m.cells s (variable_past p scope n w.cell is) h))

  -- a fault of an assignment is one of the run
  pub assignment_fault_told : (k : ℕ) (moment : List ℕ) (new : Store) → (assigned (names_with m scope p.constants) left right m.cells).result ≡ Err k
      → (s : Store) → Agrees scope (before scope n) m.cells s → Fails k at.statement (run_assignment (names_in p scope) at left right s).ending
  assignment_fault_told k moment new e s h =
      let same = kept_assigned p scope m s b h.same left right in
      let done : (assigned (names_in p scope) left right s).result ≡ Err k = (λ i. (sym same i).result) ∙ e in
      subst (Fails k at.statement) (sym (assignment_fails (names_in p scope) at left right s k done)) (refl, refl)
