-- What a watch is told of a statement is what its run accesses.
use Rattle.std.proofs.Common.{◌≡◌, ℕ, ◌+◌, List, [], ◌∷◌, ◌++◌, map, Bool, true, false, Result, Ok, Err, sym, ap, subst, ◌∙◌}
use Rattle.ped_tree.specs.Tree.{ExprTree, ItemTree, CondTree, Head, StmtTrees, StmtTree, more_stmts, Assign, If, Do, Print}
use Rattle.ped_tree.specs.Numbering.{statement_count, statements_count}
use Rattle.ped_tree.specs.Views.{stmt_trees}
use Rattle.ped_tree.specs.declared.statements.Stmt.{Stmt}
use Rattle.ped_symbols.specs.Kinds.{Table}
use Rattle.ped_store.specs.Stores.{Store}
use Rattle.ped_store.specs.Memories.{Memory}
use Rattle.ped_store.specs.Races.{Access, accesses}
use Rattle.ped_eval.specs.Scopes.{Setting, Frame, Scope, names_in, place_of}
use Rattle.ped_eval.specs.ScopeViews.{names_at}
use Rattle.ped_eval.specs.Evaluation.{Seen, Evaluated, number_behind}
use Rattle.ped_eval.specs.Values.{truth}
use Rattle.ped_eval.specs.Statements.{Stored, assigned, printed_line}
use Rattle.ped_eval.specs.Loops as Loops
use Rattle.ped_eval.specs.Loops.{Entered, limits}
use Rattle.ped_eval.specs.Plans.{entered_by, IsPlanWithin, IsEntry}
use Rattle.ped_eval.specs.Turns.{body_run, with_copies}
use Rattle.ped_eval.specs.Runs.{Run, run, run_all}
use Rattle.ped_eval.specs.Readiness.{setting_by, IsReady}
use Rattle.ped_eval.specs.Agreement.{before, before_turn, Agrees}
use Rattle.ped_eval.specs.Follow.{Follow}
use Rattle.ped_eval.specs.Noting.{Noted, noted_by, access_at, place_by, accesses_by, AreNoted, HasAdded}
use Rattle.ped_eval.specs.StatementNotes.{reads_noted, assignment_noted, print_noted}
use Rattle.ped_eval.specs.Watched.{IfRan, Watched, Awaits, turns_run, IsWatchedTruth}
use Rattle.ped_eval.specs.Told.{Fails, TellsFrom, Ran}
use Rattle.ped_eval.specs.declared.states.Flow.TheVariants as flow
use Rattle.ped_eval.proofs.Copies.{open_agrees}
use Rattle.ped_eval.proofs.Parts.{if_failed}
use Rattle.ped_eval.proofs.Running.{IsBroken}
use Rattle.ped_eval.specs.declared.plans.Plan.{Plan}
use Rattle.ped_eval.specs.declared.notes.Notes.{Notes}
use Rattle.ped_eval.proofs.Storing.{fresh_added}
use Rattle.ped_eval.specs.declared.states.Flow.{Flow}
use Rattle.ped_eval.specs.declared.states.RunError.{RunError}
use Rattle.ped_eval.specs.declared.states.RunError.TheVariants as error
use Rattle.ped_eval.proofs.Moments.{next_statement}
use Rattle.ped_eval.proofs.Agreements.{agrees_later}
use Rattle.ped_eval.proofs.Evaluations.{kept_assigned, kept_line, kept_truth, kept_limits}
use Rattle.ped_eval.proofs.Entries.{plan_number}
use Rattle.ped_eval.proofs.StatementActs.{assignment_accesses, print_accesses, if_accesses, if_fault_accesses, do_accesses, do_fault_accesses}
use Rattle.ped_eval.proofs.Watching.{follow-append, if_ran, awaits_behind, awaits_broken}

-- what follows from what holds
if_ran_weaker : {A : Type 0} {P Q : Type 0} (r : Result A RunError) → (P → Q) → IfRan r P → IfRan r Q
if_ran_weaker (Ok u) f h = f h
if_ran_weaker (Err (error.Fault number statement)) f h = f h
if_ran_weaker (Err error.NoMemory) f h = tt

ran_then : {A : Type 0} (P Q : Type 0) (r : Result A RunError) → IfRan r P → (P → IfRan r Q) → IfRan r Q
ran_then P Q (Ok u) h f = f h
ran_then P Q (Err (error.Fault number statement)) h f = f h
ran_then P Q (Err error.NoMemory) h f = tt

module _ {W : Type 0} (follows : W → Access → W → Type 0) (table : Table) (scope : Scope) (n : ℕ) (m : Memory) (ready : IsReady table scope m) where
  abbrev p : Setting
  p = setting_by table

  -- a watch is told the accesses of a statement that does one act
  by_accesses : (old new : W) (r : Result Flow RunError) (ns : List Noted) (f : Store → Run) → ((s : Store) → Agrees scope (before scope n) m.cells s → accesses (f s).acts ≡ accesses_by n scope ns)
      → Follow follows old (accesses_by n scope ns) new → Watched follows old new scope (before scope n) m.cells r f
  by_accesses old new r ns f e h s g = if_ran r (subst (λ (xs : List Access). Follow follows old xs new) (sym (e s g)) h)

  pub assignment_watched : (left right : ExprTree) (old new : W) (r : Result Flow RunError)
      → Follow follows old (accesses_by n scope (assignment_noted 1 (assigned (names_at m scope table.constants) left right m.cells))) new → Watched follows old new scope (before scope n) m.cells r (run p (Assign left right) n scope)
  assignment_watched left right old new r h =
      by_accesses old new r (assignment_noted 1 (assigned (names_at m scope table.constants) left right m.cells)) (run p (Assign left right) n scope)
      (λ s g. assignment_accesses (names_in p scope) (place_of p n scope) left right s
      ∙ ap (λ (e : Evaluated Stored). map (access_at (place_of p n scope)) (assignment_noted 1 e)) (sym (kept_assigned p scope m s ready.bounds g.same left right))) h

  pub print_watched : (items : List ItemTree) (old new : W) (r : Result Flow RunError)
      → Follow follows old (accesses_by n scope (print_noted 1 (printed_line (names_at m scope table.constants) items m.cells))) new → Watched follows old new scope (before scope n) m.cells r (run p (Print items) n scope)
  print_watched items old new r h =
      by_accesses old new r (print_noted 1 (printed_line (names_at m scope table.constants) items m.cells)) (run p (Print items) n scope)
      (λ s g. print_accesses (names_in p scope) (place_of p n scope) items s
      ∙ ap (λ (e : Evaluated (List ℕ)). map (access_at (place_of p n scope)) (print_noted 1 e)) (sym (kept_line p scope m s ready.bounds g.same items))) h

  -- a PRINT whose answer holds has noted what its watch is told
  pub print_answered : (items : List ItemTree) (old new : W) (r : Result Flow RunError) (fresh notes : Notes) → noted_by fresh ≡ [] → fresh.next ≡ 1
      → IfRan r (HasAdded fresh (print_noted fresh.next (printed_line (names_at m scope table.constants) items m.cells)) notes)
      → ((ns : List Noted) → AreNoted notes ns → Follow follows old (accesses_by n scope ns) new) → Watched follows old new scope (before scope n) m.cells r (run p (Print items) n scope)
  print_answered items old new r fresh notes none one added told s g =
      let e = printed_line (names_at m scope table.constants) items m.cells in
      ran_then (HasAdded fresh (print_noted fresh.next e) notes) (Follow follows old (accesses (run p (Print items) n scope s).acts) new) r added (λ h. print_watched items old new r (told (print_noted 1 e) (fresh_added fresh notes (λ k. print_noted k e) none one h)) s g)

  -- what is told of a condition, and then of the part that it leads to
  module _ (condition : CondTree) (a b : StmtTrees) (old mid new : W) (told : Follow follows old (accesses_by n scope (reads_noted (truth (names_at m scope table.constants) condition m.cells).seen)) mid) where
    kept_same : (s : Store) → Agrees scope (before scope n) m.cells s → truth (names_in p scope) condition s ≡ truth (names_at m scope table.constants) condition m.cells
    kept_same s g = sym (kept_truth p scope m s ready.bounds g.same condition)

    part_watched : (holds : Bool) (k : ℕ) (r : Result Flow RunError) (part : Store → Run) → (truth (names_at m scope table.constants) condition m.cells).result ≡ Ok holds
        → ((s : Store) → (truth (names_in p scope) condition s).result ≡ Ok holds → accesses (run p (If condition a b) n scope s).acts ≡ map (access_at (place_of p n scope)) (reads_noted (truth (names_in p scope) condition s).seen) ++ accesses (part s).acts)
        → Watched follows mid new scope (before scope (n + k)) m.cells r part → Watched follows old new scope (before scope n) m.cells r (run p (If condition a b) n scope)
    part_watched holds k r part e is watched s g =
        let same = kept_same s g in
        if_ran_weaker r
        (λ f. subst (λ (xs : List Access). Follow follows old xs new)
        (sym (is s ((λ i. (same i).result) ∙ e) ∙ ap (λ (x : Evaluated Bool). map (access_at (place_of p n scope)) (reads_noted x.seen) ++ accesses (part s).acts) same))
        (follow-append follows old mid new _ (accesses (part s).acts) told f))
        (watched s (agrees_later scope (before scope n) (before scope (n + k)) m.cells s (next_statement scope n k) g))

    pub then_watched : (r : Result Flow RunError) → (truth (names_at m scope table.constants) condition m.cells).result ≡ Ok true
        → Watched follows mid new scope (before scope (n + 1)) m.cells r (run_all p a (n + 1) scope) → Watched follows old new scope (before scope n) m.cells r (run p (If condition a b) n scope)
    then_watched r e watched =
        part_watched true 1 r (run_all p a (n + 1) scope) e
        (λ s h. if_accesses (names_in p scope) (place_of p n scope) condition (run_all p a (n + 1) scope) (run_all p b (n + 1 + statements_count a) scope) s true h) watched

    pub else_watched : (r : Result Flow RunError) → (truth (names_at m scope table.constants) condition m.cells).result ≡ Ok false
        → Watched follows mid new scope (before scope (n + (1 + statements_count a))) m.cells r (run_all p b (n + 1 + statements_count a) scope) → Watched follows old new scope (before scope n) m.cells r (run p (If condition a b) n scope)
    else_watched r e watched =
        part_watched false (1 + statements_count a) r (run_all p b (n + 1 + statements_count a) scope) e
        (λ s h. if_accesses (names_in p scope) (place_of p n scope) condition (run_all p a (n + 1) scope) (run_all p b (n + 1 + statements_count a) scope) s false h) watched

    pub if_fault_watched : (k : ℕ) (r : Result Flow RunError) → (truth (names_at m scope table.constants) condition m.cells).result ≡ Err k → Watched follows old mid scope (before scope n) m.cells r (run p (If condition a b) n scope)
    if_fault_watched k r e s g =
        let same = kept_same s g in
        if_ran r (subst (λ (xs : List Access). Follow follows old xs mid)
        (sym (if_fault_accesses (names_in p scope) (place_of p n scope) condition (run_all p a (n + 1) scope) (run_all p b (n + 1 + statements_count a) scope) s k ((λ i. (same i).result) ∙ e)
        ∙ ap (λ (x : Evaluated Bool). map (access_at (place_of p n scope)) (reads_noted x.seen)) same)) told)

  -- what is told of the bounds of a DO, and then of its iterations and its exit
  module _ (h : Head) (body : StmtTrees) (old mid new : W) (told : Follow follows old (accesses_by n scope (reads_noted (limits (names_at m scope table.constants) h m.cells).seen)) mid) where
    kept_bounds : (s : Store) → Agrees scope (before scope n) m.cells s → limits (names_in p scope) h s ≡ limits (names_at m scope table.constants) h m.cells
    kept_bounds s g = sym (kept_limits p scope m s ready.bounds g.same h)

    pub do_watched : (l : Loops.Limits) (plan : Plan) (behind : ℕ) (r : Result Flow RunError) → (limits (names_at m scope table.constants) h m.cells).result ≡ Ok l → IsPlanWithin table.constants n h body l plan
        → behind ≡ number_behind 1 (limits (names_at m scope table.constants) h m.cells).seen
        → Watched follows mid new scope (before scope plan.number) m.cells r (turns_run plan.count 1 (entered_by h plan behind) scope (place_by plan.number scope) (body_run p body plan.number scope))
        → Watched follows old new scope (before scope n) m.cells r (run p (Do h body) n scope)
    do_watched l plan behind r lim within is watched s g =
        let same = kept_bounds s g in
        let seen : List Seen = (limits (names_in p scope) h s).seen in
        let number : plan.number ≡ n = plan_number table.constants n h body l plan within in
        let at = place_of p n scope in
        let count : behind ≡ number_behind 1 seen = is ∙ ap (λ (x : Evaluated Loops.Limits). number_behind 1 x.seen) (sym same) in
        let here : IfRan r (Follow follows mid (accesses (turns_run plan.count 1 (entered_by h plan behind) scope at (body_run p body n scope) s).acts) new) =
        subst (λ (k : ℕ). Agrees scope (before scope k) m.cells s → IfRan r (Follow follows mid (accesses (turns_run plan.count 1 (entered_by h plan behind) scope (place_by k scope) (body_run p body k scope) s).acts) new)) number (watched s) g in
        let all : accesses (run p (Do h body) n scope s).acts ≡ accesses_by n scope (reads_noted (limits (names_at m scope table.constants) h m.cells).seen) ++ accesses (turns_run plan.count 1 (entered_by h plan behind) scope at (body_run p body n scope) s).acts =
        do_accesses p n scope h body (λ f. run_all p body (n + 1) (f ∷ scope)) s l ((λ i. (same i).result) ∙ lim)
        ∙ (λ i. map (access_at at) (reads_noted (same i).seen) ++ accesses (turns_run (within.entered seen i).count 1 (within.entered seen i) scope at (body_run p body n scope) s).acts)
        ∙ ap (λ (k : ℕ). accesses_by n scope (reads_noted (limits (names_at m scope table.constants) h m.cells).seen) ++ accesses (turns_run plan.count 1 (entered_by h plan k) scope at (body_run p body n scope) s).acts) (sym count) in
        if_ran_weaker r
        (λ f. subst (λ (xs : List Access). Follow follows old xs new) (sym all)
        (follow-append follows old mid new _ (accesses (turns_run plan.count 1 (entered_by h plan behind) scope at (body_run p body n scope) s).acts) told f)) here

    pub do_fault_watched : (k : ℕ) (r : Result Flow RunError) → (limits (names_at m scope table.constants) h m.cells).result ≡ Err k → Watched follows old mid scope (before scope n) m.cells r (run p (Do h body) n scope)
    do_fault_watched k r e s g =
        let same = kept_bounds s g in
        if_ran r (subst (λ (xs : List Access). Follow follows old xs mid)
        (sym (do_fault_accesses p n scope h body (λ f. run_all p body (n + 1) (f ∷ scope)) s k ((λ i. (same i).result) ∙ e)
        ∙ ap (λ (x : Evaluated Loops.Limits). map (access_at (place_of p n scope)) (reads_noted x.seen)) same)) told)

  -- a DO whose entry fails
  pub do_error_watched : (h : Head) (body : StmtTrees) (old mid : W) (x : RunError) → IfRan {A = Plan} (Err x) (Follow follows old (accesses_by n scope (reads_noted (limits (names_at m scope table.constants) h m.cells).seen)) mid)
      → IsEntry table n (names_at m scope table.constants) m.cells h body (Err x) → Watched follows old mid scope (before scope n) m.cells (Err x) (run p (Do h body) n scope)
  do_error_watched h body old mid (error.Fault k j) told e = do_fault_watched h body old mid mid told k (Err (error.Fault k j)) e.0
  do_error_watched h body old mid error.NoMemory told e = λ s g. tt

  -- a condition that fails ends the run
  pub truth_failed : (condition : CondTree) (a b : StmtTrees) (T : Type 0) (next : ℕ) (new : Memory) (x : RunError) → IsWatchedTruth (truth (names_at m scope table.constants) condition m.cells) n (Err x) T
      → Ran scope n m next (Err x) new (run p (If condition a b) n scope)
  truth_failed condition a b T next new (error.Fault k j) h s g =
      subst (λ (i : ℕ). Fails k i (run p (If condition a b) n scope s).ending) (sym h.1) (if_failed table scope n m ready condition a b new k h.0 s g)
  truth_failed condition a b T next new error.NoMemory h s g = tt

  pub truth_error_watched : (condition : CondTree) (a b : StmtTrees) (old mid : W) (x : RunError)
      → IsWatchedTruth (truth (names_at m scope table.constants) condition m.cells) n (Err x) (Follow follows old (accesses_by n scope (reads_noted (truth (names_at m scope table.constants) condition m.cells).seen)) mid)
      → Watched follows old mid scope (before scope n) m.cells (Err x) (run p (If condition a b) n scope)
  truth_error_watched condition a b old mid (error.Fault k j) h = if_fault_watched condition a b old mid mid h.2 k (Err (error.Fault k j)) h.0
  truth_error_watched condition a b old mid error.NoMemory h = λ s g. tt

module _ {W : Type 0} (follows : W → Access → W → Type 0) (first : W) (p : Setting) (scope : Scope) (t : StmtTree) (rest : StmtTrees) (n : ℕ) (now new : W) (kept kept_new : Store) (whole : List Access)
    (awaits : Awaits follows first now scope (before scope n) kept (run_all p (more_stmts t rest) n scope) whole) where
  -- behind a statement the others come to the accesses of the whole
  pub statement_told : TellsFrom scope (before scope n) kept (before scope (n + statement_count t)) (Ok flow.Going) kept_new (λ s. (run p t n scope s).ending)
      → Watched follows now new scope (before scope n) kept (Ok flow.Going) (run p t n scope) → Awaits follows first new scope (before scope (n + statement_count t)) kept_new (run_all p rest (n + statement_count t) scope) whole
  statement_told told watched =
      awaits_behind follows first now new scope (before scope n) (before scope (n + statement_count t)) kept kept_new (run p t n scope) (run_all p rest (n + statement_count t) scope) whole awaits told watched

  -- what breaks off a statement breaks off the whole
  pub statement_told_broken : (r : Result Flow RunError) → IsBroken r → TellsFrom scope (before scope n) kept (before scope (n + statement_count t)) r kept_new (λ s. (run p t n scope s).ending)
      → Watched follows now new scope (before scope n) kept r (run p t n scope) → IfRan r (Follow follows first whole new)
  statement_told_broken r b told watched =
      awaits_broken follows first now new scope (before scope n) (before scope (n + statement_count t)) r kept kept_new (run p t n scope) (run_all p rest (n + statement_count t) scope) whole b awaits told watched

-- what is told in an iteration is told from where its copies are made
pub turn_watched : {W : Type 0} (follows : W → Access → W → Type 0) (p : Setting) (f : Frame) (fs : Scope) (n : ℕ) (scope : Scope) (ss items : List Stmt) (old mid : Memory) (w v : W) (r : Result Flow RunError) → scope ≡ f ∷ fs → mid ≡ with_copies (f ∷ fs) f.private old → ss ≡ items
    → Watched follows w v scope (before scope (n + 1)) mid.cells r (run_all p (stmt_trees ss) (n + 1) scope)
    → Watched follows w v fs (before_turn fs f.turn.statement f.turn.number) old.cells r (run_all p (stmt_trees items) (n + 1) (f ∷ fs))
turn_watched follows p f fs n scope ss items old mid w v r same memory is watched s a =
    let here : Watched follows w v (f ∷ fs) (before (f ∷ fs) (n + 1)) (with_copies (f ∷ fs) f.private old).cells r (run_all p (stmt_trees items) (n + 1) (f ∷ fs)) =
    subst (λ (m : Memory). Watched follows w v (f ∷ fs) (before (f ∷ fs) (n + 1)) m.cells r (run_all p (stmt_trees items) (n + 1) (f ∷ fs))) memory
    (subst (λ (xs : List Stmt). Watched follows w v (f ∷ fs) (before (f ∷ fs) (n + 1)) mid.cells r (run_all p (stmt_trees xs) (n + 1) (f ∷ fs))) is
    (subst (λ (o : Scope). Watched follows w v o (before o (n + 1)) mid.cells r (run_all p (stmt_trees ss) (n + 1) o)) same watched)) in
    here s (open_agrees f fs old (n + 1) s a)
