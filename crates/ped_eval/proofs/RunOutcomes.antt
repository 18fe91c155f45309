-- What the answer of a run of all statements tells of the outcome of a program.
use Rattle.std.proofs.Common.{◌≡◌, ◌≤◌, ◌<◌, ◌^◌, ◌+◌, ℕ, List, [], ◌∷◌, map, Bool, true, false, Some, None, Result, Ok, Err, refl, sym, ap, subst, ◌∙◌, if◌then◌else◌, arith}
use Rattle.std.specs.Prelude.{◌||◌, IfOk, OnOk}
use Rattle.std.specs.Str.Lines.{lines}
use Rattle.ped_base.specs.Dimensions.{Dimensions}
use Rattle.ped_base.specs.Lists.{is_same_text, is_among, has_some}
use Rattle.ped_tree.specs.Tree.{StmtTrees, ProgramTree}
use Rattle.ped_tree.specs.Numbering.{statements_count}
use Rattle.ped_base.proofs.NameEquality.{same_is}
use Rattle.ped_symbols.specs.declared.symbols.Kind.{Kind}
use Rattle.ped_symbols.specs.Entries.{entry_of}
use Rattle.ped_symbols.specs.Kinds.{Table, kind_of, names_of, kind_in, table_of}
use Rattle.ped_store.specs.Cells.{Scalar, Element, Out}
use Rattle.ped_store.specs.Stores.{Store, store_at_start, number_in, lines_in}
use Rattle.ped_store.specs.Storage.{elements_of}
use Rattle.ped_store.specs.Memories.{Memory, memory_at_start}
use Rattle.ped_store.specs.Variables.{values_of}
use Rattle.ped_eval.specs.Scopes.{Setting, Scope}
use Rattle.ped_eval.specs.Runs.{Ending, going, stopped, failed, run_all}
use Rattle.ped_eval.specs.Outcomes as Outcomes
use Rattle.ped_eval.specs.Outcomes.{Outcome, bounds_of, setting_of, live_names, live_rows, outcome, outcome_of, run_of}
use Rattle.ped_eval.specs.Live.{rows_in, shapes_by}
use Rattle.ped_symbols.specs.RightUses.RightPrograms.{IsRight}
use Rattle.ped_symbols.specs.RightUses.RightUses.{NameKinds, stmts_are_right}
use Rattle.ped_symbols.specs.RightUses.RightLoops.{loops_deep}
use Rattle.ped_eval.specs.Agreement.{before, IsSameOutside, Agrees}
use Rattle.ped_eval.specs.Readiness.{kinds_by, setting_by, CanRun, IsReady}
use Rattle.ped_eval.specs.Told.{Goes, Stops, Fails, Tells, Ran, StaysReady}
use Rattle.ped_eval.specs.Endings.{IsOutcomeBy}
use Rattle.ped_store.specs.Races.{Access, accesses}
use Rattle.ped_eval.specs.Follow.{Follow}
use Rattle.ped_eval.specs.Watched.{IfRan, Watched}
use Rattle.ped_eval.specs.declared.states.Flow.{Flow}
use Rattle.ped_eval.specs.declared.states.Flow.TheVariants as flow
use Rattle.ped_eval.specs.declared.states.RunError.{RunError}
use Rattle.ped_eval.specs.declared.states.RunError.TheVariants as error
use Rattle.ped_eval.proofs.Starts.{ready_at_start}

-- a name is found with its kind where it is among the names
found : (kind : List ℕ → Kind) (names : List (List ℕ)) (x : List ℕ) → entry_of (map (λ y. (y, kind y)) names) x ≡ (if is_among x names then Some (kind x) else None)
found kind [] x = refl
found kind (y ∷ ys) x = go (is_same_text x y) refl (found kind ys x)
  where
    go : (r : Bool) → is_same_text x y ≡ r → entry_of (map (λ y. (y, kind y)) ys) x ≡ (if is_among x ys then Some (kind x) else None)
        → (if r then Some (kind y) else entry_of (map (λ y. (y, kind y)) ys) x) ≡ (if r || is_among x ys then Some (kind x) else None)
    go true e h = ap (λ (z : List ℕ). Some (kind z)) (sym (same_is x y e))
    go false e h = h

-- the kinds of the table are those of the program
pub kinds_same : (t : ProgramTree) → kinds_by (table_of t) ≡ kind_in t
kinds_same t = λ i x. found (kind_of t) (names_of t) x i

-- the setting by the table is that of the program
pub setting_same : (t : ProgramTree) → setting_by (table_of t) ≡ setting_of t
setting_same t = λ i. record { bounds = λ x. bounds_of (kinds_same t i x); constants = (setting_of t).constants; number = λ n. n }

-- the statements of a right program can be run
pub can_run : (t : ProgramTree) → IsRight t → CanRun (table_of t) [] 1 t.body
can_run t right = record {
  right = ap (λ (k : NameKinds). stmts_are_right k t.body) (kinds_same t) ∙ right.statements;
  steps = right.steps;
  nested = nested (loops_deep t.body) right.nested;
  few = few (statements_count t.body) right.few_statements;
}
  where
    nested : (n : ℕ) → n ≤ 6 → 0 + n ≤ 6
    nested n h = omega arith

    few : (n : ℕ) → n ≤ 4000 → 1 + n < 2 ^ 31
    few n h = omega arith

-- before the first statement the code keeps what the run has
pub agrees_at_start : (m : Memory) (data_lines : List (List ℕ)) → m.cells ≡ store_at_start data_lines → Agrees [] (before [] 1) m.cells (store_at_start data_lines)
agrees_at_start m data_lines h = record {
  same = λ c outside. ap (λ (s : Store). s c) h;
  fresh = λ x path ahead. refl;
}

-- variables hold the same where stores are the same outside of private copies
values_same : (b : Dimensions) (x : List ℕ) (u s : Store) → IsSameOutside u s → values_of b x u ≡ values_of b x s
values_same b x u s same = go (has_some b.lower)
  where
    go : (r : Bool) → (if r then map (λ js. number_in (u (Element x js))) (elements_of b) else number_in (u (Scalar x)) ∷ []) ≡ (if r then map (λ js. number_in (s (Element x js))) (elements_of b) else number_in (s (Scalar x)) ∷ [])
    go true = λ i. map (λ js. number_in (same (Element x js) refl i)) (elements_of b)
    go false = λ i. number_in (same (Scalar x) refl i) ∷ []

ended_same : (t : ProgramTree) (m : Memory) (s : Store) → m.bounds ≡ (setting_by (table_of t)).bounds → IsSameOutside m.cells s
    → Outcomes.Ended (lines_in (m.cells Out)) (rows_in m (live_names t)) ≡ Outcomes.Ended (lines_in (s Out)) (live_rows t s)
ended_same t m s bounds same =
    ap (λ (b : List ℕ → Dimensions). Outcomes.Ended (lines_in (m.cells Out)) (map (λ x. record { name = x; values = values_of (b x) x m.cells }) (live_names t))) (bounds ∙ ap (λ (p : Setting). p.bounds) (setting_same t))
    ∙ λ i. Outcomes.Ended (lines_in (same Out refl i)) (map (λ x. record { name = x; values = values_same (bounds_of (kind_in t x)) x m.cells s same i }) (live_names t))

-- the run goes on to the END
pub ended_by_end : (t : ProgramTree) (moment : List ℕ) (m : Memory) (e : Ending) → m.bounds ≡ (setting_by (table_of t)).bounds → Goes [] moment m.cells e
    → Outcomes.Ended (lines_in (m.cells Out)) (rows_in m (live_names t)) ≡ outcome_of t e
ended_by_end t moment m (going s) bounds goes = ended_same t m s bounds goes.same
ended_by_end t moment m (stopped s) bounds goes = absurd goes
ended_by_end t moment m (failed fault statement) bounds goes = absurd goes

-- a STOP has ended the run
pub ended_by_stop : (t : ProgramTree) (m : Memory) (e : Ending) → m.bounds ≡ (setting_by (table_of t)).bounds → Stops m.cells e
    → Outcomes.Ended (lines_in (m.cells Out)) (rows_in m (live_names t)) ≡ outcome_of t e
ended_by_stop t m (going s) bounds stops = absurd stops
ended_by_stop t m (stopped s) bounds stops = ended_same t m s bounds stops
ended_by_stop t m (failed fault statement) bounds stops = absurd stops

-- a fault has ended the run
pub ended_by_fault : (t : ProgramTree) (number statement : ℕ) (e : Ending) → Fails number statement e → Outcomes.Fault number statement ≡ outcome_of t e
ended_by_fault t number statement (going s) fails = absurd fails
ended_by_fault t number statement (stopped s) fails = absurd fails
ended_by_fault t number statement (failed fault at) fails = ap (λ (n : ℕ). Outcomes.Fault n statement) fails.0 ∙ ap (λ (n : ℕ). Outcomes.Fault fault n) fails.1

-- the ending of the run by the table is that of the run of the program
ending_same : (t : ProgramTree) (s : Store) → (run_all (setting_by (table_of t)) t.body 1 [] s).ending ≡ (run_all (setting_of t) t.body 1 [] s).ending
ending_same t s = ap (λ (p : Setting). (run_all p t.body 1 [] s).ending) (setting_same t)

-- the answer tells the outcome of an ending
told_by : (t : ProgramTree) (moment : List ℕ) (new_scope : Scope) (m : Memory) (e : Ending) (o : Outcome) (answer : Result Flow RunError) → Tells [] moment answer m.cells e → StaysReady (table_of t) answer [] new_scope m
    → IsOutcomeBy t m answer o → o ≡ outcome_of t e
told_by t moment new_scope m e o (Ok flow.Going) goes stays is = is ∙ ended_by_end t moment m e stays.1.bounds goes
told_by t moment new_scope m e o (Ok flow.Stopped) stops bounds is = is ∙ ended_by_stop t m e bounds stops
told_by t moment new_scope m e o (Err (error.Fault number statement)) fails stays is = is ∙ ended_by_fault t number statement e fails
told_by t moment new_scope m e o (Err error.NoMemory) told stays is = absurd is

-- the answer of the run of all statements tells the outcome of the program
pub outcome_told : (t : ProgramTree) (data_bytes : List ℕ) (table : Table) (scope new_scope : Scope) (body : StmtTrees) (kept m : Memory) (next : ℕ) (answer : Result Flow RunError)
    → table ≡ table_of t → scope ≡ [] → body ≡ t.body → kept ≡ memory_at_start (shapes_by table.kinds) (lines data_bytes)
    → Ran scope 1 kept next answer m (run_all (setting_by table) body 1 scope) → StaysReady table answer scope new_scope m
    → (o : Outcome) → IsOutcomeBy t m answer o → o ≡ outcome t data_bytes
outcome_told t data_bytes table scope new_scope body kept m next answer by_table outside all start ran stays o is =
    let s : Store = store_at_start (lines data_bytes) in
    let ran1 : Ran scope 1 kept next answer m (run_all (setting_by (table_of t)) body 1 scope) = subst (λ (b : Table). Ran scope 1 kept next answer m (run_all (setting_by b) body 1 scope)) by_table ran in
    let ran2 : Ran [] 1 kept next answer m (run_all (setting_by (table_of t)) body 1 []) = subst (λ (b : Scope). Ran b 1 kept next answer m (run_all (setting_by (table_of t)) body 1 b)) outside ran1 in
    let ran3 : Ran [] 1 kept next answer m (run_all (setting_by (table_of t)) t.body 1 []) = subst (λ (b : StmtTrees). Ran [] 1 kept next answer m (run_all (setting_by (table_of t)) b 1 [])) all ran2 in
    let stays1 : StaysReady (table_of t) answer scope new_scope m = subst (λ (b : Table). StaysReady b answer scope new_scope m) by_table stays in
    let stays2 : StaysReady (table_of t) answer [] new_scope m = subst (λ (b : Scope). StaysReady (table_of t) answer b new_scope m) outside stays1 in
    told_by t (before [] next) new_scope m _ o answer (ran3 s (agrees_at_start kept (lines data_bytes) (ap (λ (k : Memory). k.cells) start))) stays2 is
    ∙ ap (outcome_of t) (ending_same t s)

-- the statements can be run where the code begins
pub can_run_from : (t : ProgramTree) (table : Table) (scope : Scope) (body : StmtTrees) → IsRight t → table ≡ table_of t → scope ≡ [] → body ≡ t.body → CanRun table scope 1 body
can_run_from t table scope body right by_table outside all =
    subst (λ (b : Table). CanRun b scope 1 body) (sym by_table)
    (subst (λ (b : Scope). CanRun (table_of t) b 1 body) (sym outside)
    (subst (λ (b : StmtTrees). CanRun (table_of t) [] 1 b) (sym all) (can_run t right)))

-- all that can be written stands where the code begins
pub ready_from : (table : Table) (scope : Scope) (kept : Memory) (data_lines : List (List ℕ)) → scope ≡ [] → kept ≡ memory_at_start (shapes_by table.kinds) data_lines → IsReady table scope kept
ready_from table scope kept data_lines outside start =
    subst (λ (b : Scope). IsReady table b kept) (sym outside) (subst (λ (k : Memory). IsReady table [] k) (sym start) (ready_at_start table data_lines))

-- where there is an outcome the run hasn't wanted memory
ran_by : {A E : Type 0} (P : Type 0) (t : ProgramTree) (m : Memory) (answer : Result Flow RunError) (view : A → Outcome) (r : Result A E) → IfRan answer P → IfOk r (λ o. IsOutcomeBy t m answer (view o)) → OnOk r P
ran_by P t m (Ok flow) view (Ok o) h is = h
ran_by P t m (Err (error.Fault number statement)) view (Ok o) h is = h
ran_by P t m (Err error.NoMemory) view (Ok o) h is = absurd is
ran_by P t m answer view (Err e) h is = tt

-- the answer of the run of all statements has told a watch the accesses of the program
pub watch_told : {W A E : Type 0} (follows : W → Access → W → Type 0) (t : ProgramTree) (data_bytes : List ℕ) (table : Table) (scope : Scope) (body : StmtTrees) (kept m : Memory) (answer : Result Flow RunError) (old new : W) (r : Result A E) (view : A → Outcome)
    → table ≡ table_of t → scope ≡ [] → body ≡ t.body → kept ≡ memory_at_start (shapes_by table.kinds) (lines data_bytes)
    → Watched follows old new scope (before scope 1) kept.cells answer (run_all (setting_by table) body 1 scope)
    → IfOk r (λ o. IsOutcomeBy t m answer (view o)) → OnOk r (Follow follows old (accesses (run_of t data_bytes).acts) new)
watch_told follows t data_bytes table scope body kept m answer old new r view by_table outside all start watched is =
    let s : Store = store_at_start (lines data_bytes) in
    let one : Watched follows old new scope (before scope 1) kept.cells answer (run_all (setting_by (table_of t)) body 1 scope) = subst (λ (b : Table). Watched follows old new scope (before scope 1) kept.cells answer (run_all (setting_by b) body 1 scope)) by_table watched in
    let two : Watched follows old new [] (before [] 1) kept.cells answer (run_all (setting_by (table_of t)) body 1 []) = subst (λ (b : Scope). Watched follows old new b (before b 1) kept.cells answer (run_all (setting_by (table_of t)) body 1 b)) outside one in
    let three : Watched follows old new [] (before [] 1) kept.cells answer (run_all (setting_by (table_of t)) t.body 1 []) = subst (λ (b : StmtTrees). Watched follows old new [] (before [] 1) kept.cells answer (run_all (setting_by (table_of t)) b 1 [])) all two in
    let told : IfRan answer (Follow follows old (accesses (run_of t data_bytes).acts) new) =
    subst (λ (p : Setting). IfRan answer (Follow follows old (accesses (run_all p t.body 1 [] s).acts) new)) (setting_same t)
    (three s (agrees_at_start kept (lines data_bytes) (ap (λ (k : Memory). k.cells) start))) in
    ran_by (Follow follows old (accesses (run_of t data_bytes).acts) new) t m answer view r told is
