-- What runs do behind an exit of a DO, and the paths from it.
use Rattle.std.proofs.Common.{◌≡◌, ℕ, zero, suc, ◌+◌, ◌≤◌, List, [], ◌∷◌, ◌++◌, Bool, true, false, ◌&&◌, ◌||◌, ◌==◌, Option, Some, None, Result, Ok, Err, if◌then◌else◌, refl, sym, ap, subst, ◌∙◌, ◌⊎◌, inl, inr, arith, eqb-true}
use Rattle.std.specs.List.{list_any}
use Rattle.std.proofs.lemmas.List.Folds.{list_any-append}
use Rattle.std.proofs.lemmas.Bool.{and_parts, or_left, or_right}
use Rattle.ped_flow.specs.ped_base.specs.Lists.{is_among}
use Rattle.ped_flow.specs.ped_tree.specs.Tree.{CondTree, Head, StmtTree, StmtTrees, Assign, If, Do, Print, Read, Stop, Comment, no_stmts, more_stmts, ProgramTree}
use Rattle.ped_flow.specs.ped_tree.specs.Accesses.{constant_names}
use Rattle.ped_flow.specs.ped_tree.specs.Numbering.{numbered, all_numbered, statement_with, statement_count, statements_count}
use Rattle.ped_eval.specs.ped_store.specs.Cells.{Cell}
use Rattle.ped_eval.specs.ped_store.specs.Stores.{Store}
use Rattle.ped_eval.specs.ped_store.specs.Acts.{Touch, Place, did, entered, ended_turn, closed, Act, store_behind}
use Rattle.ped_laws.specs.Acts.Fitting.{touches_of}
use Rattle.ped_laws.specs.Acts.Sets.{written_by, needed_by}
use Rattle.ped_eval.specs.Scopes.{Frame, Scope, Setting, names_in, place_of, cell_of}
use Rattle.ped_eval.specs.Evaluation as evaluation
use Rattle.ped_eval.specs.Evaluation.{Seen}
use Rattle.ped_eval.specs.Values.{truth}
use Rattle.ped_eval.specs.Statements.{assigned, assignment_touches, printed_line, print_touches, Taking, reading}
use Rattle.ped_eval.specs.Loops.{Limits, limits, Entered, entered_with, frame, exit_touches, exit_when_none, entry_touches}
use Rattle.ped_eval.specs.Runs.{Ending, going, stopped, failed, Run, followed_by, then_run, on_value, does, nothing_done, run_taking, turns, run_entered, run_from_entry, run, run_all}
use Rattle.ped_flow.specs.Events.{Event, start_events, exit_events, overwrites}
use Rattle.ped_flow.specs.PathSets as paths
use Rattle.ped_flow.specs.PathSets.{Just, InTurn, AnyTimes, Paths, in_turn, either}
use Rattle.ped_flow.specs.Paths.{all_paths, at_once, paths_behind, all_paths_behind}
use Rattle.ped_flow.proofs.Truths.{untrue, or_split, or_none}
use Rattle.ped_flow.proofs.EventLaws.{overwrites-append, reads_first-front, reads_first-back}
use Rattle.ped_laws.proofs.ActLaws.Reorderings.{touches_append}
use Rattle.ped_laws.specs.FlowRuns.Covering.{is_cell_of, IsReadOn, Covers, AreCovered, some_stop, some_stops_in_loop, stops_in_loop}
use Rattle.ped_laws.specs.FlowRuns.Exits.{is_exit, leaves, IsOneToOne, AreIterationsOf, Follows}
use Rattle.ped_laws.proofs.FlowRunLaws.Cells.{cell_named}
use Rattle.ped_laws.proofs.FlowRunLaws.Coverings.{needed_parts, written_parts, not_so}
use Rattle.ped_laws.proofs.FlowRunLaws.Reading.{needed_read}
use Rattle.ped_laws.proofs.FlowRunLaws.Located.{IsDeeper, cell_round, all_located}
use Rattle.ped_laws.proofs.FlowRunLaws.Apart.{deeper_not_own, deeper_apart}
use Rattle.ped_laws.proofs.FlowRunLaws.Unstopped.{IsUnstopped, all_unstopped}
use Rattle.ped_laws.proofs.FlowRunLaws.Covered.{none_in_loops, all_covered}
use Rattle.ped_laws.proofs.FlowRunLaws.Looping.{Goes}
use Rattle.ped_laws.proofs.FlowRunLaws.Resting.{rest_run, RestFollows, more_rest, entered_rest, rest_followed}
use Rattle.ped_laws.proofs.FlowRunLaws.Standing.{Stand, first_stands, rest_stands, inner_stands, else_stands, is_there}

-- an act in one of two lists, and what stands behind it
pub split_behind : (xs ys front : List Act) (a : Act) (behind : List Act) → xs ++ ys ≡ front ++ a ∷ behind
    → ((mid : List Act) × (xs ≡ front ++ a ∷ mid) × (behind ≡ mid ++ ys)) ⊎ ((rest : List Act) × (ys ≡ rest ++ a ∷ behind))
split_behind [] ys front a behind h = inr (front, h)
split_behind (x ∷ xs) ys [] a behind h =
    let first : x ≡ a = cc in
    let others : xs ++ ys ≡ behind = cc in
    inl (xs, ap (λ (z : Act). z ∷ xs) first, sym others)
split_behind (x ∷ xs) ys (f ∷ fs) a behind h =
    let first : x ≡ f = cc in
    let others : xs ++ ys ≡ fs ++ a ∷ behind = cc in
    elim (split_behind xs ys fs a behind others) [
      | inl r ↦ inl (r.0, (λ i. first i ∷ r.1 i), r.2)
      | inr r ↦ inr r
    ]

none_behind : (front : List Act) (a : Act) (behind : List Act) → [] ≡ front ++ a ∷ behind → ⊥
none_behind [] a behind h = absurd cc
none_behind (f ∷ fs) a behind h = absurd cc

-- acts of which none leaves the DO
none_leaves : (number : ℕ) (acts front : List Act) (a : Act) (behind : List Act) → list_any (leaves number) acts ≡ false → leaves number a ≡ true → acts ≡ front ++ a ∷ behind → ⊥
none_leaves number acts front a behind none h e =
    let all : list_any (leaves number) acts ≡ (list_any (leaves number) front || (leaves number a || list_any (leaves number) behind)) = ap (list_any (leaves number)) e ∙ list_any-append (leaves number) front (a ∷ behind) in
    let z : false ≡ true = sym none ∙ (all ∙ or_right (list_any (leaves number) front) _ (or_left (leaves number a) (list_any (leaves number) behind) h)) in
    untrue z

and_no : (b : Bool) → (b && false) ≡ false
and_no true = refl
and_no false = refl

no_act : (b : Bool) → ((b && false) || false) ≡ false
no_act true = refl
no_act false = refl

-- a path follows touches of a run that ends so
abbrev pub AreFollowed : Paths → List ℕ → Cell → Cell → List Touch → Ending → Type 0
AreFollowed ps x own c ts (going s) = (path : List Event) × ps.onward path × Follows x own c path ts
AreFollowed ps x own c ts (stopped s) = (path : List Event) × ps.ending path × Follows x own c path ts
AreFollowed ps x own c ts (failed fault statement) = Unit {0}

-- an act leaves the DO at a place of the program, and a path follows what comes behind it
pub record IsBehind (p : Setting) (t : ProgramTree) (x : List ℕ) (l : ℕ) (ps : Paths) (S : Scope) (n count : ℕ) (a : Act) (ts : List Touch) (e : Ending) : Type 0 where
  pub scope : Scope
  pub place : a.place ≡ place_of p l scope
  pub iterations : AreIterationsOf p t scope
  pub cell : (cell_of scope x ≡ cell_of S x) ⊎ IsDeeper p x (cell_of scope x) S n count
  pub followed : AreFollowed ps x (cell_of S x) (cell_of scope x) ts e

either_first : (A B : Paths) (x : List ℕ) (own c : Cell) (ts : List Touch) (e : Ending) → AreFollowed A x own c ts e → AreFollowed (either A B) x own c ts e
either_first A B x own c ts (going s) h = (h.0, inl h.1, h.2)
either_first A B x own c ts (stopped s) h = (h.0, inl h.1, h.2)
either_first A B x own c ts (failed fault n) h = tt

either_second : (A B : Paths) (x : List ℕ) (own c : Cell) (ts : List Touch) (e : Ending) → AreFollowed B x own c ts e → AreFollowed (either A B) x own c ts e
either_second A B x own c ts (going s) h = (h.0, inr h.1, h.2)
either_second A B x own c ts (stopped s) h = (h.0, inr h.1, h.2)
either_second A B x own c ts (failed fault n) h = tt

-- what follows one list and then another, where the second needs the cell only as the scalar's own
follows_append : (x : List ℕ) (own within c : Cell) (p q : List Event) (xs ys : List Touch) → Follows x within c p xs → RestFollows x own within c q ys → Follows x own c (p ++ q) (xs ++ ys)
follows_append x own within c p q xs ys h k = record { read = λ o. read (needed_parts xs ys c o); written = λ e o. written e (or_split (overwrites x p) (overwrites x q) (sym (overwrites-append x p q) ∙ o)) }
  where
    untouched : c ≡ within → written_by xs c ≡ false → overwrites x p ≡ false
    untouched e w = not_so (overwrites x p) (λ o. let z : false ≡ true = sym w ∙ h.written e o in untrue z)

    later : (c ≡ within) ⊎ (needed_by ys c ≡ false) → written_by xs c ≡ false → needed_by ys c ≡ true → IsReadOn x (p ++ q)
    later (inl e) w o = let r = k.follows.read o in (r.0, reads_first-back x r.0 p q (untouched e w) r.1)
    later (inr u) w o = let z : false ≡ true = sym u ∙ o in untrue z

    read : (needed_by xs c ≡ true) ⊎ ((written_by xs c ≡ false) × (needed_by ys c ≡ true)) → IsReadOn x (p ++ q)
    read (inl o) = let r = h.read o in (r.0, reads_first-front x r.0 p q r.1)
    read (inr o) = later k.need o.0 o.1

    front : (c ≡ within) ⊎ (written_by ys c ≡ true) → overwrites x p ≡ true → written_by (xs ++ ys) c ≡ true
    front (inl e) o = written_parts xs ys c ∙ or_left (written_by xs c) (written_by ys c) (h.written e o)
    front (inr w) o = written_parts xs ys c ∙ or_right (written_by xs c) (written_by ys c) w

    written : c ≡ own → (overwrites x p ≡ true) ⊎ (overwrites x q ≡ true) → written_by (xs ++ ys) c ≡ true
    written e (inl o) = front (k.write e) o
    written e (inr o) = written_parts xs ys c ∙ or_right (written_by xs c) (written_by ys c) (k.follows.written e o)

-- statements behind some of them: the cell is the scalar's own there, or a copy that they don't touch
rest_of_statements : (x : List ℕ) (own c : Cell) (q : List Event) (ys : List Touch) → Covers x own q ys → (c ≡ own) ⊎ ((needed_by ys c ≡ false) × (c ≡ own → ⊥)) → RestFollows x own own c q ys
rest_of_statements x own c q ys h (inl e) =
    let all = subst (λ (d : Cell). Covers x d q ys) (sym e) h in
    record { follows = record { read = all.read; written = λ i o. all.written o }; need = inl e; write = λ i. inl e }
rest_of_statements x own c q ys h (inr u) = record {
  follows = record { read = λ o. (let z : false ≡ true = sym u.0 ∙ o in untrue z); written = λ i o. absurd (u.1 i) };
  need = inr u.0;
  write = λ i. absurd (u.1 i);
}

module _ (p : Setting) (one : IsOneToOne p.number) (t : ProgramTree) (x : List ℕ) (other : is_among x (constant_names t.decls) ≡ false) (l : ℕ) (a : Act) (exits : leaves (p.number l) a ≡ true) where
  abbrev Constants : List (List ℕ)
  Constants = constant_names t.decls

  -- the act's own exit
  at_exit : (S : Scope) (n count : ℕ) (B : Paths) (act : Act) (u : Store) → AreIterationsOf p t S → a ≡ act → act.place ≡ place_of p n S → IsBehind p t x l (either (at_once (l == n)) B) S n count a [] (going u)
  at_exit S n count B act u iterations e place = record { scope = S; place = here; iterations = iterations; cell = inl refl; followed = ([], inl nothing, record { read = λ o. untrue o; written = λ i o. untrue o }) }
    where
      at : a.place ≡ place_of p n S
      at = ap (λ (z : Act). z.place) e ∙ place

      number : l ≡ n
      number = one l n (sym (eqb-true a.place.statement (p.number l) (and_parts (a.place.statement == p.number l) (is_exit a.step) exits).0) ∙ ap (λ (z : Place). z.statement) at)

      here : a.place ≡ place_of p l S
      here = at ∙ ap (λ (m : ℕ). place_of p m S) (sym number)

      itself : (l == l) ≡ true
      itself = grind (arith, eqb-true)

      same : (l == n) ≡ true
      same = subst (λ (m : ℕ). (l == m) ≡ true) number itself

      nothing : (at_once (l == n)).onward []
      nothing = subst (λ (b : Bool). (at_once b).onward []) (sym same) refl

  -- a step that leaves no DO
  not_this : (act : Act) → a ≡ act → is_exit act.step ≡ false → ⊥
  not_this act e k =
      let z : false ≡ true = sym k ∙ (ap (λ (z : Act). is_exit z.step) (sym e) ∙ (and_parts (a.place.statement == p.number l) (is_exit a.step) exits).1) in
      untrue z

  -- a DO of the program
  module _ (S : Scope) (iterations : AreIterationsOf p t S) (n : ℕ) (h : Head) (b : StmtTrees) (is : statement_with n t ≡ Some (Do h b)) (unstopping : some_stop b ≡ false)
      (inner : (f : Frame) → AreIterationsOf p t (f ∷ S) → (u : Store) (front behind : List Act) → (run_all p b (n + 1) (f ∷ S) u).acts ≡ front ++ a ∷ behind
      → IsBehind p t x l (all_paths_behind Constants l b (n + 1)) (f ∷ S) (n + 1) (statements_count b) a (touches_of behind) (run_all p b (n + 1) (f ∷ S) u).ending)
      (seen : List Seen) (m0 : Limits) where
    abbrev E : Entered
    E = entered_with p n h b seen m0

    abbrev Body : Frame → Store → Run
    Body f = run_all p b (n + 1) (f ∷ S)

    abbrev Left : Paths
    Left = in_turn (paths.trips (in_turn (paths.going (start_events n h b)) (all_paths Constants b (n + 1)))) (paths.going (exit_events n h b))

    abbrev OfDo : List Act → Ending → Type 0
    OfDo behind e = IsBehind p t x l (paths_behind Constants l (Do h b) n) S n (statements_count b + 1) a (touches_of behind) e

    trip_of : (j : ℕ) → AreIterationsOf p t (frame E j ∷ S)
    trip_of j = (record { number = n; loop = record { head = h; body = b; is = is }; turn = refl; variable = refl; private = refl }, iterations)

    -- from an iteration to the DO
    out_of_trip : (k : ℕ) (ts us : List Touch) (e d : Ending) → (g : IsBehind p t x l (all_paths_behind Constants l b (n + 1)) (frame E k ∷ S) (n + 1) (statements_count b) a ts e)
        → AreFollowed (in_turn (all_paths_behind Constants l b (n + 1)) Left) x (cell_of S x) (cell_of g.scope x) us d → IsBehind p t x l (paths_behind Constants l (Do h b) n) S n (statements_count b + 1) a us d
    out_of_trip k ts us e d g f = record {
      scope = g.scope;
      place = g.place;
      iterations = g.iterations;
      cell = cell_round p Constants x (cell_of g.scope x) (cell_named g.scope x) other S n h b E refl refl k g.cell;
      followed = either_second (at_once (l == n)) (in_turn (all_paths_behind Constants l b (n + 1)) Left) x (cell_of S x) (cell_of g.scope x) us d f;
    }

    -- a list of the exit alone
    only_exit : (act : Act) (u : Store) (front behind : List Act) → act.place ≡ place_of p n S → act ∷ [] ≡ front ++ a ∷ behind → OfDo behind (going u)
    only_exit act u [] behind place eq =
        let first : act ≡ a = cc in
        let others : [] ≡ behind = cc in
        subst (λ (z : List Act). OfDo z (going u)) others (at_exit S n (statements_count b + 1) (in_turn (all_paths_behind Constants l b (n + 1)) Left) act u iterations (sym first) place)
    only_exit act u (f ∷ fs) behind place eq = let others : [] ≡ fs ++ a ∷ behind = cc in absurd (none_behind fs a behind others)

    -- a list that begins with an act which leaves no DO
    behind_act : (act : Act) (r : Run) (front behind : List Act) → is_exit act.step ≡ false → ((fs : List Act) → r.acts ≡ fs ++ a ∷ behind → OfDo behind r.ending) → act ∷ r.acts ≡ front ++ a ∷ behind → OfDo behind r.ending
    behind_act act r [] behind k rest eq = let first : act ≡ a = cc in absurd (not_this act (sym first) k)
    behind_act act r (f ∷ fs) behind k rest eq = let others : r.acts ≡ fs ++ a ∷ behind = cc in rest fs others

    not_last : (m : ℕ) → (suc m == 0) ≡ false
    not_last m = grind arith

    iteration_behind : (parallel : Bool) (m k : ℕ) (u : Store) (front behind : List Act) → ((w : Store) (rest : List Act) → (rest_run parallel E S (place_of p n S) Body m (k + 1) w).acts ≡ rest ++ a ∷ behind → OfDo behind (rest_run parallel E S (place_of p n S) Body m (k + 1) w).ending)
        → (then_run (Body (frame E k) u) (rest_run parallel E S (place_of p n S) Body m (k + 1))).acts ≡ front ++ a ∷ behind → OfDo behind (then_run (Body (frame E k) u) (rest_run parallel E S (place_of p n S) Body m (k + 1))).ending
    iteration_behind parallel m k u front behind later h0 =
        go (Body (frame E k) u).acts (Body (frame E k) u).ending (all_unstopped p b (n + 1) (frame E k ∷ S) u unstopping) (λ mid e. inner (frame E k) (trip_of k) u front mid e) h0
      where
        join : (w : Store) (mid : List Act) (g : IsBehind p t x l (all_paths_behind Constants l b (n + 1)) (frame E k ∷ S) (n + 1) (statements_count b) a (touches_of mid) (going w)) (e : Ending) (us : List Touch)
            → Goes (λ path ts. AnyTimes (InTurn (Just (start_events n h b)) (all_paths Constants b (n + 1)).onward) path × RestFollows x (cell_of S x) (cell_of (frame E k ∷ S) x) (cell_of g.scope x) (path ++ exit_events n h b) ts) us e
            → AreFollowed (in_turn (all_paths_behind Constants l b (n + 1)) Left) x (cell_of S x) (cell_of g.scope x) (touches_of mid ++ us) e
        join w mid g (going v) us r = (
          g.followed.0 ++ (r.0 ++ exit_events n h b),
          (g.followed.0, r.0 ++ exit_events n h b, refl, g.followed.1, (r.0, exit_events n h b, refl, r.1.0, refl)),
          follows_append x (cell_of S x) (cell_of (frame E k ∷ S) x) (cell_of g.scope x) g.followed.0 (r.0 ++ exit_events n h b) (touches_of mid) us g.followed.2 r.1.1,
        )
        join w mid g (stopped v) us r = absurd r
        join w mid g (failed fault i) us r = tt

        go : (acts : List Act) (e : Ending) → IsUnstopped e → ((mid : List Act) → acts ≡ front ++ a ∷ mid → IsBehind p t x l (all_paths_behind Constants l b (n + 1)) (frame E k ∷ S) (n + 1) (statements_count b) a (touches_of mid) e)
            → (followed_by acts e (rest_run parallel E S (place_of p n S) Body m (k + 1))).acts ≡ front ++ a ∷ behind → OfDo behind (followed_by acts e (rest_run parallel E S (place_of p n S) Body m (k + 1))).ending
        go acts (going w) v ih eq = elim (split_behind acts (rest_run parallel E S (place_of p n S) Body m (k + 1) w).acts front a behind eq) [
          | inl r ↦ (
              let g = ih r.0 r.1 in
              let whole : touches_of behind ≡ touches_of r.0 ++ touches_of (rest_run parallel E S (place_of p n S) Body m (k + 1) w).acts = ap touches_of r.2 ∙ touches_append r.0 (rest_run parallel E S (place_of p n S) Body m (k + 1) w).acts in
              out_of_trip k (touches_of r.0) (touches_of behind) (going w) (rest_run parallel E S (place_of p n S) Body m (k + 1) w).ending g
              (subst (λ (z : List Touch). AreFollowed (in_turn (all_paths_behind Constants l b (n + 1)) Left) x (cell_of S x) (cell_of g.scope x) z (rest_run parallel E S (place_of p n S) Body m (k + 1) w).ending) (sym whole)
              (join w r.0 g (rest_run parallel E S (place_of p n S) Body m (k + 1) w).ending (touches_of (rest_run parallel E S (place_of p n S) Body m (k + 1) w).acts)
              (rest_followed p Constants x other S n h b seen m0 unstopping (cell_of g.scope x) (cell_named g.scope x) m (k + 1) k (omega arith)
              (λ f w. all_covered p Constants x other b (n + 1) (f ∷ S) w (none_in_loops b unstopping)) parallel w g.cell)))
              )
          | inr r ↦ later w r.0 r.1
        ]
        go acts (stopped w) v ih eq = absurd v
        go acts (failed fault i) v ih eq = let g = ih behind eq in out_of_trip k (touches_of behind) (touches_of behind) (failed fault i) (failed fault i) g tt

    rest_behind : (parallel : Bool) (m k : ℕ) (u : Store) (front behind : List Act) → (rest_run parallel E S (place_of p n S) Body m k u).acts ≡ front ++ a ∷ behind → OfDo behind (rest_run parallel E S (place_of p n S) Body m k u).ending
    rest_behind false zero k u front behind eq = only_exit (record { step = ended_turn 0; place = place_of p n S; touches = exit_touches E S }) (store_behind (exit_touches E S) u) front behind refl eq
    rest_behind true zero k u front behind eq = only_exit (record { step = closed; place = place_of p n S; touches = exit_touches E S }) (store_behind (exit_touches E S) u) front behind refl eq
    rest_behind false (suc m) k u front behind eq =
        behind_act (record { step = ended_turn (suc m); place = place_of p n S; touches = exit_when_none (suc m) E S }) (turns (suc m) k E S (place_of p n S) Body (store_behind (exit_when_none (suc m) E S) u)) front behind (not_last m)
        (λ fs e. iteration_behind false m k (store_behind (exit_when_none (suc m) E S) u) fs behind (λ w rest e. rest_behind false m (k + 1) w rest behind e) e) eq
    rest_behind true (suc m) k u front behind eq =
        subst (λ (r : Run). OfDo behind r.ending) (sym (more_rest E S (place_of p n S) Body m k u))
        (iteration_behind true m k u front behind (λ w rest e. rest_behind true m (k + 1) w rest behind e) (sym (ap (λ (r : Run). r.acts) (more_rest E S (place_of p n S) Body m k u)) ∙ eq))

    from_entry_behind : (u : Store) (front behind : List Act) → (run_from_entry seen E S (place_of p n S) Body u).acts ≡ front ++ a ∷ behind → OfDo behind (run_from_entry seen E S (place_of p n S) Body u).ending
    from_entry_behind u front behind eq = by E.head.parallel E.count (entry_touches seen E S) front eq
      where
        by : (parallel : Bool) (m : ℕ) (ts : List Touch) (front : List Act) → (does (entered m) (place_of p n S) ts (run_entered parallel m E S (place_of p n S) Body) u).acts ≡ front ++ a ∷ behind
            → OfDo behind (does (entered m) (place_of p n S) ts (run_entered parallel m E S (place_of p n S) Body) u).ending
        by true zero ts front eq = only_exit (record { step = entered 0; place = place_of p n S; touches = ts }) (store_behind ts u) front behind refl eq
        by false zero ts front eq = only_exit (record { step = entered 0; place = place_of p n S; touches = ts }) (store_behind ts u) front behind refl eq
        by parallel (suc m) ts front eq =
            behind_act (record { step = entered (suc m); place = place_of p n S; touches = ts }) (run_entered parallel (suc m) E S (place_of p n S) Body (store_behind ts u)) front behind (not_last m)
            (λ fs e. subst (λ (r : Run). OfDo behind r.ending) (sym (entered_rest parallel E S (place_of p n S) Body m (store_behind ts u)))
            (iteration_behind parallel m 1 (store_behind ts u) fs behind (λ w rest e. rest_behind parallel m 2 w rest behind e) (sym (ap (λ (r : Run). r.acts) (entered_rest parallel E S (place_of p n S) Body m (store_behind ts u))) ∙ e))) eq

  -- statements that leave no DO
  simple : (n : ℕ) (acts front behind : List Act) {A : Type 0} → list_any (leaves (p.number l)) acts ≡ false → acts ≡ front ++ a ∷ behind → A
  simple n acts front behind none eq = absurd (none_leaves (p.number l) acts front a behind none exits eq)

  value_leaves : {A : Type 0} (at : Place) (seen : List Seen) (r : Result A ℕ) (ts : List Seen → A → List Touch) (s : Store) → list_any (leaves (p.number l)) (on_value at seen r (λ seen w. does did at (ts seen w) nothing_done s)).acts ≡ false
  value_leaves at seen (Ok w) ts s = no_act (at.statement == p.number l)
  value_leaves at seen (Err f) ts s = no_act (at.statement == p.number l)

  taking_leaves : (at : Place) (k : Taking) (o : Option ℕ) (s : Store) → list_any (leaves (p.number l)) (run_taking at k o s).acts ≡ false
  taking_leaves at k None s = no_act (at.statement == p.number l)
  taking_leaves at k (Some f) s = no_act (at.statement == p.number l)

  -- into a part of an IF, and past statements
  widen : (S : Scope) (m k n count : ℕ) (A B : Paths) (ts : List Touch) (e : Ending) → n ≤ m → m + k ≤ n + count → ((own c : Cell) → AreFollowed A x own c ts e → AreFollowed B x own c ts e)
      → IsBehind p t x l A S m k a ts e → IsBehind p t x l B S n count a ts e
  widen S m k n count A B ts e from to into g = record { scope = g.scope; place = g.place; iterations = g.iterations; cell = cells g.cell; followed = into (cell_of S x) (cell_of g.scope x) g.followed }
    where
      cells : (cell_of g.scope x ≡ cell_of S x) ⊎ IsDeeper p x (cell_of g.scope x) S m k → (cell_of g.scope x ≡ cell_of S x) ⊎ IsDeeper p x (cell_of g.scope x) S n count
      cells (inl i) = inl i
      cells (inr d) = let d_from = d.from in let d_to = d.to in inr (record { statement = d.statement; from = omega (arith, from, d_from); to = omega (arith, to, d_to); number = d.number; rest = d.rest; is = d.is })

  if_behind : (S : Scope) (n : ℕ) (condition : CondTree) (ca cb : ℕ) (A B : Paths) (run_a run_b : Store → Run) (s : Store) (front behind : List Act)
      → ((u : Store) (fs : List Act) → (run_a u).acts ≡ fs ++ a ∷ behind → IsBehind p t x l A S (n + 1) ca a (touches_of behind) (run_a u).ending)
      → ((u : Store) (fs : List Act) → (run_b u).acts ≡ fs ++ a ∷ behind → IsBehind p t x l B S (n + 1 + ca) cb a (touches_of behind) (run_b u).ending)
      → (on_value (place_of p n S) (truth (names_in p S) condition s).seen (truth (names_in p S) condition s).result (λ seen holds. does did (place_of p n S) (evaluation.numbered 1 seen) (if holds then run_a else run_b) s)).acts ≡ front ++ a ∷ behind
      → IsBehind p t x l (either A B) S n (ca + cb + 1) a (touches_of behind)
      (on_value (place_of p n S) (truth (names_in p S) condition s).seen (truth (names_in p S) condition s).result (λ seen holds. does did (place_of p n S) (evaluation.numbered 1 seen) (if holds then run_a else run_b) s)).ending
  if_behind S n condition ca cb A B run_a run_b s front behind of_a of_b eq = go (truth (names_in p S) condition s).seen (truth (names_in p S) condition s).result front eq
    where
      part : (holds : Bool) (u : Store) (fs : List Act) → ((if holds then run_a else run_b) u).acts ≡ fs ++ a ∷ behind → IsBehind p t x l (either A B) S n (ca + cb + 1) a (touches_of behind) ((if holds then run_a else run_b) u).ending
      part true u fs e = widen S (n + 1) ca n (ca + cb + 1) A (either A B) (touches_of behind) (run_a u).ending (omega arith) (omega arith) (λ own c f. either_first A B x own c (touches_of behind) (run_a u).ending f) (of_a u fs e)
      part false u fs e = widen S (n + 1 + ca) cb n (ca + cb + 1) B (either A B) (touches_of behind) (run_b u).ending (omega arith) (omega arith) (λ own c f. either_second A B x own c (touches_of behind) (run_b u).ending f) (of_b u fs e)

      go : (seen : List Seen) (r : Result Bool ℕ) (front : List Act) → (on_value (place_of p n S) seen r (λ seen holds. does did (place_of p n S) (evaluation.numbered 1 seen) (if holds then run_a else run_b) s)).acts ≡ front ++ a ∷ behind
          → IsBehind p t x l (either A B) S n (ca + cb + 1) a (touches_of behind) (on_value (place_of p n S) seen r (λ seen holds. does did (place_of p n S) (evaluation.numbered 1 seen) (if holds then run_a else run_b) s)).ending
      go seen (Err f) front eq = simple n _ front behind (no_act (p.number n == p.number l)) eq
      go seen (Ok holds) [] eq =
          let act : Act = record { step = did; place = place_of p n S; touches = evaluation.numbered 1 seen } in
          let first : act ≡ a = cc in
          absurd (not_this act (sym first) refl)
      go seen (Ok holds) (f ∷ fs) eq =
          let others : ((if holds then run_a else run_b) (store_behind (evaluation.numbered 1 seen) s)).acts ≡ fs ++ a ∷ behind = cc in
          part holds (store_behind (evaluation.numbered 1 seen) s) fs others

  list_behind : (S : Scope) (n k more : ℕ) (P A B : Paths) (acts : List Act) (e : Ending) (next : Store → Run) (front behind : List Act)
      → ((mid : List Act) → acts ≡ front ++ a ∷ mid → IsBehind p t x l P S n k a (touches_of mid) e)
      → ((u : Store) (rest : List Act) → (next u).acts ≡ rest ++ a ∷ behind → IsBehind p t x l A S (n + k) more a (touches_of behind) (next u).ending)
      → ((u : Store) → AreCovered B x (cell_of S x) (touches_of (next u).acts) (next u).ending)
      → ((u : Store) (c : Cell) → is_cell_of x c ≡ true → IsDeeper p x c S n k → needed_by (touches_of (next u).acts) c ≡ false)
      → (followed_by acts e next).acts ≡ front ++ a ∷ behind → IsBehind p t x l (either (in_turn P B) A) S n (k + more) a (touches_of behind) (followed_by acts e next).ending
  list_behind S n k more P A B acts (going u) next front behind first second covers apart eq = elim (split_behind acts (next u).acts front a behind eq) [
    | inl r ↦ (
        let g = first r.0 r.1 in
        let whole : touches_of behind ≡ touches_of r.0 ++ touches_of (next u).acts = ap touches_of r.2 ∙ touches_append r.0 (next u).acts in
        widen S n k n (k + more) (in_turn P B) (either (in_turn P B) A) (touches_of behind) (next u).ending (omega arith) (omega arith) (λ own c f. either_first (in_turn P B) A x own c (touches_of behind) (next u).ending f)
        (record {
          scope = g.scope;
          place = g.place;
          iterations = g.iterations;
          cell = g.cell;
          followed = subst (λ (z : List Touch). AreFollowed (in_turn P B) x (cell_of S x) (cell_of g.scope x) z (next u).ending) (sym whole)
              (join (cell_of g.scope x) (touches_of r.0) (touches_of (next u).acts) g.followed (rest_cell (cell_of g.scope x) (cell_named g.scope x) g.cell) (next u).ending (covers u));
        })
        )
    | inr r ↦ widen S (n + k) more n (k + more) A (either (in_turn P B) A) (touches_of behind) (next u).ending (omega arith) (omega arith) (λ own c f. either_second (in_turn P B) A x own c (touches_of behind) (next u).ending f) (second u r.0 r.1)
  ]
    where
      rest_cell : (c : Cell) → is_cell_of x c ≡ true → (c ≡ cell_of S x) ⊎ IsDeeper p x c S n k → (c ≡ cell_of S x) ⊎ ((needed_by (touches_of (next u).acts) c ≡ false) × (c ≡ cell_of S x → ⊥))
      rest_cell c named (inl i) = inl i
      rest_cell c named (inr d) = inr (apart u c named d, deeper_not_own p x c S n k d)

      join : (c : Cell) (mid us : List Touch) → (path : List Event) × P.onward path × Follows x (cell_of S x) c path mid → (c ≡ cell_of S x) ⊎ ((needed_by us c ≡ false) × (c ≡ cell_of S x → ⊥)) → (e : Ending)
          → AreCovered B x (cell_of S x) us e → AreFollowed (in_turn P B) x (cell_of S x) c (mid ++ us) e
      join c mid us f r (going w) v = (f.0 ++ v.0, (f.0, v.0, refl, f.1, v.1), follows_append x (cell_of S x) (cell_of S x) c f.0 v.0 mid us f.2 (rest_of_statements x (cell_of S x) c v.0 us v.2 r))
      join c mid us f r (stopped w) v = (f.0 ++ v.0, inr (f.0, v.0, refl, f.1, v.1), follows_append x (cell_of S x) (cell_of S x) c f.0 v.0 mid us f.2 (rest_of_statements x (cell_of S x) c v.0 us v.2 r))
      join c mid us f r (failed fault i) v = tt
  list_behind S n k more P A B acts (stopped u) next front behind first second covers apart eq =
      widen S n k n (k + more) P (either (in_turn P B) A) (touches_of behind) (stopped u) (omega arith) (omega arith) (λ own c f. (f.0, inl (inl f.1), f.2)) (first behind eq)
  list_behind S n k more P A B acts (failed fault i) next front behind first second covers apart eq =
      widen S n k n (k + more) P (either (in_turn P B) A) (touches_of behind) (failed fault i) (omega arith) (omega arith) (λ own c f. tt) (first behind eq)

  do_behind : (S : Scope) (iterations : AreIterationsOf p t S) (n : ℕ) (h : Head) (b : StmtTrees) (is : statement_with n t ≡ Some (Do h b)) (unstopping : some_stop b ≡ false)
      → ((f : Frame) → AreIterationsOf p t (f ∷ S) → (u : Store) (front behind : List Act) → (run_all p b (n + 1) (f ∷ S) u).acts ≡ front ++ a ∷ behind
      → IsBehind p t x l (all_paths_behind Constants l b (n + 1)) (f ∷ S) (n + 1) (statements_count b) a (touches_of behind) (run_all p b (n + 1) (f ∷ S) u).ending)
      → (s : Store) (front behind : List Act) → (run p (Do h b) n S s).acts ≡ front ++ a ∷ behind → IsBehind p t x l (paths_behind Constants l (Do h b) n) S n (statements_count b + 1) a (touches_of behind) (run p (Do h b) n S s).ending
  do_behind S iterations n h b is unstopping inner s front behind eq = go (limits (names_in p S) h s).seen (limits (names_in p S) h s).result eq
    where
      go : (seen : List Seen) (r : Result Limits ℕ) → (on_value (place_of p n S) seen r (λ seen l. run_from_entry seen (entered_with p n h b seen l) S (place_of p n S) (λ f. run_all p b (n + 1) (f ∷ S)) s)).acts ≡ front ++ a ∷ behind
          → IsBehind p t x l (paths_behind Constants l (Do h b) n) S n (statements_count b + 1) a (touches_of behind)
          (on_value (place_of p n S) seen r (λ seen l. run_from_entry seen (entered_with p n h b seen l) S (place_of p n S) (λ f. run_all p b (n + 1) (f ∷ S)) s)).ending
      go seen (Ok m0) e = from_entry_behind S iterations n h b is unstopping inner seen m0 s front behind e
      go seen (Err f) e = simple n _ front behind (no_act (p.number n == p.number l)) e

  mutual
    pub behind_exit : (u : StmtTree) (n : ℕ) (S : Scope) → AreIterationsOf p t S → Stand t n (numbered u) → stops_in_loop u ≡ false → (s : Store) (front behind : List Act) → (run p u n S s).acts ≡ front ++ a ∷ behind
        → IsBehind p t x l (paths_behind Constants l u n) S n (statement_count u) a (touches_of behind) (run p u n S s).ending
    behind_exit (Assign left right) n S iterations stands h s front behind eq =
        simple n _ front behind (value_leaves (place_of p n S) (assigned (names_in p S) left right s).seen (assigned (names_in p S) left right s).result (λ seen w. assignment_touches seen w) s) eq
    behind_exit (If condition ca cb) n S iterations stands h s front behind eq =
        let parts = inner_stands t (If condition ca cb) (all_numbered ca ++ all_numbered cb) n stands in
        if_behind S n condition (statements_count ca) (statements_count cb) (all_paths_behind Constants l ca (n + 1)) (all_paths_behind Constants l cb (n + 1 + statements_count ca)) (run_all p ca (n + 1) S) (run_all p cb (n + 1 + statements_count ca) S) s front behind
        (λ u fs e. all_behind_exit ca (n + 1) S iterations (first_stands t (n + 1) (all_numbered ca) (all_numbered cb) parts) (or_none (some_stops_in_loop ca) (some_stops_in_loop cb) h).0 u fs behind e)
        (λ u fs e. all_behind_exit cb (n + 1 + statements_count ca) S iterations (else_stands t ca cb (n + 1) parts) (or_none (some_stops_in_loop ca) (some_stops_in_loop cb) h).1 u fs behind e) eq
    behind_exit (Do hd b) n S iterations stands h s front behind eq =
        do_behind S iterations n hd b (is_there t (Do hd b) (all_numbered b) n stands) h
        (λ f its u fs bs e. all_behind_exit b (n + 1) (f ∷ S) its (inner_stands t (Do hd b) (all_numbered b) n stands) (none_in_loops b h) u fs bs e) s front behind eq
    behind_exit (Print items) n S iterations stands h s front behind eq =
        simple n _ front behind (value_leaves (place_of p n S) (printed_line (names_in p S) items s).seen (printed_line (names_in p S) items s).result (λ seen line. print_touches seen line s) s) eq
    behind_exit (Read items) n S iterations stands h s front behind eq = simple n _ front behind (taking_leaves (place_of p n S) (reading (names_in p S) items s) (reading (names_in p S) items s).fault s) eq
    behind_exit Stop n S iterations stands h s front behind eq = simple n _ front behind (no_act (p.number n == p.number l)) eq
    behind_exit (Comment text) n S iterations stands h s front behind eq = absurd (none_behind front a behind eq)

    pub all_behind_exit : (us : StmtTrees) (n : ℕ) (S : Scope) → AreIterationsOf p t S → Stand t n (all_numbered us) → some_stops_in_loop us ≡ false → (s : Store) (front behind : List Act) → (run_all p us n S s).acts ≡ front ++ a ∷ behind
        → IsBehind p t x l (all_paths_behind Constants l us n) S n (statements_count us) a (touches_of behind) (run_all p us n S s).ending
    all_behind_exit no_stmts n S iterations stands h s front behind eq = absurd (none_behind front a behind eq)
    all_behind_exit (more_stmts u rest) n S iterations stands h s front behind eq =
        list_behind S n (statement_count u) (statements_count rest) (paths_behind Constants l u n) (all_paths_behind Constants l rest (n + statement_count u)) (all_paths Constants rest (n + statement_count u)) (run p u n S s).acts (run p u n S s).ending (run_all p rest (n + statement_count u) S) front behind
        (λ mid e. behind_exit u n S iterations (first_stands t n (numbered u) (all_numbered rest) stands) (or_none (stops_in_loop u) (some_stops_in_loop rest) h).0 s front mid e)
        (λ w fs e. all_behind_exit rest (n + statement_count u) S iterations (rest_stands t u rest n stands) (or_none (stops_in_loop u) (some_stops_in_loop rest) h).1 w fs behind e)
        (λ w. all_covered p Constants x other rest (n + statement_count u) S w (or_none (stops_in_loop u) (some_stops_in_loop rest) h).1)
        (λ w c named d. not_so _ (λ o. apart c d (all_located p Constants x c named other rest (n + statement_count u) S w (needed_read c _ o)).cell)) eq
      where
        apart : (c : Cell) → IsDeeper p x c S n (statement_count u) → (c ≡ cell_of S x) ⊎ IsDeeper p x c S (n + statement_count u) (statements_count rest) → ⊥
        apart c d (inl e) = deeper_not_own p x c S n (statement_count u) d e
        apart c d (inr g) = deeper_apart p x c S n (statement_count u) (statements_count rest) one d g
