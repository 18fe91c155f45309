-- What runs do before the entry of an outermost DO, and the paths to it.
use Rattle.std.proofs.Common.{◌≡◌, ℕ, zero, suc, ◌+◌, ◌≤◌, List, [], ◌∷◌, ◌++◌, Bool, true, false, not, ◌&&◌, ◌||◌, Option, Some, None, Result, Ok, Err, if◌then◌else◌, refl, sym, ap, subst, ◌∙◌, ◌⊎◌, inl, inr, arith}
use Rattle.std.specs.List.{list_any}
use Rattle.std.proofs.lemmas.List.Folds.{list_any-append}
use Rattle.std.proofs.lemmas.Bool.{or_left, or_right}
use Rattle.ped_flow.specs.ped_base.specs.Lists.{has_some, is_among}
use Rattle.ped_flow.specs.ped_tree.specs.Tree.{CondTree, Head, StmtTree, StmtTrees, Assign, If, Do, Print, Read, Stop, Comment, no_stmts, more_stmts, ProgramTree}
use Rattle.ped_flow.specs.ped_tree.specs.Accesses.{constant_names}
use Rattle.ped_flow.specs.ped_tree.specs.Numbering.{numbered, all_numbered, statement_with, statement_count, statements_count}
use Rattle.ped_eval.specs.ped_store.specs.Cells.{Scalar}
use Rattle.ped_eval.specs.ped_store.specs.Stores.{Store}
use Rattle.ped_eval.specs.ped_store.specs.Acts.{Touch, Turn, Place, Step, did, entered, ended_turn, closed, faulted, Act, store_behind}
use Rattle.ped_laws.specs.Acts.Fitting.{touches_of, store_after}
use Rattle.ped_eval.specs.Scopes.{Frame, Scope, Setting, names_in, place_of, turns_of}
use Rattle.ped_eval.specs.Evaluation as evaluation
use Rattle.ped_eval.specs.Evaluation.{Seen}
use Rattle.ped_eval.specs.Values.{truth}
use Rattle.ped_eval.specs.Statements.{assigned, assignment_touches, printed_line, print_touches, Taking, reading}
use Rattle.ped_eval.specs.Loops.{Limits, limits, Entered, entered_with, frame, exit_touches, exit_when_none, entry_touches}
use Rattle.ped_eval.specs.Runs.{Ending, going, stopped, failed, Run, followed_by, on_value, does, nothing_done, run_taking, turns, parallel_turns, run_entered, run_from_entry, run, run_all}
use Rattle.ped_flow.specs.Events.{Event, own_events, scalars_in_cond}
use Rattle.ped_flow.specs.PathSets.{Kind, Just, Either, InTurn}
use Rattle.ped_flow.specs.Paths.{paths, paths_before, all_paths_before, paths_to_outermost}
use Rattle.ped_flow.specs.Questions.{LoopOf, IsAssignedBefore}
use Rattle.ped_flow.proofs.Truths.{untrue, or_none}
use Rattle.ped_laws.proofs.ActLaws.Reorderings.{touches_append}
use Rattle.ped_laws.specs.FlowRuns.Covering.{is_number, Covers, AreCovered, stops_in_loop, some_stops_in_loop}
use Rattle.ped_laws.specs.FlowRuns.Exits.{IsOneToOne}
use Rattle.ped_laws.specs.FlowRuns.Entries.{IsEntry}
use Rattle.ped_laws.proofs.FlowRunLaws.Cells.{cell_named}
use Rattle.ped_laws.proofs.FlowRunLaws.Seeing.{is_seen, truth_seen}
use Rattle.ped_laws.proofs.FlowRunLaws.Coverings.{covers_nothing, covers_append, covers_reads}
use Rattle.ped_laws.proofs.FlowRunLaws.Covered.{covered}
use Rattle.ped_laws.proofs.FlowRunLaws.Holding.{number_after}
use Rattle.ped_laws.proofs.FlowRunLaws.Standing.{Stand, whole_stands, first_stands, rest_stands, inner_stands, else_stands, is_there}

-- an act enters a DO that no DO is round
abbrev is_entry_step : Step → Bool
is_entry_step did = false
is_entry_step (entered n) = true
is_entry_step (ended_turn n) = false
is_entry_step closed = false
is_entry_step faulted = false

abbrev enters : Act → Bool
enters a = is_entry_step a.step && not (has_some a.place.turns)

none_enters : (acts front : List Act) (a : Act) (behind : List Act) → list_any enters acts ≡ false → enters a ≡ true → acts ≡ front ++ a ∷ behind → ⊥
none_enters acts front a behind none h e =
    let all : list_any enters acts ≡ (list_any enters front || (enters a || list_any enters behind)) = ap (list_any enters) e ∙ list_any-append enters front (a ∷ behind) in
    let z : false ≡ true = sym none ∙ (all ∙ or_right (list_any enters front) _ (or_left (enters a) (list_any enters behind) h)) in
    untrue z

has_end : (xs : List Turn) (x : Turn) → has_some (xs ++ x ∷ []) ≡ true
has_end [] x = refl
has_end (y ∷ ys) x = refl

-- an act in one of two lists, and what stands before it
split_before : (xs ys front : List Act) (a : Act) (behind : List Act) → xs ++ ys ≡ front ++ a ∷ behind
    → ((mid : List Act) × (xs ≡ front ++ a ∷ mid)) ⊎ ((rest : List Act) × (front ≡ xs ++ rest) × (ys ≡ rest ++ a ∷ behind))
split_before [] ys front a behind h = inr (front, refl, h)
split_before (x ∷ xs) ys [] a behind h = let first : x ≡ a = cc in inl (xs, ap (λ (z : Act). z ∷ xs) first)
split_before (x ∷ xs) ys (f ∷ fs) a behind h =
    let first : x ≡ f = cc in
    let others : xs ++ ys ≡ fs ++ a ∷ behind = cc in
    elim (split_before xs ys fs a behind others) [
      | inl r ↦ inl (r.0, λ i. first i ∷ r.1 i)
      | inr r ↦ inr (r.0, (λ i. sym first i ∷ r.1 i), r.2)
    ]

-- runs whose acts enter no outermost DO
module _ where
  followed_none : (acts : List Act) (e : Ending) (next : Store → Run) → list_any enters acts ≡ false → ((u : Store) → list_any enters (next u).acts ≡ false) → list_any enters (followed_by acts e next).acts ≡ false
  followed_none acts (going u) next h k = list_any-append enters acts (next u).acts ∙ (λ i. h i || k u i)
  followed_none acts (stopped u) next h k = h
  followed_none acts (failed f n) next h k = h

  on_none : {A : Type 0} (at : Place) (seen : List Seen) (r : Result A ℕ) (next : List Seen → A → Run) → ((a : A) → list_any enters (next seen a).acts ≡ false) → list_any enters (on_value at seen r next).acts ≡ false
  on_none at seen (Ok a) next h = h a
  on_none at seen (Err f) next h = refl

  taking_none : (at : Place) (t : Taking) (o : Option ℕ) (s : Store) → list_any enters (run_taking at t o s).acts ≡ false
  taking_none at t None s = refl
  taking_none at t (Some f) s = refl

  part_none : (holds : Bool) (a b : Store → Run) (s : Store) → ((u : Store) → list_any enters (a u).acts ≡ false) → ((u : Store) → list_any enters (b u).acts ≡ false) → list_any enters ((if holds then a else b) s).acts ≡ false
  part_none true a b s h k = h s
  part_none false a b s h k = k s

  module _ (e : Entered) (S : Scope) (at : Place) (body : Frame → Store → Run) (h : (f : Frame) (u : Store) → list_any enters (body f u).acts ≡ false) where
    turns_none : (m k : ℕ) (s : Store) → list_any enters (turns m k e S at body s).acts ≡ false
    turns_none zero k s = refl
    turns_none (suc m) k s =
        followed_none (body (frame e k) s).acts (body (frame e k) s).ending (does (ended_turn m) at (exit_when_none m e S) (turns m (k + 1) e S at body)) (h (frame e k) s) (λ u. turns_none m (k + 1) (store_behind (exit_when_none m e S) u))

    parallel_none : (m k : ℕ) (s : Store) → list_any enters (parallel_turns m k e body s).acts ≡ false
    parallel_none zero k s = refl
    parallel_none (suc m) k s = followed_none (body (frame e k) s).acts (body (frame e k) s).ending (parallel_turns m (k + 1) e body) (h (frame e k) s) (λ u. parallel_none m (k + 1) u)

    pub entered_none : (parallel : Bool) (m : ℕ) (s : Store) → list_any enters (run_entered parallel m e S at body s).acts ≡ false
    entered_none true zero s = refl
    entered_none false zero s = refl
    entered_none false (suc m) s = turns_none (suc m) 1 s
    entered_none true (suc m) s = followed_none (parallel_turns (suc m) 1 e body s).acts (parallel_turns (suc m) 1 e body s).ending (does closed at (exit_touches e S) nothing_done) (parallel_none (suc m) 1 s) (λ u. refl)

  module _ (p : Setting) where
    mutual
      inner_none : (t : StmtTree) (n : ℕ) (f : Frame) (S : Scope) (s : Store) → list_any enters (run p t n (f ∷ S) s).acts ≡ false
      inner_none (Assign left right) n f S s = on_none (place_of p n (f ∷ S)) (assigned (names_in p (f ∷ S)) left right s).seen (assigned (names_in p (f ∷ S)) left right s).result (λ seen w. does did (place_of p n (f ∷ S)) (assignment_touches seen w) nothing_done s) (λ w. refl)
      inner_none (If condition a b) n f S s =
          on_none (place_of p n (f ∷ S)) (truth (names_in p (f ∷ S)) condition s).seen (truth (names_in p (f ∷ S)) condition s).result
          (λ seen holds. does did (place_of p n (f ∷ S)) (evaluation.numbered 1 seen) (if holds then run_all p a (n + 1) (f ∷ S) else run_all p b (n + 1 + statements_count a) (f ∷ S)) s)
          (λ holds. part_none holds (run_all p a (n + 1) (f ∷ S)) (run_all p b (n + 1 + statements_count a) (f ∷ S)) (store_behind (evaluation.numbered 1 (truth (names_in p (f ∷ S)) condition s).seen) s)
          (λ u. all_inner_none a (n + 1) f S u) (λ u. all_inner_none b (n + 1 + statements_count a) f S u))
      inner_none (Do h b) n f S s =
          on_none (place_of p n (f ∷ S)) (limits (names_in p (f ∷ S)) h s).seen (limits (names_in p (f ∷ S)) h s).result (λ seen l. run_from_entry seen (entered_with p n h b seen l) (f ∷ S) (place_of p n (f ∷ S)) (λ g. run_all p b (n + 1) (g ∷ f ∷ S)) s)
          (λ l. (λ i. (true && not (has_end (turns_of S) f.turn i)) || entered_none (entered_with p n h b (limits (names_in p (f ∷ S)) h s).seen l) (f ∷ S) (place_of p n (f ∷ S)) (λ g. run_all p b (n + 1) (g ∷ f ∷ S)) (λ g u. all_inner_none b (n + 1) g (f ∷ S) u)
          h.parallel (entered_with p n h b (limits (names_in p (f ∷ S)) h s).seen l).count (store_behind (entry_touches (limits (names_in p (f ∷ S)) h s).seen (entered_with p n h b (limits (names_in p (f ∷ S)) h s).seen l) (f ∷ S)) s) i))
      inner_none (Print items) n f S s = on_none (place_of p n (f ∷ S)) (printed_line (names_in p (f ∷ S)) items s).seen (printed_line (names_in p (f ∷ S)) items s).result (λ seen line. does did (place_of p n (f ∷ S)) (print_touches seen line s) nothing_done s) (λ w. refl)
      inner_none (Read items) n f S s = taking_none (place_of p n (f ∷ S)) (reading (names_in p (f ∷ S)) items s) (reading (names_in p (f ∷ S)) items s).fault s
      inner_none Stop n f S s = refl
      inner_none (Comment text) n f S s = refl

      pub all_inner_none : (ts : StmtTrees) (n : ℕ) (f : Frame) (S : Scope) (s : Store) → list_any enters (run_all p ts n (f ∷ S) s).acts ≡ false
      all_inner_none no_stmts n f S s = refl
      all_inner_none (more_stmts t rest) n f S s =
          followed_none (run p t n (f ∷ S) s).acts (run p t n (f ∷ S) s).ending (run_all p rest (n + statement_count t) (f ∷ S)) (inner_none t n f S s) (λ u. all_inner_none rest (n + statement_count t) f S u)

module _ (p : Setting) (one : IsOneToOne p.number) (t : ProgramTree) (x : List ℕ) (other : is_among x (constant_names t.decls) ≡ false) (l : ℕ)
    (a : Act) (k : ℕ) (step : a.step ≡ entered k) (outermost : a.place.turns ≡ []) (o : ℕ) (loop : LoopOf t o) (is : a.place.statement ≡ p.number o) (from : o ≤ l) (to : l ≤ o + statements_count loop.body) where
  abbrev Constants : List (List ℕ)
  Constants = constant_names t.decls

  -- a path of this kind covers the acts
  abbrev Reaches : Kind → List Act → Type 0
  Reaches K front = (path : List Event) × K path × Covers x (Scalar x) path (touches_of front)

  this_enters : enters a ≡ true
  this_enters = λ i. is_entry_step (step i) && not (has_some (outermost i))

  simple : (acts front behind : List Act) {A : Type 0} → list_any enters acts ≡ false → acts ≡ front ++ a ∷ behind → A
  simple acts front behind none eq = absurd (none_enters acts front a behind none this_enters eq)

  -- the entry itself
  at_entry : (h : Head) (b : StmtTrees) (n : ℕ) → statement_with n t ≡ Some (Do h b) → a.place.statement ≡ p.number n → Reaches (paths_before Constants l (Do h b) n) []
  at_entry h b n there place =
      let same : o ≡ n = one o n (sym is ∙ place) in
      let both : Some (Do loop.head loop.body) ≡ Some (Do h b) = sym loop.is ∙ (ap (λ (m : ℕ). statement_with m t) same ∙ there) in
      let body : loop.body ≡ b = cc in
      let count : statements_count loop.body ≡ statements_count b = ap statements_count body in
      ([], (omega (arith, from, same), omega (arith, to, same, count), refl), covers_nothing x (Scalar x))

  do_before : (h : Head) (b : StmtTrees) (n : ℕ) → statement_with n t ≡ Some (Do h b) → (s : Store) (front behind : List Act) → (run p (Do h b) n [] s).acts ≡ front ++ a ∷ behind → Reaches (paths_before Constants l (Do h b) n) front
  do_before h b n there s front behind eq = go (limits (names_in p []) h s).seen (limits (names_in p []) h s).result front eq
    where
      go : (seen : List Seen) (r : Result Limits ℕ) (front : List Act) → (on_value (place_of p n []) seen r (λ seen l. run_from_entry seen (entered_with p n h b seen l) [] (place_of p n []) (λ f. run_all p b (n + 1) (f ∷ [])) s)).acts ≡ front ++ a ∷ behind
          → Reaches (paths_before Constants l (Do h b) n) front
      go seen (Err f) front eq = simple _ front behind refl eq
      go seen (Ok m) [] eq =
          let act : Act = record { step = entered (entered_with p n h b seen m).count; place = place_of p n []; touches = entry_touches seen (entered_with p n h b seen m) [] } in
          let first : act ≡ a = cc in
          at_entry h b n there (ap (λ (z : Act). z.place.statement) (sym first))
      go seen (Ok m) (f ∷ fs) eq =
          let others : (run_entered h.parallel (entered_with p n h b seen m).count (entered_with p n h b seen m) [] (place_of p n []) (λ f. run_all p b (n + 1) (f ∷ [])) (store_behind (entry_touches seen (entered_with p n h b seen m) []) s)).acts ≡ fs ++ a ∷ behind = cc in
          simple _ fs behind (entered_none (entered_with p n h b seen m) [] (place_of p n []) (λ f. run_all p b (n + 1) (f ∷ [])) (λ f u. all_inner_none p b (n + 1) f [] u) h.parallel (entered_with p n h b seen m).count (store_behind (entry_touches seen (entered_with p n h b seen m) []) s)) others

  if_before : (n : ℕ) (condition : CondTree) (ca cb : StmtTrees) (A B : Kind) (run_a run_b : Store → Run) (s : Store) (front behind : List Act)
      → ((u : Store) (fs : List Act) → (run_a u).acts ≡ fs ++ a ∷ behind → Reaches A fs) → ((u : Store) (fs : List Act) → (run_b u).acts ≡ fs ++ a ∷ behind → Reaches B fs)
      → (on_value (place_of p n []) (truth (names_in p []) condition s).seen (truth (names_in p []) condition s).result (λ seen holds. does did (place_of p n []) (evaluation.numbered 1 seen) (if holds then run_a else run_b) s)).acts ≡ front ++ a ∷ behind
      → Reaches (InTurn (Just (own_events Constants n (If condition ca cb))) (Either A B)) front
  if_before n condition ca cb A B run_a run_b s front behind of_a of_b eq = go (truth (names_in p []) condition s).seen (truth (names_in p []) condition s).result (λ g. (truth_seen p [] Constants x (Scalar x) (cell_named [] x) other s condition g).among) front eq
    where
      part : (holds : Bool) (u : Store) (fs : List Act) → ((if holds then run_a else run_b) u).acts ≡ fs ++ a ∷ behind → Reaches (Either A B) fs
      part true u fs e = let r = of_a u fs e in (r.0, inl r.1, r.2)
      part false u fs e = let r = of_b u fs e in (r.0, inr r.1, r.2)

      go : (seen : List Seen) (r : Result Bool ℕ) → (is_seen (Scalar x) seen ≡ true → is_among x (scalars_in_cond Constants condition) ≡ true) → (front : List Act)
          → (on_value (place_of p n []) seen r (λ seen holds. does did (place_of p n []) (evaluation.numbered 1 seen) (if holds then run_a else run_b) s)).acts ≡ front ++ a ∷ behind
          → Reaches (InTurn (Just (own_events Constants n (If condition ca cb))) (Either A B)) front
      go seen (Err f) saw front eq = simple _ front behind refl eq
      go seen (Ok holds) saw [] eq =
          let act : Act = record { step = did; place = place_of p n []; touches = evaluation.numbered 1 seen } in
          let first : act ≡ a = cc in
          let z : false ≡ true = ap enters first ∙ this_enters in
          untrue z
      go seen (Ok holds) saw (f ∷ fs) eq =
          let act : Act = record { step = did; place = place_of p n []; touches = evaluation.numbered 1 seen } in
          let first : act ≡ f = cc in
          let others : ((if holds then run_a else run_b) (store_behind (evaluation.numbered 1 seen) s)).acts ≡ fs ++ a ∷ behind = cc in
          let r = part holds (store_behind (evaluation.numbered 1 seen) s) fs others in (
            own_events Constants n (If condition ca cb) ++ r.0,
            (own_events Constants n (If condition ca cb), r.0, refl, refl, r.1),
            subst (λ (z : Act). Covers x (Scalar x) (own_events Constants n (If condition ca cb) ++ r.0) (z.touches ++ touches_of fs)) first
                (covers_append x (Scalar x) (own_events Constants n (If condition ca cb)) r.0 (evaluation.numbered 1 seen) (touches_of fs) (covers_reads x (Scalar x) n 1 (scalars_in_cond Constants condition) seen saw) r.2),
          )

  list_before : (A B K : Kind) (acts : List Act) (e : Ending) (next : Store → Run) (front behind : List Act)
      → ((mid : List Act) → acts ≡ front ++ a ∷ mid → Reaches A front) → ((u : Store) (rest : List Act) → (next u).acts ≡ rest ++ a ∷ behind → Reaches B rest)
      → ((u : Store) → e ≡ going u → Reaches K acts)
      → (followed_by acts e next).acts ≡ front ++ a ∷ behind → Reaches (Either A (InTurn K B)) front
  list_before A B K acts (going u) next front behind first second done eq = elim (split_before acts (next u).acts front a behind eq) [
    | inl r ↦ (let f = first r.0 r.1 in (f.0, inl f.1, f.2))
    | inr r ↦ (
        let f = done u refl in
        let g = second u r.0 r.2 in
        let whole : touches_of front ≡ touches_of acts ++ touches_of r.0 = ap touches_of r.1 ∙ touches_append acts r.0 in
        (f.0 ++ g.0, inr (f.0, g.0, refl, f.1, g.1), subst (λ (z : List Touch). Covers x (Scalar x) (f.0 ++ g.0) z) (sym whole) (covers_append x (Scalar x) f.0 g.0 (touches_of acts) (touches_of r.0) f.2 g.2))
        )
  ]
  list_before A B K acts (stopped u) next front behind first second done eq = let f = first behind eq in (f.0, inl f.1, f.2)
  list_before A B K acts (failed i n) next front behind first second done eq = let f = first behind eq in (f.0, inl f.1, f.2)

  went_on : (u : StmtTree) (n : ℕ) (s : Store) → stops_in_loop u ≡ false → (w : Store) → (run p u n [] s).ending ≡ going w → Reaches (paths Constants u n).onward (run p u n [] s).acts
  went_on u n s h w e = subst (AreCovered (paths Constants u n) x (Scalar x) (touches_of (run p u n [] s).acts)) e (covered p Constants x other u n [] s h)

  mutual
    before : (u : StmtTree) (n : ℕ) → Stand t n (numbered u) → stops_in_loop u ≡ false → (s : Store) (front behind : List Act) → (run p u n [] s).acts ≡ front ++ a ∷ behind → Reaches (paths_before Constants l u n) front
    before (Assign left right) n stands h s front behind eq =
        simple _ front behind (on_none (place_of p n []) (assigned (names_in p []) left right s).seen (assigned (names_in p []) left right s).result (λ seen w. does did (place_of p n []) (assignment_touches seen w) nothing_done s) (λ w. refl)) eq
    before (If condition ca cb) n stands h s front behind eq =
        let parts = inner_stands t (If condition ca cb) (all_numbered ca ++ all_numbered cb) n stands in
        if_before n condition ca cb (all_paths_before Constants l ca (n + 1)) (all_paths_before Constants l cb (n + 1 + statements_count ca)) (run_all p ca (n + 1) []) (run_all p cb (n + 1 + statements_count ca) []) s front behind
        (λ u fs e. all_before ca (n + 1) (first_stands t (n + 1) (all_numbered ca) (all_numbered cb) parts) (or_none (some_stops_in_loop ca) (some_stops_in_loop cb) h).0 u fs behind e)
        (λ u fs e. all_before cb (n + 1 + statements_count ca) (else_stands t ca cb (n + 1) parts) (or_none (some_stops_in_loop ca) (some_stops_in_loop cb) h).1 u fs behind e) eq
    before (Do hd b) n stands h s front behind eq = do_before hd b n (is_there t (Do hd b) (all_numbered b) n stands) s front behind eq
    before (Print items) n stands h s front behind eq =
        simple _ front behind (on_none (place_of p n []) (printed_line (names_in p []) items s).seen (printed_line (names_in p []) items s).result (λ seen line. does did (place_of p n []) (print_touches seen line s) nothing_done s) (λ w. refl)) eq
    before (Read items) n stands h s front behind eq = simple _ front behind (taking_none (place_of p n []) (reading (names_in p []) items s) (reading (names_in p []) items s).fault s) eq
    before Stop n stands h s front behind eq = simple _ front behind refl eq
    before (Comment text) n stands h s front behind eq = simple _ front behind refl eq

    all_before : (us : StmtTrees) (n : ℕ) → Stand t n (all_numbered us) → some_stops_in_loop us ≡ false → (s : Store) (front behind : List Act) → (run_all p us n [] s).acts ≡ front ++ a ∷ behind → Reaches (all_paths_before Constants l us n) front
    all_before no_stmts n stands h s front behind eq = simple _ front behind refl eq
    all_before (more_stmts u rest) n stands h s front behind eq =
        list_before (paths_before Constants l u n) (all_paths_before Constants l rest (n + statement_count u)) (paths Constants u n).onward (run p u n [] s).acts (run p u n [] s).ending (run_all p rest (n + statement_count u) []) front behind
        (λ mid e. before u n (first_stands t n (numbered u) (all_numbered rest) stands) (or_none (stops_in_loop u) (some_stops_in_loop rest) h).0 s front mid e)
        (λ w fs e. all_before rest (n + statement_count u) (rest_stands t u rest n stands) (or_none (stops_in_loop u) (some_stops_in_loop rest) h).1 w fs behind e)
        (λ w e. went_on u n s (or_none (stops_in_loop u) (some_stops_in_loop rest) h).0 w e) eq

  pub whole_before : some_stops_in_loop t.body ≡ false → (s : Store) (front behind : List Act) → (run_all p t.body 1 [] s).acts ≡ front ++ a ∷ behind → Reaches (all_paths_before Constants l t.body 1) front
  whole_before h s front behind eq = all_before t.body 1 (whole_stands t) h s front behind eq

-- a path to an outermost DO covers what comes before its entry
pub entry_covered : (p : Setting) (one : IsOneToOne p.number) (t : ProgramTree) (x : List ℕ) (other : is_among x (constant_names t.decls) ≡ false) → some_stops_in_loop t.body ≡ false → (s : Store) (l : ℕ) (front : List Act) → IsEntry p t s l front
    → (path : List Event) × paths_to_outermost t l path × Covers x (Scalar x) path (touches_of front)
entry_covered p one t x other unstopping s l front e = whole_before p one t x other l e.act e.count e.enters e.outermost e.number e.loop e.is e.from e.to unstopping s front e.behind e.whole

-- what is assigned before an outermost DO holds a number when it is entered
pub number_before : (p : Setting) (one : IsOneToOne p.number) (t : ProgramTree) (x : List ℕ) (other : is_among x (constant_names t.decls) ≡ false) → some_stops_in_loop t.body ≡ false → (s : Store) (l : ℕ) (front : List Act) → IsEntry p t s l front → IsAssignedBefore t l x
    → is_number (store_after front s (Scalar x)) ≡ true
number_before p one t x other unstopping s l front e before =
    let r = entry_covered p one t x other unstopping s l front e in
    number_after (Scalar x) front s (r.2.valued false (before r.0 r.1))
