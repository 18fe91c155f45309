-- Runs under other statement numbers.
use Rattle.std.proofs.Common.{◌≡◌, ℕ, zero, suc, ◌+◌, ℤ, List, [], ◌∷◌, ◌++◌, map, Bool, true, false, Option, Some, None, Result, Ok, Err, refl, sym, ap, ◌∙◌, subst, if◌then◌else◌}
use Rattle.std.specs.Prelude.{◌==◌}
use Rattle.std.proofs.lemmas.List.{map-append}
use Rattle.ped_base.specs.Lists.{is_same_text, is_among}
use Rattle.ped_tree.specs.Tree.{ExprTree, CondTree, ItemTree, Head, StmtTree, StmtTrees, Assign, If, Do, Print, Read, Stop, Comment, no_stmts, more_stmts}
use Rattle.ped_tree.specs.Numbering.{statement_count, statements_count}
use Rattle.ped_weaves.specs.ped_store.specs.Cells.{Cell, Scalar, Element, Private, In, Out, Iteration, same_cell}
use Rattle.ped_weaves.specs.ped_store.specs.Stores.{Store, lines_in}
use Rattle.ped_weaves.specs.ped_store.specs.Acts.{Touch, Turn, Place, Step, did, entered, ended_turn, closed, faulted, Act, store_behind, iterations_of}
use Rattle.ped_weaves.specs.ped_store.specs.DataLines.{begun}
use Rattle.ped_weaves.specs.ped_eval.specs.Scopes.{Setting, Frame, Scope, turns_of, cell_of, index_value, Names, names_in, place_of}
use Rattle.ped_weaves.specs.ped_eval.specs.Evaluation.{Seen, Evaluated, numbered}
use Rattle.ped_weaves.specs.ped_eval.specs.Values.{truth}
use Rattle.ped_weaves.specs.ped_eval.specs.Statements.{assigned, assignment_touches, printed_line, print_touches, write_touch, Taking, reading, reading_touches}
use Rattle.ped_weaves.specs.ped_eval.specs.Loops.{Limits, limits, increment, iteration_count, inner_variables, Entered, entered_with, frame, undefined_by, undefined_all, left_in_variable, exit_touches, exit_when_none, entry_touches}
use Rattle.ped_weaves.specs.ped_eval.specs.Runs.{Ending, going, stopped, failed, Run, nothing_done, followed_by, then_run, does, fails, on, run_assignment, run_print, run_taking, run_read, run_stop, run_if, turns, parallel_turns, run_entered, run_from_entry, run_do, run, run_all}
use Rattle.ped_steps.specs.Runs.Exchanging.{exchanged_touch}
use Rattle.ped_steps.specs.Runs.Renumbering.{renumbered_iteration, renumbered_cell, old_store, renumbered_turn, renumbered_place, renumbered_act, EndsAs, IsRenumbered, IsToldBack, renumbered}
use Rattle.ped_steps.proofs.RunLaws.ExchangedTouches.{told_apart, taken_in, assignment_touches_in, print_touches_in, left_in, taking_from_in, undefined_by_in, undefined_all_in}
use Rattle.ped_steps.proofs.RunLaws.ExchangedSight.{seen_in, seeing, AreNames, numbered_in, behind_in, stored_in, truth_in, assigned_in, line_in, limits_in}

module _ (f g : ℕ → ℕ) (told : IsToldBack f g) where
  abbrev name : Cell → Cell
  name = renumbered_cell f

  abbrev moved : Store → Store
  moved = old_store f

  path_back : (path : List Iteration) → map (renumbered_iteration g) (map (renumbered_iteration f) path) ≡ path
  path_back [] = refl
  path_back (j ∷ path) = λ i. record { statement = told.back j.statement i; number = j.number } ∷ path_back path i

  cell_back : (c : Cell) → renumbered_cell g (name c) ≡ c
  cell_back (Scalar x) = refl
  cell_back (Element x js) = refl
  cell_back (Private x path) = ap (Private x) (path_back path)
  cell_back In = refl
  cell_back Out = refl

  pub same_test : (c d : Cell) → same_cell (name c) (name d) ≡ same_cell c d
  same_test = told_apart name (renumbered_cell g) cell_back

  -- the second piece does under new numbers what the first does
  abbrev pub IsMoved : (Store → Run) → (Store → Run) → Type 0
  IsMoved p q = (s : Store) → IsRenumbered f (q s) (p (moved s))

  nothing_in : IsMoved nothing_done nothing_done
  nothing_in s = record { acts = refl; ending = refl }

  stop_in : IsMoved (λ u. record { acts = []; ending = stopped u }) (λ u. record { acts = []; ending = stopped u })
  stop_in s = record { acts = refl; ending = refl }

  followed_in : (acts new : List Act) (e d : Ending) (p q : Store → Run) → new ≡ map (renumbered_act f) acts → EndsAs f d e → IsMoved p q → IsRenumbered f (followed_by new d q) (followed_by acts e p)
  followed_in acts new (going u) (going v) p q a h k =
      let more = subst (λ (w : Store). IsRenumbered f (q v) (p w)) h (k v) in
      record { acts = (λ i. a i ++ more.acts i) ∙ sym (map-append (renumbered_act f) acts (p u).acts); ending = more.ending }
  followed_in acts new (stopped u) (stopped v) p q a h k = record { acts = a; ending = h }
  followed_in acts new (failed n m) (failed o l) p q a h k = record { acts = a; ending = h }
  followed_in acts new (going u) (stopped v) p q a h k = absurd h
  followed_in acts new (going u) (failed o l) p q a h k = absurd h
  followed_in acts new (stopped u) (going v) p q a h k = absurd h
  followed_in acts new (stopped u) (failed o l) p q a h k = absurd h
  followed_in acts new (failed n m) (going v) p q a h k = absurd h
  followed_in acts new (failed n m) (stopped v) p q a h k = absurd h

  then_in : (a a_other b b_other : Store → Run) → IsMoved a a_other → IsMoved b b_other → IsMoved (λ s. then_run (a s) b) (λ s. then_run (a_other s) b_other)
  then_in a a_other b b_other h k s = followed_in (a (moved s)).acts (a_other s).acts (a (moved s)).ending (a_other s).ending b b_other (h s).acts (h s).ending k

  does_in : (step : Step) (at : Place) (ts : List Touch) (a b : Store → Run) → IsMoved a b → (s : Store) → IsRenumbered f (does step (renumbered_place f at) (map (exchanged_touch name) ts) b s) (does step at ts a (moved s))
  does_in step at ts a b h s =
      followed_in (record { step = step; place = at; touches = ts } ∷ []) (record { step = step; place = renumbered_place f at; touches = map (exchanged_touch name) ts } ∷ []) (going (store_behind ts (moved s))) (going (store_behind (map (exchanged_touch name) ts) s)) a b refl (left_in name same_test ts s) h

  does_with : (step : Step) (at : Place) (ts new : List Touch) (a b : Store → Run) → new ≡ map (exchanged_touch name) ts → IsMoved a b → (s : Store) → IsRenumbered f (does step (renumbered_place f at) new b s) (does step at ts a (moved s))
  does_with step at ts new a b e h s = subst (λ (us : List Touch). IsRenumbered f (does step (renumbered_place f at) us b s) (does step at ts a (moved s))) (sym e) (does_in step at ts a b h s)

  fails_with : (at : Place) (ts new : List Touch) (fault : ℕ) → new ≡ map (exchanged_touch name) ts → IsRenumbered f (fails (renumbered_place f at) new fault) (fails at ts fault)
  fails_with at ts new fault e = record { acts = λ i. record { step = faulted; place = renumbered_place f at; touches = e i } ∷ []; ending = (refl, refl) }

  on_in : {A X : Type 0} (at : Place) (k : A → X) (e : Evaluated A) (e_other : Evaluated X) (next : List Seen → A → Run) (other : List Seen → X → Run)
      → e_other ≡ seeing name k e → ((seen : List Seen) (x : A) → IsRenumbered f (other (map (seen_in name) seen) (k x)) (next seen x)) → IsRenumbered f (on (renumbered_place f at) e_other other) (on at e next)
  on_in {A} {X} at k e e_other next other same more = subst (λ (z : Evaluated X). IsRenumbered f (on (renumbered_place f at) z other) (on at e next)) (sym same) (go e.seen e.result)
    where
      go : (seen : List Seen) (r : Result A ℕ) → IsRenumbered f (on (renumbered_place f at) (seeing name k (record { seen = seen; result = r })) other) (on at (record { seen = seen; result = r }) next)
      go seen (Ok x) = more seen x
      go seen (Err fault) = fails_with at (numbered 1 seen) (numbered 1 (map (seen_in name) seen)) fault (numbered_in name 1 seen)

  chosen_in : (b : Bool) (a a_other c c_other : Store → Run) → IsMoved a a_other → IsMoved c c_other → IsMoved (if b then a else c) (if b then a_other else c_other)
  chosen_in true a a_other c c_other h k = h
  chosen_in false a a_other c c_other h k = k

  elements : (x : List ℕ) (js : List ℤ) → name (Element x js) ≡ Element x js
  elements x js = refl

  -- statements by themselves
  module _ (m other : Names) (same : AreNames name m other) (at : Place) where
    assignment_in : (left right : ExprTree) → IsMoved (run_assignment m at left right) (run_assignment other (renumbered_place f at) left right)
    assignment_in left right s =
        on_in at (stored_in name) (assigned m left right (moved s)) (assigned other left right s)
        (λ seen w. does did at (assignment_touches seen w) nothing_done (moved s)) (λ seen w. does did (renumbered_place f at) (assignment_touches seen w) nothing_done s)
        (assigned_in name elements m other same left right s)
        (λ seen w. does_with did at (assignment_touches seen w) (assignment_touches (map (seen_in name) seen) (stored_in name w)) nothing_done nothing_done (assignment_touches_in name seen w) nothing_in s)

    print_in : (items : List ItemTree) → IsMoved (run_print m at items) (run_print other (renumbered_place f at) items)
    print_in items s =
        on_in at (λ (line : List ℕ). line) (printed_line m items (moved s)) (printed_line other items s)
        (λ seen line. does did at (print_touches seen line (moved s)) nothing_done (moved s)) (λ seen line. does did (renumbered_place f at) (print_touches seen line s) nothing_done s)
        (line_in name elements m other same items s)
        (λ seen line. does_with did at (print_touches seen line (moved s)) (print_touches (map (seen_in name) seen) line s) nothing_done nothing_done (print_touches_in name refl seen line s) nothing_in s)

    reading_in : (items : List ExprTree) (s : Store) → reading other items s ≡ taken_in name (reading m items (moved s))
    reading_in items s = taking_from_in name same_test elements m other same items (begun (lines_in (s In))) s

    read_in : (items : List ExprTree) → IsMoved (run_read m at items) (run_read other (renumbered_place f at) items)
    read_in items s = subst (λ (t : Taking). IsRenumbered f (run_taking (renumbered_place f at) t t.fault s) (run_read m at items (moved s))) (sym (reading_in items s)) (go (reading m items (moved s)) (reading m items (moved s)).fault)
      where
        go : (t : Taking) (fault : Option ℕ) → IsRenumbered f (run_taking (renumbered_place f at) (taken_in name t) fault s) (run_taking at t fault (moved s))
        go t None = does_in did at (reading_touches t (moved s)) nothing_done nothing_done nothing_in s
        go t (Some n) = fails_with at (reading_touches t (moved s)) (reading_touches (taken_in name t) s) n refl

    if_in : (c : CondTree) (a a_other b b_other : Store → Run) → IsMoved a a_other → IsMoved b b_other → IsMoved (run_if m at c a b) (run_if other (renumbered_place f at) c a_other b_other)
    if_in c a a_other b b_other p q s =
        on_in at (λ (holds : Bool). holds) (truth m c (moved s)) (truth other c s)
        (λ seen holds. does did at (numbered 1 seen) (if holds then a else b) (moved s)) (λ seen holds. does did (renumbered_place f at) (numbered 1 seen) (if holds then a_other else b_other) s)
        (truth_in name elements m other same c s)
        (λ seen holds. does_with did at (numbered 1 seen) (numbered 1 (map (seen_in name) seen)) (if holds then a else b) (if holds then a_other else b_other) (numbered_in name 1 seen) (chosen_in holds a a_other b b_other p q) s)

  -- two places, the second of them under new numbers
  pub record AreRenumbered (scope other : Scope) : Type 0 where
    pub turns : turns_of other ≡ map (renumbered_turn f) (turns_of scope)
    pub index : (x : List ℕ) → index_value other x ≡ index_value scope x
    pub cell : (x : List ℕ) → cell_of other x ≡ name (cell_of scope x)

  abbrev renumbered_entered : Entered → Entered
  renumbered_entered e = record e { number = f e.number }

  -- loops
  module _ (scope other : Scope) (same : AreRenumbered scope other) where
    exit_in : (e : Entered) → exit_touches (renumbered_entered e) other ≡ map (exchanged_touch name) (exit_touches e scope)
    exit_in e =
        (λ i. write_touch (same.cell e.head.variable i) (left_in_variable e) 0 ∷ (undefined_by_in name scope other same.cell e.behind_bounds e.head.private i ++ undefined_all_in name scope other same.cell e.inner i))
        ∙ ap (λ (ts : List Touch). write_touch (name (cell_of scope e.head.variable)) (left_in_variable e) 0 ∷ ts) (sym (map-append (exchanged_touch name) (undefined_by scope e.behind_bounds e.head.private) (undefined_all scope e.inner)))

    exit_when_in : (n : ℕ) (e : Entered) → exit_when_none n (renumbered_entered e) other ≡ map (exchanged_touch name) (exit_when_none n e scope)
    exit_when_in n e = go (n == 0)
      where
        go : (b : Bool) → (if b then exit_touches (renumbered_entered e) other else []) ≡ map (exchanged_touch name) (if b then exit_touches e scope else [])
        go true = exit_in e
        go false = refl

    entry_in : (seen : List Seen) (e : Entered) → entry_touches (map (seen_in name) seen) (renumbered_entered e) other ≡ map (exchanged_touch name) (entry_touches seen e scope)
    entry_in seen e = (λ i. numbered_in name 1 seen i ++ exit_when_in e.count e i) ∙ sym (map-append (exchanged_touch name) (numbered 1 seen) (exit_when_none e.count e scope))

    module _ (e : Entered) (at : Place) (body body_other : Frame → Store → Run) (more : (k : ℕ) → IsMoved (body (frame e k)) (body_other (frame (renumbered_entered e) k))) where
      turns_in : (n k : ℕ) → IsMoved (turns n k e scope at body) (turns n k (renumbered_entered e) other (renumbered_place f at) body_other)
      turns_in zero k = nothing_in
      turns_in (suc n) k =
          then_in (body (frame e k)) (body_other (frame (renumbered_entered e) k)) (does (ended_turn n) at (exit_when_none n e scope) (turns n (k + 1) e scope at body))
          (does (ended_turn n) (renumbered_place f at) (exit_when_none n (renumbered_entered e) other) (turns n (k + 1) (renumbered_entered e) other (renumbered_place f at) body_other)) (more k)
          (λ s. does_with (ended_turn n) at (exit_when_none n e scope) (exit_when_none n (renumbered_entered e) other) (turns n (k + 1) e scope at body) (turns n (k + 1) (renumbered_entered e) other (renumbered_place f at) body_other) (exit_when_in n e) (turns_in n (k + 1)) s)

      parallel_in : (n k : ℕ) → IsMoved (parallel_turns n k e body) (parallel_turns n k (renumbered_entered e) body_other)
      parallel_in zero k = nothing_in
      parallel_in (suc n) k = then_in (body (frame e k)) (body_other (frame (renumbered_entered e) k)) (parallel_turns n (k + 1) e body) (parallel_turns n (k + 1) (renumbered_entered e) body_other) (more k) (parallel_in n (k + 1))

      entered_in : (b : Bool) (count : ℕ) → IsMoved (run_entered b count e scope at body) (run_entered b count (renumbered_entered e) other (renumbered_place f at) body_other)
      entered_in b zero = nothing_in
      entered_in false (suc n) = turns_in (suc n) 1
      entered_in true (suc n) =
          then_in (parallel_turns (suc n) 1 e body) (parallel_turns (suc n) 1 (renumbered_entered e) body_other) (does closed at (exit_touches e scope) nothing_done) (does closed (renumbered_place f at) (exit_touches (renumbered_entered e) other) nothing_done) (parallel_in (suc n) 1)
          (λ s. does_with closed at (exit_touches e scope) (exit_touches (renumbered_entered e) other) nothing_done nothing_done (exit_in e) nothing_in s)

      from_entry_in : (seen : List Seen) (s : Store) → IsRenumbered f (run_from_entry (map (seen_in name) seen) (renumbered_entered e) other (renumbered_place f at) body_other s) (run_from_entry seen e scope at body (moved s))
      from_entry_in seen s =
          does_with (entered e.count) at (entry_touches seen e scope) (entry_touches (map (seen_in name) seen) (renumbered_entered e) other) (run_entered e.head.parallel e.count e scope at body)
          (run_entered e.head.parallel e.count (renumbered_entered e) other (renumbered_place f at) body_other) (entry_in seen e) (entered_in e.head.parallel e.count) s

    place_in : (p : Setting) (n : ℕ) → place_of (renumbered f p) n other ≡ renumbered_place f (place_of p n scope)
    place_in p n = λ i. record { statement = f (p.number n); turns = same.turns i }

    names_in_new : (p : Setting) → AreNames name (names_in p scope) (names_in (renumbered f p) other)
    names_in_new p = record { constants = refl; bounds = refl; index = same.index; cell = same.cell }

    entered_same : (p : Setting) (n : ℕ) (h : Head) (statements : StmtTrees) (seen : List Seen) (l : Limits) → entered_with (renumbered f p) n h statements (map (seen_in name) seen) l ≡ renumbered_entered (entered_with p n h statements seen l)
    entered_same p n h statements seen l = λ i. record {
      number = f (p.number n);
      head = h;
      first = l.first;
      step = increment p.constants h;
      count = iteration_count l.first l.last (increment p.constants h);
      behind_bounds = behind_in name 1 seen i;
      inner = inner_variables h.parallel statements;
    }

    do_in : (p : Setting) (n : ℕ) (h : Head) (statements : StmtTrees) (body body_other : Frame → Store → Run) → ((seen : List Seen) (l : Limits) (k : ℕ) → IsMoved (body (frame (entered_with p n h statements seen l) k)) (body_other (frame (renumbered_entered (entered_with p n h statements seen l)) k)))
        → IsMoved (run_do p n scope h statements body) (run_do (renumbered f p) n other h statements body_other)
    do_in p n h statements body body_other more s =
        subst (λ (at : Place). IsRenumbered f (on at (limits (names_in (renumbered f p) other) h s) λ seen l. run_from_entry seen (entered_with (renumbered f p) n h statements seen l) other at body_other s) (run_do p n scope h statements body (moved s))) (sym (place_in p n))
        (on_in (place_of p n scope) (λ (l : Limits). l) (limits (names_in p scope) h (moved s)) (limits (names_in (renumbered f p) other) h s)
        (λ seen l. run_from_entry seen (entered_with p n h statements seen l) scope (place_of p n scope) body (moved s))
        (λ seen l. run_from_entry seen (entered_with (renumbered f p) n h statements seen l) other (renumbered_place f (place_of p n scope)) body_other s)
        (limits_in name elements (names_in p scope) (names_in (renumbered f p) other) (names_in_new p) h s)
        (λ seen l. subst (λ (e : Entered). IsRenumbered f (run_from_entry (map (seen_in name) seen) e other (renumbered_place f (place_of p n scope)) body_other s) (run_from_entry seen (entered_with p n h statements seen l) scope (place_of p n scope) body (moved s)))
        (sym (entered_same p n h statements seen l)) (from_entry_in (entered_with p n h statements seen l) (place_of p n scope) body body_other (more seen l) seen s)))

  iterations_in : (ts : List Turn) → iterations_of (map (renumbered_turn f) ts) ≡ map (renumbered_iteration f) (iterations_of ts)
  iterations_in [] = refl
  iterations_in (t ∷ ts) = ap (λ (is : List Iteration). record { statement = f t.statement; number = t.number } ∷ is) (iterations_in ts)

  pub deeper : (fr new : Frame) (scope other : Scope) → new.turn ≡ renumbered_turn f fr.turn → new.variable ≡ fr.variable → new.private ≡ fr.private → AreRenumbered scope other → AreRenumbered (fr ∷ scope) (new ∷ other)
  deeper fr new scope other turn variable private same = record {
    turns = all_turns;
    index = λ x. λ i. if is_same_text x (variable i) then Some (turn i).value else same.index x i;
    cell = λ x. (λ i. if is_among x (private i) then Private x (iterations_of (turns_of (new ∷ other))) else cell_of other x) ∙ go x (is_among x fr.private);
  }
    where
      all_turns : turns_of (new ∷ other) ≡ map (renumbered_turn f) (turns_of (fr ∷ scope))
      all_turns = (λ i. same.turns i ++ turn i ∷ []) ∙ sym (map-append (renumbered_turn f) (turns_of scope) (fr.turn ∷ []))

      go : (x : List ℕ) (b : Bool) → (if b then Private x (iterations_of (turns_of (new ∷ other))) else cell_of other x) ≡ name (if b then Private x (iterations_of (turns_of (fr ∷ scope))) else cell_of scope x)
      go x true = ap (Private x) (ap iterations_of (all_turns) ∙ iterations_in (turns_of (fr ∷ scope)))
      go x false = same.cell x

  mutual
    pub run_in : (p : Setting) (t : StmtTree) (n : ℕ) (scope other : Scope) → AreRenumbered scope other → IsMoved (run p t n scope) (run (renumbered f p) t n other)
    run_in p (Assign left right) n scope other same s =
        subst (λ (at : Place). IsRenumbered f (run_assignment (names_in (renumbered f p) other) at left right s) (run_assignment (names_in p scope) (place_of p n scope) left right (moved s))) (sym (place_in scope other same p n))
        (assignment_in (names_in p scope) (names_in (renumbered f p) other) (names_in_new scope other same p) (place_of p n scope) left right s)
    run_in p (If c a b) n scope other same s =
        subst (λ (at : Place). IsRenumbered f (run_if (names_in (renumbered f p) other) at c (run_all (renumbered f p) a (n + 1) other) (run_all (renumbered f p) b (n + 1 + statements_count a) other) s) (run p (If c a b) n scope (moved s))) (sym (place_in scope other same p n))
        (if_in (names_in p scope) (names_in (renumbered f p) other) (names_in_new scope other same p) (place_of p n scope) c (run_all p a (n + 1) scope) (run_all (renumbered f p) a (n + 1) other)
        (run_all p b (n + 1 + statements_count a) scope) (run_all (renumbered f p) b (n + 1 + statements_count a) other) (all_in p a (n + 1) scope other same) (all_in p b (n + 1 + statements_count a) scope other same) s)
    run_in p (Do h body) n scope other same s =
        do_in scope other same p n h body (λ fr. run_all p body (n + 1) (fr ∷ scope)) (λ fr. run_all (renumbered f p) body (n + 1) (fr ∷ other))
        (λ seen l k. all_in p body (n + 1) (frame (entered_with p n h body seen l) k ∷ scope) (frame (renumbered_entered (entered_with p n h body seen l)) k ∷ other)
        (deeper (frame (entered_with p n h body seen l) k) (frame (renumbered_entered (entered_with p n h body seen l)) k) scope other refl refl refl same)) s
    run_in p (Print items) n scope other same s =
        subst (λ (at : Place). IsRenumbered f (run_print (names_in (renumbered f p) other) at items s) (run_print (names_in p scope) (place_of p n scope) items (moved s))) (sym (place_in scope other same p n))
        (print_in (names_in p scope) (names_in (renumbered f p) other) (names_in_new scope other same p) (place_of p n scope) items s)
    run_in p (Read items) n scope other same s =
        subst (λ (at : Place). IsRenumbered f (run_read (names_in (renumbered f p) other) at items s) (run_read (names_in p scope) (place_of p n scope) items (moved s))) (sym (place_in scope other same p n))
        (read_in (names_in p scope) (names_in (renumbered f p) other) (names_in_new scope other same p) (place_of p n scope) items s)
    run_in p Stop n scope other same s =
        subst (λ (at : Place). IsRenumbered f (run_stop at s) (run_stop (place_of p n scope) (moved s))) (sym (place_in scope other same p n))
        (does_in did (place_of p n scope) [] (λ u. record { acts = []; ending = stopped u }) (λ u. record { acts = []; ending = stopped u }) stop_in s)
    run_in p (Comment text) n scope other same s = nothing_in s

    -- statements under new numbers do under these what they do under the old ones
    pub all_in : (p : Setting) (ts : StmtTrees) (n : ℕ) (scope other : Scope) → AreRenumbered scope other → IsMoved (run_all p ts n scope) (run_all (renumbered f p) ts n other)
    all_in p no_stmts n scope other same = nothing_in
    all_in p (more_stmts t rest) n scope other same =
        then_in (run p t n scope) (run (renumbered f p) t n other) (run_all p rest (n + statement_count t) scope) (run_all (renumbered f p) rest (n + statement_count t) other) (run_in p t n scope other same) (all_in p rest (n + statement_count t) scope other same)

  pub outside_all : AreRenumbered [] []
  outside_all = record { turns = refl; index = λ x. refl; cell = λ x. refl }
