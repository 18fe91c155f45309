-- Runs on renamed cells.
use Rattle.std.proofs.Common.{◌≡◌, ℕ, zero, suc, ◌+◌, ℤ, List, [], ◌∷◌, ◌++◌, map, Bool, true, false, Option, Some, None, Result, Ok, Err, refl, sym, ap, ◌∙◌, arith, if◌then◌else◌}
use Rattle.std.specs.Prelude.{◌==◌}
use Rattle.std.proofs.lemmas.List.{map-append}
use Rattle.ped_base.specs.Lists.{is_same_text, is_among}
use Rattle.ped_tree.specs.Tree.{ExprTree, CondTree, ItemTree, Head, StmtTree, StmtTrees, Assign, If, Do, Print, Read, Stop, Comment, no_stmts, more_stmts}
use Rattle.ped_tree.specs.Numbering.{statement_count, statements_count}
use Rattle.ped_weaves.specs.ped_store.specs.Cells.{Cell, Private, In, same_cell}
use Rattle.ped_weaves.specs.ped_store.specs.Stores.{Lines, Store, lines_in}
use Rattle.ped_weaves.specs.ped_store.specs.Acts.{Touch, Turn, Place, Step, did, entered, ended_turn, closed, faulted, Act, store_behind, iterations_of}
use Rattle.ped_weaves.specs.ped_store.specs.DataLines.{begun}
use Rattle.ped_weaves.specs.ped_eval.specs.Scopes.{Setting, Frame, Scope, turns_of, cell_of, Names, names_in, place_of}
use Rattle.ped_weaves.specs.ped_eval.specs.Evaluation.{Seen, Evaluated, numbered}
use Rattle.ped_weaves.specs.ped_eval.specs.Values.{truth}
use Rattle.ped_weaves.specs.ped_eval.specs.Statements.{assigned, assignment_touches, printed_line, print_touches, read_touch, write_touch, Taking, taking_from, reading, reading_touches}
use Rattle.ped_weaves.specs.ped_eval.specs.Loops.{Limits, limits, increment, iteration_count, inner_variables, Entered, entered_with, frame, undefined_by, undefined_all, left_in_variable, exit_touches, exit_when_none, entry_touches}
use Rattle.ped_weaves.specs.ped_eval.specs.Runs.{Ending, going, stopped, failed, Run, nothing_done, followed_by, then_run, does, fails, on, run_assignment, run_print, run_taking, run_read, run_stop, run_if, turns, parallel_turns, run_entered, run_from_entry, run_do, run, run_all}
use Rattle.ped_steps.specs.Runs.Exchanging.{IsExchange, AreExchanged, exchanged_store, exchanged_touch, exchanged_act, exchanged_acts, exchanged_ending, exchanged_run}
use Rattle.ped_steps.proofs.RunLaws.Swapped.{length_behind, length_path}
use Rattle.ped_steps.proofs.RunLaws.ExchangedTouches.{told_apart, taken_in, assignment_touches_in, print_touches_in, left_in, taking_from_in, undefined_by_in, undefined_all_in}
use Rattle.ped_steps.proofs.RunLaws.ExchangedSight.{seen_in, seeing, AreNames, names_exchanged, numbered_in, behind_in, stored_in, truth_in, assigned_in, line_in, limits_in}

module _ (name : Cell → Cell) (ex : IsExchange name) where
  abbrev moved : Store → Store
  moved = exchanged_store name

  back : (s : Store) → moved (moved s) ≡ s
  back s = λ i c. s (ex.twice c i)

  same_test : (c d : Cell) → same_cell (name c) (name d) ≡ same_cell c d
  same_test = told_apart name name ex.twice

  -- the second piece does on renamed cells what the first does
  abbrev pub IsMoved : (Store → Run) → (Store → Run) → Type 0
  IsMoved f g = (s : Store) → g s ≡ exchanged_run name (f (moved s))

  nothing_in : IsMoved nothing_done nothing_done
  nothing_in s = λ i. record { acts = []; ending = going (sym (back s) i) }

  stop_in : IsMoved (λ u. record { acts = []; ending = stopped u }) (λ u. record { acts = []; ending = stopped u })
  stop_in s = λ i. record { acts = []; ending = stopped (sym (back s) i) }

  followed_in : (acts : List Act) (e : Ending) (f g : Store → Run) → IsMoved f g → followed_by (exchanged_acts name acts) (exchanged_ending name e) g ≡ exchanged_run name (followed_by acts e f)
  followed_in acts (going u) f g h =
      ap (λ (r : Run). record { acts = exchanged_acts name acts ++ r.acts; ending = r.ending }) (h (moved u) ∙ ap (λ (v : Store). exchanged_run name (f v)) (back u))
      ∙ (λ i. record { acts = sym (map-append (exchanged_act name) acts (f u).acts) i; ending = exchanged_ending name (f u).ending })
  followed_in acts (stopped u) f g h = refl
  followed_in acts (failed fault statement) f g h = refl

  then_in : (f f_other g g_other : Store → Run) → IsMoved f f_other → IsMoved g g_other → IsMoved (λ s. then_run (f s) g) (λ s. then_run (f_other s) g_other)
  then_in f f_other g g_other h k s = ap (λ (r : Run). then_run r g_other) (h s) ∙ followed_in (f (moved s)).acts (f (moved s)).ending g g_other k

  does_in : (step : Step) (at : Place) (ts : List Touch) (f g : Store → Run) → IsMoved f g → (s : Store) → does step at (map (exchanged_touch name) ts) g s ≡ exchanged_run name (does step at ts f (moved s))
  does_in step at ts f g h s =
      ap (λ (r : Run). record { acts = record { step = step; place = at; touches = map (exchanged_touch name) ts } ∷ r.acts; ending = r.ending })
      (h (store_behind (map (exchanged_touch name) ts) s) ∙ ap (λ (v : Store). exchanged_run name (f v)) (left_in name same_test ts s))

  on_in : {A X : Type 0} (at : Place) (k : A → X) (e : Evaluated A) (e_other : Evaluated X) (next : List Seen → A → Run) (other : List Seen → X → Run)
      → e_other ≡ seeing name k e → ((seen : List Seen) (x : A) → other (map (seen_in name) seen) (k x) ≡ exchanged_run name (next seen x)) → on at e_other other ≡ exchanged_run name (on at e next)
  on_in {A} {X} at k e e_other next other same more = ap (λ (z : Evaluated X). on at z other) same ∙ go e.seen e.result
    where
      go : (seen : List Seen) (r : Result A ℕ) → on at (seeing name k (record { seen = seen; result = r })) other ≡ exchanged_run name (on at (record { seen = seen; result = r }) next)
      go seen (Ok x) = more seen x
      go seen (Err fault) = λ i. record { acts = record { step = faulted; place = at; touches = numbered_in name 1 seen i } ∷ []; ending = failed fault at.statement }

  chosen_in : (b : Bool) (f f_other g g_other : Store → Run) → IsMoved f f_other → IsMoved g g_other → IsMoved (if b then f else g) (if b then f_other else g_other)
  chosen_in true f f_other g g_other h k = h
  chosen_in false f f_other g g_other h k = k

  -- statements by themselves, where scalars stand for renamed cells
  module _ (g other : Names) (same : AreNames name g other) (at : Place) where
    assignment_in : (left right : ExprTree) → IsMoved (run_assignment g at left right) (run_assignment other at left right)
    assignment_in left right s =
        on_in at (stored_in name) (assigned g left right (moved s)) (assigned other left right s)
        (λ seen w. does did at (assignment_touches seen w) nothing_done (moved s)) (λ seen w. does did at (assignment_touches seen w) nothing_done s)
        (assigned_in name ex.element g other same left right s)
        (λ seen w. ap (λ (ts : List Touch). does did at ts nothing_done s) (assignment_touches_in name seen w) ∙ does_in did at (assignment_touches seen w) nothing_done nothing_done nothing_in s)

    print_in : (items : List ItemTree) → IsMoved (run_print g at items) (run_print other at items)
    print_in items s =
        on_in at (λ (line : List ℕ). line) (printed_line g items (moved s)) (printed_line other items s)
        (λ seen line. does did at (print_touches seen line (moved s)) nothing_done (moved s)) (λ seen line. does did at (print_touches seen line s) nothing_done s)
        (line_in name ex.element g other same items s)
        (λ seen line. ap (λ (ts : List Touch). does did at ts nothing_done s) (print_touches_in name ex.output seen line s) ∙ does_in did at (print_touches seen line (moved s)) nothing_done nothing_done nothing_in s)

    reading_in : (items : List ExprTree) (s : Store) → reading other items s ≡ taken_in name (reading g items (moved s))
    reading_in items s = taking_from_in name same_test ex.element g other same items (begun (lines_in (s In))) s ∙ ap (λ (c : Cell). taken_in name (taking_from g items (begun (lines_in (s c))) (moved s))) (sym ex.input)

    reading_touches_in : (t : Taking) (s : Store) → reading_touches (taken_in name t) s ≡ map (exchanged_touch name) (reading_touches t (moved s))
    reading_touches_in t s = λ i. read_touch (sym ex.input i) (s (sym ex.input i)) 0 ∷ (write_touch (sym ex.input i) (Lines t.left.lines) 1 ∷ map (exchanged_touch name) t.touches)

    read_in : (items : List ExprTree) → IsMoved (run_read g at items) (run_read other at items)
    read_in items s = ap (λ (t : Taking). run_taking at t t.fault s) (reading_in items s) ∙ go (reading g items (moved s)) (reading g items (moved s)).fault
      where
        go : (t : Taking) (fault : Option ℕ) → run_taking at (taken_in name t) fault s ≡ exchanged_run name (run_taking at t fault (moved s))
        go t None = ap (λ (ts : List Touch). does did at ts nothing_done s) (reading_touches_in t s) ∙ does_in did at (reading_touches t (moved s)) nothing_done nothing_done nothing_in s
        go t (Some n) = λ i. fails at (reading_touches_in t s i) n

    if_in : (c : CondTree) (f f_other h h_other : Store → Run) → IsMoved f f_other → IsMoved h h_other → IsMoved (run_if g at c f h) (run_if other at c f_other h_other)
    if_in c f f_other h h_other p q s =
        on_in at (λ (holds : Bool). holds) (truth g c (moved s)) (truth other c s)
        (λ seen holds. does did at (numbered 1 seen) (if holds then f else h) (moved s)) (λ seen holds. does did at (numbered 1 seen) (if holds then f_other else h_other) s)
        (truth_in name ex.element g other same c s)
        (λ seen holds. ap (λ (ts : List Touch). does did at ts (if holds then f_other else h_other) s) (numbered_in name 1 seen)
        ∙ does_in did at (numbered 1 seen) (if holds then f else h) (if holds then f_other else h_other) (chosen_in holds f f_other h h_other p q) s)

  -- loops
  module _ (scope other : Scope) (same : AreExchanged name scope other) where
    exit_in : (e : Entered) → exit_touches e other ≡ map (exchanged_touch name) (exit_touches e scope)
    exit_in e =
        (λ i. write_touch (same.cell e.head.variable i) (left_in_variable e) 0 ∷ (undefined_by_in name scope other same.cell e.behind_bounds e.head.private i ++ undefined_all_in name scope other same.cell e.inner i))
        ∙ ap (λ (ts : List Touch). write_touch (name (cell_of scope e.head.variable)) (left_in_variable e) 0 ∷ ts) (sym (map-append (exchanged_touch name) (undefined_by scope e.behind_bounds e.head.private) (undefined_all scope e.inner)))

    exit_when_in : (n : ℕ) (e : Entered) → exit_when_none n e other ≡ map (exchanged_touch name) (exit_when_none n e scope)
    exit_when_in n e = go (n == 0)
      where
        go : (b : Bool) → (if b then exit_touches e other else []) ≡ map (exchanged_touch name) (if b then exit_touches e scope else [])
        go true = exit_in e
        go false = refl

    entry_in : (seen : List Seen) (e : Entered) → entry_touches (map (seen_in name) seen) e other ≡ map (exchanged_touch name) (entry_touches seen e scope)
    entry_in seen e = (λ i. numbered_in name 1 seen i ++ exit_when_in e.count e i) ∙ sym (map-append (exchanged_touch name) (numbered 1 seen) (exit_when_none e.count e scope))

    module _ (e : Entered) (at : Place) (body body_other : Frame → Store → Run) (more : (f : Frame) → IsMoved (body f) (body_other f)) where
      turns_in : (n k : ℕ) → IsMoved (turns n k e scope at body) (turns n k e other at body_other)
      turns_in zero k = nothing_in
      turns_in (suc n) k =
          then_in (body (frame e k)) (body_other (frame e k)) (does (ended_turn n) at (exit_when_none n e scope) (turns n (k + 1) e scope at body)) (does (ended_turn n) at (exit_when_none n e other) (turns n (k + 1) e other at body_other)) (more (frame e k))
          (λ s. ap (λ (ts : List Touch). does (ended_turn n) at ts (turns n (k + 1) e other at body_other) s) (exit_when_in n e)
          ∙ does_in (ended_turn n) at (exit_when_none n e scope) (turns n (k + 1) e scope at body) (turns n (k + 1) e other at body_other) (turns_in n (k + 1)) s)

      parallel_in : (n k : ℕ) → IsMoved (parallel_turns n k e body) (parallel_turns n k e body_other)
      parallel_in zero k = nothing_in
      parallel_in (suc n) k = then_in (body (frame e k)) (body_other (frame e k)) (parallel_turns n (k + 1) e body) (parallel_turns n (k + 1) e body_other) (more (frame e k)) (parallel_in n (k + 1))

      entered_in : (b : Bool) (count : ℕ) → IsMoved (run_entered b count e scope at body) (run_entered b count e other at body_other)
      entered_in b zero = nothing_in
      entered_in false (suc n) = turns_in (suc n) 1
      entered_in true (suc n) =
          then_in (parallel_turns (suc n) 1 e body) (parallel_turns (suc n) 1 e body_other) (does closed at (exit_touches e scope) nothing_done) (does closed at (exit_touches e other) nothing_done) (parallel_in (suc n) 1)
          (λ s. ap (λ (ts : List Touch). does closed at ts nothing_done s) (exit_in e) ∙ does_in closed at (exit_touches e scope) nothing_done nothing_done nothing_in s)

      from_entry_in : (seen : List Seen) (s : Store) → run_from_entry (map (seen_in name) seen) e other at body_other s ≡ exchanged_run name (run_from_entry seen e scope at body (moved s))
      from_entry_in seen s =
          ap (λ (ts : List Touch). does (entered e.count) at ts (run_entered e.head.parallel e.count e other at body_other) s) (entry_in seen e)
          ∙ does_in (entered e.count) at (entry_touches seen e scope) (run_entered e.head.parallel e.count e scope at body) (run_entered e.head.parallel e.count e other at body_other) (entered_in e.head.parallel e.count) s

    place_in : (p : Setting) (n : ℕ) → place_of p n other ≡ place_of p n scope
    place_in p n = λ i. record { statement = p.number n; turns = same.turns i }

    entered_same : (p : Setting) (n : ℕ) (h : Head) (statements : StmtTrees) (seen : List Seen) (l : Limits) → entered_with p n h statements (map (seen_in name) seen) l ≡ entered_with p n h statements seen l
    entered_same p n h statements seen l = λ i. record {
      number = p.number n;
      head = h;
      first = l.first;
      step = increment p.constants h;
      count = iteration_count l.first l.last (increment p.constants h);
      behind_bounds = behind_in name 1 seen i;
      inner = inner_variables h.parallel statements;
    }

    do_in : (p : Setting) (n : ℕ) (h : Head) (statements : StmtTrees) (body body_other : Frame → Store → Run) → ((f : Frame) → IsMoved (body f) (body_other f)) → IsMoved (run_do p n scope h statements body) (run_do p n other h statements body_other)
    do_in p n h statements body body_other more s =
        (λ i. on (place_in p n i) (limits (names_in p other) h s) λ seen l. run_from_entry seen (entered_with p n h statements seen l) other (place_in p n i) body_other s)
        ∙ on_in (place_of p n scope) (λ (l : Limits). l) (limits (names_in p scope) h (moved s)) (limits (names_in p other) h s)
        (λ seen l. run_from_entry seen (entered_with p n h statements seen l) scope (place_of p n scope) body (moved s))
        (λ seen l. run_from_entry seen (entered_with p n h statements seen l) other (place_of p n scope) body_other s)
        (limits_in name ex.element (names_in p scope) (names_in p other) (names_exchanged name p scope other same) h s)
        (λ seen l. ap (λ (e : Entered). run_from_entry (map (seen_in name) seen) e other (place_of p n scope) body_other s) (entered_same p n h statements seen l)
        ∙ from_entry_in (entered_with p n h statements seen l) (place_of p n scope) body body_other more seen s)

  -- further inside the places are the same but for the renamed cells
  pub deeper : (f : Frame) (scope other : Scope) → AreExchanged name scope other → AreExchanged name (f ∷ scope) (f ∷ other)
  deeper f scope other same = record {
    turns = ap (λ (ts : List Turn). ts ++ f.turn ∷ []) same.turns;
    index = λ x. ap (λ (o : Option ℤ). if is_same_text x f.variable then Some f.turn.value else o) (same.index x);
    cell = λ x. go x (is_among x f.private);
    inside = λ x iterations less. same.inside x iterations (let longer = length_behind (turns_of scope) f.turn in omega (arith, less, longer));
  }
    where
      go : (x : List ℕ) (b : Bool) → (if b then Private x (iterations_of (turns_of (f ∷ other))) else cell_of other x) ≡ name (if b then Private x (iterations_of (turns_of (f ∷ scope))) else cell_of scope x)
      go x true =
          ap (λ (ts : List Turn). Private x (iterations_of (ts ++ f.turn ∷ []))) same.turns
          ∙ sym (same.inside x (iterations_of (turns_of (f ∷ scope))) (let longer = length_behind (turns_of scope) f.turn in let mapped = length_path (turns_of (f ∷ scope)) in omega (arith, longer, mapped)))
      go x false = same.cell x

  mutual
    pub run_in : (p : Setting) (t : StmtTree) (n : ℕ) (scope other : Scope) → AreExchanged name scope other → IsMoved (run p t n scope) (run p t n other)
    run_in p (Assign left right) n scope other same s =
        (λ i. run_assignment (names_in p other) (place_in scope other same p n i) left right s)
        ∙ assignment_in (names_in p scope) (names_in p other) (names_exchanged name p scope other same) (place_of p n scope) left right s
    run_in p (If c a b) n scope other same s =
        (λ i. run_if (names_in p other) (place_in scope other same p n i) c (run_all p a (n + 1) other) (run_all p b (n + 1 + statements_count a) other) s)
        ∙ if_in (names_in p scope) (names_in p other) (names_exchanged name p scope other same) (place_of p n scope) c (run_all p a (n + 1) scope) (run_all p a (n + 1) other)
        (run_all p b (n + 1 + statements_count a) scope) (run_all p b (n + 1 + statements_count a) other) (all_in p a (n + 1) scope other same) (all_in p b (n + 1 + statements_count a) scope other same) s
    run_in p (Do h body) n scope other same s =
        do_in scope other same p n h body (λ f. run_all p body (n + 1) (f ∷ scope)) (λ f. run_all p body (n + 1) (f ∷ other)) (λ f. all_in p body (n + 1) (f ∷ scope) (f ∷ other) (deeper f scope other same)) s
    run_in p (Print items) n scope other same s =
        (λ i. run_print (names_in p other) (place_in scope other same p n i) items s) ∙ print_in (names_in p scope) (names_in p other) (names_exchanged name p scope other same) (place_of p n scope) items s
    run_in p (Read items) n scope other same s =
        (λ i. run_read (names_in p other) (place_in scope other same p n i) items s) ∙ read_in (names_in p scope) (names_in p other) (names_exchanged name p scope other same) (place_of p n scope) items s
    run_in p Stop n scope other same s =
        (λ i. run_stop (place_in scope other same p n i) s)
        ∙ does_in did (place_of p n scope) [] (λ u. record { acts = []; ending = stopped u }) (λ u. record { acts = []; ending = stopped u }) stop_in s
    run_in p (Comment text) n scope other same s = nothing_in s

    -- statements in exchanged places do on renamed cells what they do in the old ones
    pub all_in : (p : Setting) (ts : StmtTrees) (n : ℕ) (scope other : Scope) → AreExchanged name scope other → IsMoved (run_all p ts n scope) (run_all p ts n other)
    all_in p no_stmts n scope other same = nothing_in
    all_in p (more_stmts t rest) n scope other same =
        then_in (run p t n scope) (run p t n other) (run_all p rest (n + statement_count t) scope) (run_all p rest (n + statement_count t) other) (run_in p t n scope other same) (all_in p rest (n + statement_count t) scope other same)
