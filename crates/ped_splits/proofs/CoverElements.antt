-- A run writes numbers of 32 bits alone into elements of arrays.
use Rattle.std.proofs.Common.{◌≡◌, ℕ, zero, suc, ◌+◌, ℤ, List, [], ◌∷◌, ◌++◌, Bool, true, false, ◌==◌, Option, Some, None, Result, Ok, Err, if◌then◌else◌, refl, sym, ◌∙◌, subst}
use Rattle.std.specs.Str.Parse.{signed_digits_value}
use Rattle.ped_base.specs.Lists.{has_some, is_among}
use Rattle.ped_base.specs.Arithmetic.Faults.{◌>>=◌}
use Rattle.ped_tree.specs.Tree.{ExprTree, ItemTree, StmtTree, StmtTrees, Assign, If, Do, Print, Read, Stop, Comment, no_stmts, more_stmts}
use Rattle.ped_tree.specs.Numbering.{statement_count, statements_count}
use Rattle.ped_rules.specs.ped_store.specs.Cells.{Cell, Element, Private, In, same_cell}
use Rattle.ped_rules.specs.ped_store.specs.Stores.{Number, Store, put, lines_in, storable, is_storable, out_of_range, bad_data}
use Rattle.ped_rules.specs.ped_store.specs.DataLines.{Data, Taken, begun, behind_blanks, word_of, behind_value, is_value, number_of, taken_from, value_from, next_value_of}
use Rattle.ped_rules.specs.ped_store.specs.Acts.{Touch, Place, did, ended_turn, closed, Act, store_behind, iterations_of}
use Rattle.ped_rules.specs.ped_laws.specs.Acts.Fitting.{touches_of}
use Rattle.ped_rules.specs.ped_laws.specs.Acts.Sets.{writes_to, written_by}
use Rattle.ped_rules.specs.ped_laws.proofs.ActLaws.Reorderings.{touches_append}
use Rattle.ped_rules.specs.ped_eval.specs.Scopes.{Frame, Scope, Setting, Names, names_in, place_of, cell_of, turns_of}
use Rattle.ped_rules.specs.ped_eval.specs.Evaluation.{Seen, ◌>>>◌, given, numbered, number_behind}
use Rattle.ped_rules.specs.ped_eval.specs.Values.{value, target, truth}
use Rattle.ped_rules.specs.ped_eval.specs.Statements.{write_touch, Stored, assigned, assignment_touches, printed_line, print_touches, into_item, with_taken, taking, taking_from, reading, reading_touches}
use Rattle.ped_rules.specs.ped_eval.specs.Loops.{limits, Entered, entered_with, frame, undefined_by, undefined_all, exit_touches, exit_when_none, entry_touches}
use Rattle.ped_rules.specs.ped_eval.specs.Runs.{Ending, going, stopped, failed, Run, followed_by, on_value, does, nothing_done, run_assignment, run_print, run_taking, run_read, turns, parallel_turns, run_entered, run_from_entry, run, run_all}
use Rattle.ped_rules.specs.ped_flow.proofs.Truths.{untrue, or_none}
use Rattle.ped_rules.specs.ped_laws.proofs.FlowRunLaws.Coverings.{seen_unwritten}
use Rattle.ped_rules.specs.ped_laws.proofs.CoveringLaws.Comings.{came, ok_one}
use Rattle.ped_rules.specs.ped_laws.specs.Plain.Executions.{WriteSmall}
use Rattle.ped_rules.specs.ped_laws.proofs.PlainLaws.SmallWrites.{small_append}

unwritten_small : (c : Cell) (ts : List Touch) → written_by ts c ≡ false → WriteSmall c ts
unwritten_small c [] h = tt
unwritten_small c (t ∷ ts) h = let p = or_none (writes_to t c) (written_by ts c) h in ((λ w. let z : false ≡ true = sym p.0 ∙ w in untrue z), unwritten_small c ts p.1)

storable_by : (b : Bool) (x n : ℤ) → is_storable x ≡ b → (if b then Ok x else Err out_of_range) ≡ Ok n → is_storable n ≡ true
storable_by true x n e h = subst (λ (z : ℤ). is_storable z ≡ true) (ok_one x n h) e
storable_by false x n e h = absurd cc

stored_small_number : (d : Cell) (r : Result ℤ ℕ) (w : Stored) → ((n : ℤ) → r ≡ Ok n → is_storable n ≡ true) → (given r >>> λ n. given (Ok (record { cell = d; number = n }))).result ≡ Ok w → is_storable w.number ≡ true
stored_small_number d (Ok n) w k h = subst (λ (z : Stored). is_storable z.number ≡ true) (ok_one (record { cell = d; number = n }) w h) (k n refl)
stored_small_number d (Err i) w k h = absurd cc

-- what an assignment stores has 32 bits
assigned_small : (g : Names) (left right : ExprTree) (s : Store) (w : Stored) → (assigned g left right s).result ≡ Ok w → is_storable w.number ≡ true
assigned_small g left right s w e =
    let one = came (value g right s).seen (value g right s).result (λ v. target g left s >>> λ d. given (storable v) >>> λ n. given (Ok (record { cell = d; number = n }))) w e in
    let two = came (target g left s).seen (target g left s).result (λ d. given (storable one.0) >>> λ n. given (Ok (record { cell = d; number = n }))) w one.2 in
    stored_small_number two.0 (storable one.0) w (λ n q. storable_by (is_storable one.0) one.0 n refl q) two.2

-- a value of the data has 32 bits
value_by : (b : Bool) (x n : ℤ) → (if b then storable x else Err bad_data) ≡ Ok n → is_storable n ≡ true
value_by true x n h = storable_by (is_storable x) x n refl h
value_by false x n h = absurd cc

taken_by : (text : List ℕ) (lines : List (List ℕ)) (r : Result ℤ ℕ) (t : Taken) → ((n : ℤ) → r ≡ Ok n → is_storable n ≡ true)
    → (r >>= λ n. Ok (record { value = n; behind = record { rest = behind_value text; lines = lines } })) ≡ Ok t → is_storable t.value ≡ true
taken_by text lines (Ok n) t f h = subst (λ (u : Taken). is_storable u.value ≡ true) (ok_one (record { value = n; behind = record { rest = behind_value text; lines = lines } }) t h) (f n refl)
taken_by text lines (Err n) t f h = absurd cc

front_by : (b : Bool) (text : List ℕ) (lines : List (List ℕ)) (other : Result Taken ℕ) (t : Taken) → (other ≡ Ok t → is_storable t.value ≡ true) → (if b then taken_from text lines else other) ≡ Ok t → is_storable t.value ≡ true
front_by true text lines other t f h = taken_by text lines (number_of (word_of text)) t (λ n. value_by (is_value (word_of text)) (signed_digits_value 10 (word_of text)) n) h
front_by false text lines other t f h = f h

value_small : (rest : List ℕ) (lines : List (List ℕ)) (t : Taken) → value_from rest lines ≡ Ok t → is_storable t.value ≡ true
value_small rest [] t h = front_by (has_some (behind_blanks rest)) (behind_blanks rest) [] (Err bad_data) t (λ e. absurd cc) h
value_small rest (line ∷ more) t h = front_by (has_some (behind_blanks rest)) (behind_blanks rest) (line ∷ more) (value_from line more) t (value_small line more t) h

-- no scalar stands for an element
no_element : (S : Scope) (y : List ℕ) (x : List ℕ) (js : List ℤ) → same_cell (cell_of S y) (Element x js) ≡ false
no_element [] y x js = refl
no_element (f ∷ fs) y x js = go (is_among y f.private) (no_element fs y x js)
  where
    go : (b : Bool) → same_cell (cell_of fs y) (Element x js) ≡ false → same_cell (if b then Private y (iterations_of (turns_of (f ∷ fs))) else cell_of fs y) (Element x js) ≡ false
    go true h = refl
    go false h = h

module _ (p : Setting) (x : List ℕ) (js : List ℤ) where
  abbrev c : Cell
  c = Element x js

  abbrev Small : List Touch → Type 0
  Small ts = WriteSmall (Element x js) ts

  seen_small : (k : ℕ) (seen : List Seen) → Small (numbered k seen)
  seen_small k seen = unwritten_small c (numbered k seen) (seen_unwritten x c k seen)

  followed_small : (acts : List Act) (e : Ending) (next : Store → Run) → Small (touches_of acts) → ((u : Store) → Small (touches_of (next u).acts)) → Small (touches_of (followed_by acts e next).acts)
  followed_small acts (going u) next a b = subst (λ (z : List Touch). Small z) (sym (touches_append acts (next u).acts)) (small_append c (touches_of acts) (touches_of (next u).acts) a (b u))
  followed_small acts (stopped u) next a b = a
  followed_small acts (failed f n) next a b = a

  on_small : {A : Type 0} (at : Place) (e : Result A ℕ) (seen : List Seen) (next : List Seen → A → Run) → ((a : A) → e ≡ Ok a → Small (touches_of (next seen a).acts)) → Small (touches_of (on_value at seen e next).acts)
  on_small at (Ok a) seen next rest = rest a refl
  on_small at (Err f) seen next rest = small_append c (numbered 1 seen) [] (seen_small 1 seen) tt

  assign_small : (S : Scope) (at : Place) (left right : ExprTree) (s : Store) → Small (touches_of (run_assignment (names_in p S) at left right s).acts)
  assign_small S at left right s =
      let seen : List Seen = (assigned (names_in p S) left right s).seen in
      on_small at (assigned (names_in p S) left right s).result seen (λ seen w. does did at (assignment_touches seen w) nothing_done s)
      (λ w e. small_append c (assignment_touches seen w) []
      (small_append c (numbered 1 seen) (write_touch w.cell (Number w.number) (number_behind 1 seen) ∷ []) (seen_small 1 seen) ((λ h. assigned_small (names_in p S) left right s w e), tt))
      tt)

  print_small : (S : Scope) (at : Place) (items : List ItemTree) (s : Store) → Small (touches_of (run_print (names_in p S) at items s).acts)
  print_small S at items s =
      let seen : List Seen = (printed_line (names_in p S) items s).seen in
      on_small at (printed_line (names_in p S) items s).result seen (λ seen line. does did at (print_touches seen line s) nothing_done s)
      (λ line e. small_append c (print_touches seen line s) [] (small_append c (numbered 1 seen) _ (seen_small 1 seen) ((λ h. untrue h), ((λ h. refl), tt))) tt)

  -- the items of a READ
  module _ (S : Scope) (k : ℕ) (item : ExprTree) (items : List ExprTree) (s : Store) (rest : (m : ℕ) (d : Data) (u : Store) → Small (taking (names_in p S) items m d u).touches) where
    stored_small : (v : ℤ) (left : Data) (seen : List Seen) (r : Result Cell ℕ) → is_storable v ≡ true → Small (into_item k left v seen r (λ m e. taking (names_in p S) items m left (put e (Number v) s))).touches
    stored_small v left seen (Ok e) small =
        small_append c (numbered k seen ++ write_touch e (Number v) (number_behind k seen) ∷ []) _ (small_append c (numbered k seen) (write_touch e (Number v) (number_behind k seen) ∷ []) (seen_small k seen) ((λ h. small), tt))
        (rest (suc (number_behind k seen)) left (put e (Number v) s))
    stored_small v left seen (Err i) small = seen_small k seen

    taken_small : (d : Data) (r : Result Taken ℕ) → ((t : Taken) → r ≡ Ok t → is_storable t.value ≡ true)
        → Small (with_taken d r (λ v left. into_item k left v (target (names_in p S) item s).seen (target (names_in p S) item s).result (λ m e. taking (names_in p S) items m left (put e (Number v) s)))).touches
    taken_small d (Ok t) small = stored_small t.value t.behind (target (names_in p S) item s).seen (target (names_in p S) item s).result (small t refl)
    taken_small d (Err i) small = tt

  items_small : (S : Scope) (items : List ExprTree) (k : ℕ) (d : Data) (s : Store) → Small (taking (names_in p S) items k d s).touches
  items_small S [] k d s = tt
  items_small S (item ∷ items) k d s = taken_small S k item items s (λ m e u. items_small S items m e u) d (next_value_of d) (value_small d.rest d.lines)

  taking_small : (S : Scope) (items : List ExprTree) (r : Result Data ℕ) (s : Store) → Small (taking_from (names_in p S) items r s).touches
  taking_small S items (Ok d) s = items_small S items 2 d s
  taking_small S items (Err i) s = tt

  read_small : (S : Scope) (at : Place) (items : List ExprTree) (s : Store) → Small (touches_of (run_read (names_in p S) at items s).acts)
  read_small S at items s = go (reading (names_in p S) items s).fault
    where
      all : Small (reading_touches (reading (names_in p S) items s) s)
      all = ((λ h. untrue h), ((λ h. refl), taking_small S items (begun (lines_in (s In))) s))

      go : (o : Option ℕ) → Small (touches_of (run_taking at (reading (names_in p S) items s) o s).acts)
      go None = small_append c (reading_touches (reading (names_in p S) items s) s) [] all tt
      go (Some i) = small_append c (reading_touches (reading (names_in p S) items s) s) [] all tt

  -- a DO of another variable
  undefined_small : (S : Scope) (n : ℕ) (ys : List (List ℕ)) → Small (undefined_by S n ys)
  undefined_small S n [] = tt
  undefined_small S n (y ∷ ys) = ((λ h. refl), undefined_small S (suc n) ys)

  undefined_all_small : (S : Scope) (ys : List (List ℕ)) → Small (undefined_all S ys)
  undefined_all_small S [] = tt
  undefined_all_small S (y ∷ ys) = ((λ h. refl), undefined_all_small S ys)

  module _ (S : Scope) (at : Place) (e : Entered) (body : Frame → Store → Run) (of_body : (f : Frame) (u : Store) → Small (touches_of (body f u).acts)) where
    not_here : {A : Type 0} → same_cell (cell_of S e.head.variable) c ≡ true → A
    not_here h = let z : false ≡ true = sym (no_element S e.head.variable x js) ∙ h in untrue z

    exit_small : Small (exit_touches e S)
    exit_small = (not_here, small_append c (undefined_by S e.behind_bounds e.head.private) (undefined_all S e.inner) (undefined_small S e.behind_bounds e.head.private) (undefined_all_small S e.inner))

    maybe_exit_small : (m : ℕ) → Small (exit_when_none m e S)
    maybe_exit_small m = by (m == 0)
      where
        by : (z : Bool) → Small (if z then exit_touches e S else [])
        by true = exit_small
        by false = tt

    turns_small : (m k : ℕ) (s : Store) → Small (touches_of (turns m k e S at body s).acts)
    turns_small zero k s = tt
    turns_small (suc m) k s = followed_small (body (frame e k) s).acts (body (frame e k) s).ending (does (ended_turn m) at (exit_when_none m e S) (turns m (k + 1) e S at body)) (of_body (frame e k) s)
        (λ u. small_append c (exit_when_none m e S) _ (maybe_exit_small m) (turns_small m (k + 1) (store_behind (exit_when_none m e S) u)))

    parallel_small : (m k : ℕ) (s : Store) → Small (touches_of (parallel_turns m k e body s).acts)
    parallel_small zero k s = tt
    parallel_small (suc m) k s = followed_small (body (frame e k) s).acts (body (frame e k) s).ending (parallel_turns m (k + 1) e body) (of_body (frame e k) s) (λ u. parallel_small m (k + 1) u)

    entered_small : (parallel : Bool) (m : ℕ) (s : Store) → Small (touches_of (run_entered parallel m e S at body s).acts)
    entered_small true zero s = tt
    entered_small false zero s = tt
    entered_small false (suc m) s = turns_small (suc m) 1 s
    entered_small true (suc m) s = followed_small (parallel_turns (suc m) 1 e body s).acts (parallel_turns (suc m) 1 e body s).ending (does closed at (exit_touches e S) nothing_done) (parallel_small (suc m) 1 s)
        (λ u. small_append c (exit_touches e S) [] exit_small tt)

    from_entry_small : (seen : List Seen) (s : Store) → Small (touches_of (run_from_entry seen e S at body s).acts)
    from_entry_small seen s = small_append c (entry_touches seen e S) _ (small_append c (numbered 1 seen) (exit_when_none e.count e S) (seen_small 1 seen) (maybe_exit_small e.count)) (entered_small e.head.parallel e.count (store_behind (entry_touches seen e S) s))

  part_small : (holds : Bool) (run_a run_b : Store → Run) (u : Store) → Small (touches_of (run_a u).acts) → Small (touches_of (run_b u).acts) → Small (touches_of ((if holds then run_a else run_b) u).acts)
  part_small true run_a run_b u a b = a
  part_small false run_a run_b u a b = b

  mutual
    pub element_small : (t : StmtTree) (n : ℕ) (S : Scope) (s : Store) → Small (touches_of (run p t n S s).acts)
    element_small (Assign left right) n S s = assign_small S (place_of p n S) left right s
    element_small (If condition a b) n S s =
        let seen : List Seen = (truth (names_in p S) condition s).seen in
        on_small (place_of p n S) (truth (names_in p S) condition s).result seen
        (λ seen holds. does did (place_of p n S) (numbered 1 seen) (if holds then run_all p a (n + 1) S else run_all p b (n + 1 + statements_count a) S) s)
        (λ holds e. small_append c (numbered 1 seen) _ (seen_small 1 seen)
        (part_small holds (run_all p a (n + 1) S) (run_all p b (n + 1 + statements_count a) S) (store_behind (numbered 1 seen) s) (elements_small a (n + 1) S _) (elements_small b (n + 1 + statements_count a) S _)))
    element_small (Do h b) n S s =
        on_small (place_of p n S) (limits (names_in p S) h s).result (limits (names_in p S) h s).seen (λ seen l. run_from_entry seen (entered_with p n h b seen l) S (place_of p n S) (λ f. run_all p b (n + 1) (f ∷ S)) s)
        (λ l e. from_entry_small S (place_of p n S) (entered_with p n h b (limits (names_in p S) h s).seen l) (λ f. run_all p b (n + 1) (f ∷ S)) (λ f u. elements_small b (n + 1) (f ∷ S) u) (limits (names_in p S) h s).seen s)
    element_small (Print items) n S s = print_small S (place_of p n S) items s
    element_small (Read items) n S s = read_small S (place_of p n S) items s
    element_small Stop n S s = tt
    element_small (Comment text) n S s = tt

    pub elements_small : (ts : StmtTrees) (n : ℕ) (S : Scope) (s : Store) → Small (touches_of (run_all p ts n S s).acts)
    elements_small no_stmts n S s = tt
    elements_small (more_stmts t rest) n S s =
        followed_small (run p t n S s).acts (run p t n S s).ending (run_all p rest (n + statement_count t) S) (element_small t n S s) (λ u. elements_small rest (n + statement_count t) S u)
