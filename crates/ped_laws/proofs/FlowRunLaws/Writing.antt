-- Which scalars statements write.
use Rattle.std.proofs.Common.{◌≡◌, ℕ, zero, suc, ◌+◌, ℤ, List, [], ◌∷◌, ◌++◌, Bool, true, false, ◌||◌, ◌==◌, Option, Some, None, Result, Ok, Err, if◌then◌else◌, refl, sym, ap, ◌∙◌, ◌⊎◌, inl, inr}
use Rattle.std.specs.List.{flat_map}
use Rattle.std.proofs.lemmas.List.Folds.{list_any-append}
use Rattle.std.proofs.lemmas.Bool.{or_left, or_right}
use Rattle.ped_flow.specs.ped_base.specs.Lists.{is_same_text, is_among}
use Rattle.ped_flow.specs.ped_tree.specs.Tree.{ExprTree, Int, Var, Element, Neg, Add, Sub, Mul, Div, Pow, Call, ItemTree, Head, StmtTree, StmtTrees, Assign, If, Do, Print, Read, Stop, Comment, no_stmts, more_stmts}
use Rattle.ped_flow.specs.ped_tree.specs.Numbering.{statement_count, statements_count}
use Rattle.ped_flow.specs.ped_affine.specs.Assigned.{assigned_left, assigned_in, assigned_in_all}
use Rattle.ped_flow.specs.ped_tree.specs.NamesIn.{loop_variables, all_loop_variables}
use Rattle.ped_eval.specs.ped_store.specs.Cells.{Cell, In, same_cell}
use Rattle.ped_eval.specs.ped_store.specs.Stores.{Store, Number, put, lines_in}
use Rattle.ped_eval.specs.ped_store.specs.DataLines.{Data, Taken, begun, next_value_of}
use Rattle.ped_eval.specs.ped_store.specs.Acts.{Touch, Place, did, ended_turn, closed, Act, store_behind}
use Rattle.ped_laws.specs.Acts.Fitting.{touches_of}
use Rattle.ped_laws.specs.Acts.Sets.{written_by}
use Rattle.ped_eval.specs.Scopes.{Frame, Scope, Setting, names_in, place_of, cell_of}
use Rattle.ped_eval.specs.Evaluation.{Seen, onward, given, numbered, number_behind}
use Rattle.ped_eval.specs.Values.{values, target, truth, element_cell}
use Rattle.ped_eval.specs.Statements.{assigned, assignment_touches, write_touch, printed_line, print_touches, into_item, with_taken, taking, taking_from, reading, reading_touches}
use Rattle.ped_eval.specs.Loops.{limits, Entered, entered_with, inner_variables, frame, undefined_by, undefined_all, exit_touches, exit_when_none, entry_touches}
use Rattle.ped_eval.specs.Runs.{Ending, going, stopped, failed, Run, followed_by, on_value, does, nothing_done, run_assignment, run_print, run_taking, run_read, turns, parallel_turns, run_entered, run_from_entry, run, run_all}
use Rattle.ped_flow.proofs.Truths.{untrue, or_split}
use Rattle.ped_laws.proofs.ActLaws.Reorderings.{touches_append}
use Rattle.ped_laws.specs.FlowRuns.Covering.{is_cell_of}
use Rattle.ped_flow.specs.ped_base.proofs.NameEquality.{same_itself}
use Rattle.ped_laws.proofs.FlowRunLaws.Cells.{stands_for}
use Rattle.ped_laws.proofs.FlowRunLaws.Seeing.{among_left, among_right, element_other}
use Rattle.ped_laws.proofs.FlowRunLaws.Coverings.{written_parts, seen_unwritten, not_so}
use Rattle.ped_laws.proofs.FlowRunLaws.Names.{inner_among}
use Rattle.ped_laws.proofs.FlowRunLaws.Leaves.{not_line, assigned_target}

parts : (xs ys : List Touch) (c : Cell) → written_by (xs ++ ys) c ≡ true → (written_by xs c ≡ true) ⊎ (written_by ys c ≡ true)
parts xs ys c h = or_split (written_by xs c) (written_by ys c) (sym (written_parts xs ys c) ∙ h)

only : (b : Bool) → (b || false) ≡ true → b ≡ true
only true h = refl
only false h = h

-- the variables of DO loops are assigned
mutual
  loops_assigned : (x : List ℕ) (t : StmtTree) → is_among x (loop_variables t) ≡ true → is_among x (assigned_in t) ≡ true
  loops_assigned x (Assign left right) h = untrue h
  loops_assigned x (If condition a b) h = elim (or_split (is_among x (all_loop_variables a)) (is_among x (all_loop_variables b)) (sym (list_any-append (is_same_text x) (all_loop_variables a) (all_loop_variables b)) ∙ h)) [
    | inl k ↦ among_left x (assigned_in_all a) (assigned_in_all b) (all_loops_assigned x a k)
    | inr k ↦ among_right x (assigned_in_all a) (assigned_in_all b) (all_loops_assigned x b k)
  ]
  loops_assigned x (Do h b) g = elim (or_split (is_same_text x h.variable) (is_among x (all_loop_variables b)) g) [
    | inl k ↦ or_left (is_same_text x h.variable) _ k
    | inr k ↦ or_right (is_same_text x h.variable) _ (among_right x h.private (assigned_in_all b) (all_loops_assigned x b k))
  ]
  loops_assigned x (Print items) h = untrue h
  loops_assigned x (Read items) h = untrue h
  loops_assigned x Stop h = untrue h
  loops_assigned x (Comment text) h = untrue h

  all_loops_assigned : (x : List ℕ) (ts : StmtTrees) → is_among x (all_loop_variables ts) ≡ true → is_among x (assigned_in_all ts) ≡ true
  all_loops_assigned x no_stmts h = untrue h
  all_loops_assigned x (more_stmts t rest) h = elim (or_split (is_among x (loop_variables t)) (is_among x (all_loop_variables rest)) (sym (list_any-append (is_same_text x) (loop_variables t) (all_loop_variables rest)) ∙ h)) [
    | inl k ↦ among_left x (assigned_in t) (assigned_in_all rest) (loops_assigned x t k)
    | inr k ↦ among_right x (assigned_in t) (assigned_in_all rest) (all_loops_assigned x rest k)
  ]

module _ (p : Setting) (x : List ℕ) (c : Cell) (named : is_cell_of x c ≡ true) where
  then_written : (acts : List Act) (e : Ending) (next : Store → Run) → written_by (touches_of (followed_by acts e next).acts) c ≡ true → (written_by (touches_of acts) c ≡ true) ⊎ ((u : Store) × (written_by (touches_of (next u).acts) c ≡ true))
  then_written acts (going u) next h = elim (parts (touches_of acts) (touches_of (next u).acts) c (sym (ap (λ z. written_by z c) (touches_append acts (next u).acts)) ∙ h)) [ inl k ↦ inl k | inr k ↦ inr (u, k) ]
  then_written acts (stopped u) next h = inl h
  then_written acts (failed f n) next h = inl h

  seen_apart : {A : Type 0} (k : ℕ) (seen : List Seen) → written_by (numbered k seen) c ≡ true → A
  seen_apart k seen h = let z : false ≡ true = sym (seen_unwritten x c k seen) ∙ h in untrue z

  named_is : (S : Scope) (y : List ℕ) → same_cell (cell_of S y) c ≡ true → is_same_text x y ≡ true
  named_is S y h = ap (is_same_text x) (stands_for S x y c named h) ∙ same_itself x

  -- a left side
  left_written : (S : Scope) (s : Store) (left : ExprTree) (d : Cell) → (target (names_in p S) left s).result ≡ Ok d → same_cell d c ≡ true → is_among x (assigned_left left) ≡ true
  left_written S s (Var y) d h k =
      let e : cell_of S y ≡ d = cc in
      or_left (is_same_text x y) false (named_is S y (ap (λ (z : Cell). same_cell z c) e ∙ k))
  left_written S s (Element y es) d h k = element_by (values (names_in p S) es s).seen (values (names_in p S) es s).result h
    where
      element_by : (seen : List Seen) (r : Result (List ℤ) ℕ) → (onward seen r (λ js. given (element_cell (names_in p S) y js))).result ≡ Ok d → (is_same_text x y || false) ≡ true
      element_by seen (Ok js) e = let z : false ≡ true = sym (element_other p S [] x c named refl s y js d e) ∙ k in untrue z
      element_by seen (Err i) e = absurd cc
  left_written S s (Int m) d h k = absurd cc
  left_written S s (Neg a) d h k = absurd cc
  left_written S s (Add a b) d h k = absurd cc
  left_written S s (Sub a b) d h k = absurd cc
  left_written S s (Mul a b) d h k = absurd cc
  left_written S s (Div a b) d h k = absurd cc
  left_written S s (Pow a b) d h k = absurd cc
  left_written S s (Call f es) d h k = absurd cc

  -- an evaluation, and what a statement does with its value
  on_written : {A B : Type 0} (at : Place) (e : Result A ℕ) (seen : List Seen) (next : List Seen → A → Run) → ((a : A) → e ≡ Ok a → written_by (touches_of (next seen a).acts) c ≡ true → B) → written_by (touches_of (on_value at seen e next).acts) c ≡ true → B
  on_written at (Ok a) seen next rest h = rest a refl h
  on_written at (Err f) seen next rest h = elim (parts (numbered 1 seen) [] c h) [ inl k ↦ seen_apart 1 seen k | inr k ↦ untrue k ]

  write_one : {B : Type 0} (k : ℕ) (seen : List Seen) (d : Cell) (v : ℤ) (m : ℕ) → (same_cell d c ≡ true → B) → written_by (numbered k seen ++ write_touch d (Number v) m ∷ []) c ≡ true → B
  write_one k seen d v m next h = elim (parts (numbered k seen) (write_touch d (Number v) m ∷ []) c h) [ inl g ↦ seen_apart k seen g | inr g ↦ next (only (same_cell d c) g) ]

  assign_written : (S : Scope) (at : Place) (left right : ExprTree) (s : Store) → written_by (touches_of (run_assignment (names_in p S) at left right s).acts) c ≡ true → is_among x (assigned_left left) ≡ true
  assign_written S at left right s h =
      on_written at (assigned (names_in p S) left right s).result (assigned (names_in p S) left right s).seen (λ seen w. does did at (assignment_touches seen w) nothing_done s)
      (λ w e g. elim (parts (assignment_touches (assigned (names_in p S) left right s).seen w) [] c g) [
        | inl i ↦ write_one 1 (assigned (names_in p S) left right s).seen w.cell w.number (number_behind 1 (assigned (names_in p S) left right s).seen) (left_written S s left w.cell (assigned_target (names_in p S) left right s w e)) i
        | inr i ↦ untrue i
      ]) h

  print_unwritten : {B : Type 0} (S : Scope) (at : Place) (items : List ItemTree) (s : Store) → written_by (touches_of (run_print (names_in p S) at items s).acts) c ≡ true → B
  print_unwritten S at items s h =
      on_written at (printed_line (names_in p S) items s).result (printed_line (names_in p S) items s).seen (λ seen line. does did at (print_touches seen line s) nothing_done s)
      (λ line e g. elim (parts (print_touches (printed_line (names_in p S) items s).seen line s) [] c g) [
        | inl i ↦ elim (parts (numbered 1 (printed_line (names_in p S) items s).seen) _ c i) [
          | inl j ↦ seen_apart 1 (printed_line (names_in p S) items s).seen j
          | inr j ↦ (let z : false ≡ true = sym (ap (λ (b : Bool). b || false) (not_line x c named).1) ∙ j in untrue z)
        ]
        | inr i ↦ untrue i
      ]) h

  -- the items of a READ
  module _ (S : Scope) (k : ℕ) (item : ExprTree) (items : List ExprTree) (s : Store)
      (rest : (m : ℕ) (d : Data) (u : Store) → written_by (taking (names_in p S) items m d u).touches c ≡ true → is_among x (flat_map assigned_left items) ≡ true) where
    stored_written : (v : ℤ) (left : Data) (seen : List Seen) (r : Result Cell ℕ) → ((e : Cell) → r ≡ Ok e → (target (names_in p S) item s).result ≡ Ok e)
        → written_by (into_item k left v seen r (λ m e. taking (names_in p S) items m left (put e (Number v) s))).touches c ≡ true → is_among x (assigned_left item ++ flat_map assigned_left items) ≡ true
    stored_written v left seen (Ok e) at_cell h = elim (parts (numbered k seen ++ write_touch e (Number v) (number_behind k seen) ∷ []) _ c h) [
      | inl g ↦ among_left x (assigned_left item) (flat_map assigned_left items) (write_one k seen e v (number_behind k seen) (left_written S s item e (at_cell e refl)) g)
      | inr g ↦ among_right x (assigned_left item) (flat_map assigned_left items) (rest (suc (number_behind k seen)) left (put e (Number v) s) g)
    ]
    stored_written v left seen (Err i) at_cell h = seen_apart k seen h

    taken_written : (d : Data) (r : Result Taken ℕ)
        → written_by (with_taken d r (λ v left. into_item k left v (target (names_in p S) item s).seen (target (names_in p S) item s).result (λ m e. taking (names_in p S) items m left (put e (Number v) s)))).touches c ≡ true
        → is_among x (assigned_left item ++ flat_map assigned_left items) ≡ true
    taken_written d (Ok t) h = stored_written t.value t.behind (target (names_in p S) item s).seen (target (names_in p S) item s).result (λ e g. g) h
    taken_written d (Err i) h = untrue h

  items_written : (S : Scope) (items : List ExprTree) (k : ℕ) (d : Data) (s : Store) → written_by (taking (names_in p S) items k d s).touches c ≡ true → is_among x (flat_map assigned_left items) ≡ true
  items_written S [] k d s h = untrue h
  items_written S (item ∷ items) k d s h = taken_written S k item items s (λ m e u g. items_written S items m e u g) d (next_value_of d) h

  taking_written : (S : Scope) (items : List ExprTree) (r : Result Data ℕ) (s : Store) → written_by (taking_from (names_in p S) items r s).touches c ≡ true → is_among x (flat_map assigned_left items) ≡ true
  taking_written S items (Ok d) s h = items_written S items 2 d s h
  taking_written S items (Err i) s h = untrue h

  read_written : (S : Scope) (at : Place) (items : List ExprTree) (s : Store) → written_by (touches_of (run_read (names_in p S) at items s).acts) c ≡ true → is_among x (flat_map assigned_left items) ≡ true
  read_written S at items s h = go (reading (names_in p S) items s).fault h
    where
      touched : written_by (reading_touches (reading (names_in p S) items s) s) c ≡ true → is_among x (flat_map assigned_left items) ≡ true
      touched g = taking_written S items (begun (lines_in (s In))) s (sym (ap (λ (b : Bool). b || written_by (reading (names_in p S) items s).touches c) (not_line x c named).0) ∙ g)

      go : (o : Option ℕ) → written_by (touches_of (run_taking at (reading (names_in p S) items s) o s).acts) c ≡ true → is_among x (flat_map assigned_left items) ≡ true
      go None g = elim (parts (reading_touches (reading (names_in p S) items s) s) [] c g) [ inl j ↦ touched j | inr j ↦ untrue j ]
      go (Some i) g = elim (parts (reading_touches (reading (names_in p S) items s) s) [] c g) [ inl j ↦ touched j | inr j ↦ untrue j ]

  -- a DO
  undefined_names : (S : Scope) (n : ℕ) (ys : List (List ℕ)) → written_by (undefined_by S n ys) c ≡ true → is_among x ys ≡ true
  undefined_names S n [] h = untrue h
  undefined_names S n (y ∷ ys) h = elim (or_split (same_cell (cell_of S y) c) (written_by (undefined_by S (suc n) ys) c) h) [
    | inl k ↦ or_left (is_same_text x y) _ (named_is S y k)
    | inr k ↦ or_right (is_same_text x y) _ (undefined_names S (suc n) ys k)
  ]

  undefined_all_names : (S : Scope) (ys : List (List ℕ)) → written_by (undefined_all S ys) c ≡ true → is_among x ys ≡ true
  undefined_all_names S [] h = untrue h
  undefined_all_names S (y ∷ ys) h = elim (or_split (same_cell (cell_of S y) c) (written_by (undefined_all S ys) c) h) [
    | inl k ↦ or_left (is_same_text x y) _ (named_is S y k)
    | inr k ↦ or_right (is_same_text x y) _ (undefined_all_names S ys k)
  ]

  module _ (S : Scope) (at : Place) (h : Head) (b : StmtTrees) (e : Entered) (head : e.head ≡ h) (inner : e.inner ≡ inner_variables h.parallel b) (body : Frame → Store → Run)
      (of_body : (f : Frame) (u : Store) → written_by (touches_of (body f u).acts) c ≡ true → is_among x (assigned_in_all b) ≡ true) where
    abbrev OfDo : Type 0
    OfDo = is_among x (assigned_in (Do h b)) ≡ true

    in_body : (f : Frame) (u : Store) → written_by (touches_of (body f u).acts) c ≡ true → OfDo
    in_body f u g = or_right (is_same_text x h.variable) _ (among_right x h.private (assigned_in_all b) (of_body f u g))

    in_inner : (parallel : Bool) → is_among x (inner_variables parallel b) ≡ true → OfDo
    in_inner true g = or_right (is_same_text x h.variable) _ (among_right x h.private (assigned_in_all b) (all_loops_assigned x b (sym (inner_among x b) ∙ g)))
    in_inner false g = untrue g

    exit_names : written_by (exit_touches e S) c ≡ true → OfDo
    exit_names g = elim (or_split (same_cell (cell_of S e.head.variable) c) (written_by (undefined_by S e.behind_bounds e.head.private ++ undefined_all S e.inner) c) g) [
      | inl k ↦ or_left (is_same_text x h.variable) _ (sym (ap (λ (z : Head). is_same_text x z.variable) head) ∙ named_is S e.head.variable k)
      | inr k ↦ elim (parts (undefined_by S e.behind_bounds e.head.private) (undefined_all S e.inner) c k) [
        | inl j ↦ or_right (is_same_text x h.variable) _ (among_left x h.private (assigned_in_all b) (sym (ap (λ (z : Head). is_among x z.private) head) ∙ undefined_names S e.behind_bounds e.head.private j))
        | inr j ↦ in_inner h.parallel (sym (ap (is_among x) inner) ∙ undefined_all_names S e.inner j)
      ]
    ]

    maybe_exit_names : (m : ℕ) → written_by (exit_when_none m e S) c ≡ true → OfDo
    maybe_exit_names m g = by (m == 0) g
      where
        by : (z : Bool) → written_by (if z then exit_touches e S else []) c ≡ true → OfDo
        by true k = exit_names k
        by false k = untrue k

    turns_names : (m k : ℕ) (s : Store) → written_by (touches_of (turns m k e S at body s).acts) c ≡ true → OfDo
    turns_names zero k s g = untrue g
    turns_names (suc m) k s g = elim (then_written (body (frame e k) s).acts (body (frame e k) s).ending (does (ended_turn m) at (exit_when_none m e S) (turns m (k + 1) e S at body)) g) [
      | inl j ↦ in_body (frame e k) s j
      | inr j ↦ elim (parts (exit_when_none m e S) _ c j.1) [ inl i ↦ maybe_exit_names m i | inr i ↦ turns_names m (k + 1) (store_behind (exit_when_none m e S) j.0) i ]
    ]

    parallel_names : (m k : ℕ) (s : Store) → written_by (touches_of (parallel_turns m k e body s).acts) c ≡ true → OfDo
    parallel_names zero k s g = untrue g
    parallel_names (suc m) k s g = elim (then_written (body (frame e k) s).acts (body (frame e k) s).ending (parallel_turns m (k + 1) e body) g) [ inl j ↦ in_body (frame e k) s j | inr j ↦ parallel_names m (k + 1) j.0 j.1 ]

    entered_names : (parallel : Bool) (m : ℕ) (s : Store) → written_by (touches_of (run_entered parallel m e S at body s).acts) c ≡ true → OfDo
    entered_names true zero s g = untrue g
    entered_names false zero s g = untrue g
    entered_names false (suc m) s g = turns_names (suc m) 1 s g
    entered_names true (suc m) s g = elim (then_written (parallel_turns (suc m) 1 e body s).acts (parallel_turns (suc m) 1 e body s).ending (does closed at (exit_touches e S) nothing_done) g) [
      | inl j ↦ parallel_names (suc m) 1 s j
      | inr j ↦ elim (parts (exit_touches e S) [] c j.1) [ inl i ↦ exit_names i | inr i ↦ untrue i ]
    ]

    from_entry_names : (seen : List Seen) (s : Store) → written_by (touches_of (run_from_entry seen e S at body s).acts) c ≡ true → OfDo
    from_entry_names seen s g = elim (parts (entry_touches seen e S) _ c g) [
      | inl j ↦ elim (parts (numbered 1 seen) (exit_when_none e.count e S) c j) [ inl i ↦ seen_apart 1 seen i | inr i ↦ maybe_exit_names e.count i ]
      | inr j ↦ entered_names e.head.parallel e.count (store_behind (entry_touches seen e S) s) j
    ]

  part_written : (holds : Bool) (run_a run_b : Store → Run) (u : Store) (a b : List (List ℕ)) → (written_by (touches_of (run_a u).acts) c ≡ true → is_among x a ≡ true) → (written_by (touches_of (run_b u).acts) c ≡ true → is_among x b ≡ true)
      → written_by (touches_of ((if holds then run_a else run_b) u).acts) c ≡ true → is_among x (a ++ b) ≡ true
  part_written true run_a run_b u a b of_a of_b g = among_left x a b (of_a g)
  part_written false run_a run_b u a b of_a of_b g = among_right x a b (of_b g)

  mutual
    pub written_assigned : (t : StmtTree) (n : ℕ) (S : Scope) (s : Store) → written_by (touches_of (run p t n S s).acts) c ≡ true → is_among x (assigned_in t) ≡ true
    written_assigned (Assign left right) n S s h = assign_written S (place_of p n S) left right s h
    written_assigned (If condition a b) n S s h =
        on_written (place_of p n S) (truth (names_in p S) condition s).result (truth (names_in p S) condition s).seen
        (λ seen holds. does did (place_of p n S) (numbered 1 seen) (if holds then run_all p a (n + 1) S else run_all p b (n + 1 + statements_count a) S) s)
        (λ holds e g. elim (parts (numbered 1 (truth (names_in p S) condition s).seen) _ c g) [
          | inl i ↦ seen_apart 1 (truth (names_in p S) condition s).seen i
          | inr i ↦ part_written holds (run_all p a (n + 1) S) (run_all p b (n + 1 + statements_count a) S) (store_behind (numbered 1 (truth (names_in p S) condition s).seen) s) (assigned_in_all a) (assigned_in_all b)
              (λ k. all_written_assigned a (n + 1) S _ k) (λ k. all_written_assigned b (n + 1 + statements_count a) S _ k) i
        ]) h
    written_assigned (Do h b) n S s g =
        on_written (place_of p n S) (limits (names_in p S) h s).result (limits (names_in p S) h s).seen (λ seen l. run_from_entry seen (entered_with p n h b seen l) S (place_of p n S) (λ f. run_all p b (n + 1) (f ∷ S)) s)
        (λ l e k. from_entry_names S (place_of p n S) h b (entered_with p n h b (limits (names_in p S) h s).seen l) refl refl (λ f. run_all p b (n + 1) (f ∷ S)) (λ f u j. all_written_assigned b (n + 1) (f ∷ S) u j) (limits (names_in p S) h s).seen s k) g
    written_assigned (Print items) n S s h = print_unwritten S (place_of p n S) items s h
    written_assigned (Read items) n S s h = read_written S (place_of p n S) items s h
    written_assigned Stop n S s h = untrue h
    written_assigned (Comment text) n S s h = untrue h

    pub all_written_assigned : (ts : StmtTrees) (n : ℕ) (S : Scope) (s : Store) → written_by (touches_of (run_all p ts n S s).acts) c ≡ true → is_among x (assigned_in_all ts) ≡ true
    all_written_assigned no_stmts n S s h = untrue h
    all_written_assigned (more_stmts t rest) n S s h = elim (then_written (run p t n S s).acts (run p t n S s).ending (run_all p rest (n + statement_count t) S) h) [
      | inl k ↦ among_left x (assigned_in t) (assigned_in_all rest) (written_assigned t n S s k)
      | inr k ↦ among_right x (assigned_in t) (assigned_in_all rest) (all_written_assigned rest (n + statement_count t) S k.0 k.1)
    ]

-- what isn't assigned isn't written
module _ (p : Setting) (x : List ℕ) where
  pub unassigned : (t : StmtTree) (n : ℕ) (S : Scope) (s : Store) (c : Cell) → is_among x (assigned_in t) ≡ false → is_cell_of x c ≡ true → written_by (touches_of (run p t n S s).acts) c ≡ false
  unassigned t n S s c h named = not_so _ (λ w. let z : false ≡ true = sym h ∙ written_assigned p x c named t n S s w in untrue z)

  pub all_unassigned : (ts : StmtTrees) (n : ℕ) (S : Scope) (s : Store) (c : Cell) → is_among x (assigned_in_all ts) ≡ false → is_cell_of x c ≡ true → written_by (touches_of (run_all p ts n S s).acts) c ≡ false
  all_unassigned ts n S s c h named = not_so _ (λ w. let z : false ≡ true = sym h ∙ all_written_assigned p x c named ts n S s w in untrue z)
