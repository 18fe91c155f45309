-- Where statements read the cells of a scalar.
use Rattle.std.proofs.Common.{◌≡◌, ℕ, suc, ◌+◌, ◌≤◌, ◌<◌, ℤ, List, [], ◌∷◌, ◌++◌, Bool, true, false, not, ◌&&◌, ◌||◌, Option, Some, None, Result, Ok, Err, if◌then◌else◌, refl, sym, ap, ◌∙◌, ◌⊎◌, inl, inr, append_assoc, arith, eqb, eqb-true}
use Rattle.std.specs.List.{list_any, flat_map}
use Rattle.std.proofs.lemmas.List.{append-nil, map-append}
use Rattle.std.proofs.lemmas.List.Folds.{list_any-append}
use Rattle.std.proofs.lemmas.Bool.{or_left, or_right}
use Rattle.ped_flow.specs.ped_base.specs.Lists.{is_same_text, is_among}
use Rattle.ped_flow.specs.ped_tree.specs.Tree.{ExprTree, CondTree, ItemTree, Head, StmtTree, StmtTrees, Assign, If, Do, Print, Read, Stop, Comment, no_stmts, more_stmts}
use Rattle.ped_flow.specs.ped_tree.specs.Numbering.{statement_count, statements_count}
use Rattle.ped_eval.specs.ped_store.specs.Cells.{Cell, Private, In, Iteration}
use Rattle.ped_eval.specs.ped_store.specs.Stores.{Store, Number, put, lines_in}
use Rattle.ped_eval.specs.ped_store.specs.DataLines.{Data, Taken, begun, next_value_of}
use Rattle.ped_eval.specs.ped_store.specs.Acts.{Place, did, entered, iterations_of, store_behind}
use Rattle.ped_laws.specs.Acts.Fitting.{touches_of}
use Rattle.ped_eval.specs.Scopes.{Frame, Scope, Setting, names_in, place_of, turns_of, cell_of, index_value}
use Rattle.ped_eval.specs.Evaluation.{Seen, numbered, number_behind}
use Rattle.ped_eval.specs.Values.{target, truth}
use Rattle.ped_eval.specs.Statements.{Stored, assigned, assignment_touches, write_touch, printed_line, print_touches, into_item, with_taken, taking, taking_from, reading, reading_touches}
use Rattle.ped_eval.specs.Loops.{Limits, limits, Entered, entered_with, frame, exit_when_none, entry_touches}
use Rattle.ped_eval.specs.Runs.{Run, on_value, does, nothing_done, run_assignment, run_print, run_taking, run_read, run_if, run_entered, run_from_entry, run_do, run, run_all}
use Rattle.ped_flow.specs.Events as events
use Rattle.ped_flow.specs.Events.{Event, event, reads_of, scalars_in, scalars_in_cond, scalars_in_item, left_events, own_events, is_read_by}
use Rattle.ped_flow.specs.Questions.{reads_outside, all_reads_outside}
use Rattle.ped_flow.proofs.Truths.{untrue}
use Rattle.ped_laws.specs.FlowRuns.Covering.{is_cell_of}
use Rattle.ped_laws.proofs.FlowRunLaws.Seeing.{is_seen, Saw, scalars_left, assigned_seen, truth_seen, line_seen, target_seen, limits_seen}
use Rattle.ped_laws.proofs.FlowRunLaws.Leaves.{not_line, left_are, assigned_events, assign_path}
use Rattle.ped_laws.proofs.FlowRunLaws.Reading.{reads_cell, reads_parts, seen_read, maybe_exit_unread, then_read, act_read, entered_read}

-- an iteration of a statement
abbrev pub turn_of : Setting → ℕ → ℕ → Iteration
turn_of p n k = record { statement = p.number n; number = k }

-- the cell is a copy that belongs to an iteration of a DO with one of these numbers, or of one in it
pub record IsDeeper (p : Setting) (x : List ℕ) (c : Cell) (S : Scope) (n count : ℕ) : Type 0 where
  pub statement : ℕ
  pub from : n ≤ statement
  pub to : statement < n + count
  pub number : ℕ
  pub rest : List Iteration
  pub is : c ≡ Private x (iterations_of (turns_of S) ++ turn_of p statement number ∷ rest)

-- a read of a cell of a scalar by statements with these numbers: no place tells the scalar's value, the read stands outside all DO loops of it, and the cell is what the scalar stands for, or a copy in one of the statements
pub record IsLocated (p : Setting) (x : List ℕ) (c : Cell) (S : Scope) (n count : ℕ) (outside : ℕ → Bool) : Type 0 where
  pub untold : index_value S x ≡ None
  pub reader : ℕ
  pub loose : outside reader ≡ true
  pub cell : (c ≡ cell_of S x) ⊎ IsDeeper p x c S n count

-- names that are read are so by their statement
names_loose : (x : List ℕ) (n : ℕ) (names : List (List ℕ)) (more : List Event) → is_among x names ≡ true → list_any (is_read_by x n) (reads_of n names ++ more) ≡ true
names_loose x n [] more h = untrue h
names_loose x n (y ∷ names) more h = by (is_same_text x y) (eqb n n) number h (names_loose x n names more)
  where
    number : eqb n n ≡ true
    number = grind (arith, eqb-true)

    by : (same number : Bool) → number ≡ true → (same || is_among x names) ≡ true → (is_among x names ≡ true → list_any (is_read_by x n) (reads_of n names ++ more) ≡ true)
        → ((same && true && number) || list_any (is_read_by x n) (reads_of n names ++ more)) ≡ true
    by true true e h r = refl
    by true false e h r = untrue e
    by false number e h r = r h

only_names : (x : List ℕ) (n : ℕ) (names : List (List ℕ)) → is_among x names ≡ true → list_any (is_read_by x n) (reads_of n names) ≡ true
only_names x n names h = ap (list_any (is_read_by x n)) (sym (append-nil (reads_of n names))) ∙ names_loose x n names [] h

module _ (p : Setting) (constants : List (List ℕ)) (x : List ℕ) (c : Cell) (named : is_cell_of x c ≡ true) (other : is_among x constants ≡ false) where
  here : (S : Scope) (n count : ℕ) (names : List (List ℕ)) (outside : ℕ → Bool) → Saw S x c names → (is_among x names ≡ true → outside n ≡ true) → IsLocated p x c S n count outside
  here S n count names outside h k = record { untold = h.untold; reader = n; loose = k h.among; cell = inl h.cell }

  -- more statements round
  widen : (S : Scope) (m k n count : ℕ) (some all : ℕ → Bool) → n ≤ m → m + k ≤ n + count → ((r : ℕ) → some r ≡ true → all r ≡ true) → IsLocated p x c S m k some → IsLocated p x c S n count all
  widen S m k n count some all from to into h = record { untold = h.untold; reader = h.reader; loose = into h.reader h.loose; cell = cells h.cell }
    where
      cells : (c ≡ cell_of S x) ⊎ IsDeeper p x c S m k → (c ≡ cell_of S x) ⊎ IsDeeper p x c S n count
      cells (inl e) = inl e
      cells (inr d) = inr (record { statement = d.statement; from = omega (arith, from, d.from); to = omega (arith, to, d.to); number = d.number; rest = d.rest; is = d.is })

  -- an evaluation, and what a statement does with its value
  pub value_located : {A : Type 0} (S : Scope) (n count : ℕ) (names : List (List ℕ)) (outside : ℕ → Bool) (at : Place) (e : Result A ℕ) (seen : List Seen) (next : List Seen → A → Run)
      → (is_seen c seen ≡ true → Saw S x c names) → (is_among x names ≡ true → outside n ≡ true)
      → ((a : A) → e ≡ Ok a → reads_cell c (touches_of (next seen a).acts) ≡ true → IsLocated p x c S n count outside)
      → reads_cell c (touches_of (on_value at seen e next).acts) ≡ true → IsLocated p x c S n count outside
  value_located S n count names outside at (Ok a) seen next saw out rest h = rest a refl h
  value_located S n count names outside at (Err f) seen next saw out rest h = elim (reads_parts c (numbered 1 seen) [] h) [
    | inl k ↦ here S n count names outside (saw (sym (seen_read c 1 seen) ∙ k)) out
    | inr k ↦ untrue k
  ]

  assignment_located : (S : Scope) (n : ℕ) (at : Place) (left right : ExprTree) (s : Store) → reads_cell c (touches_of (run_assignment (names_in p S) at left right s).acts) ≡ true
      → IsLocated p x c S n 1 (λ k. reads_outside constants x k (Assign left right) n)
  assignment_located S n at left right s h =
      value_located S n 1 (scalars_in constants right ++ scalars_left constants left) (λ k. reads_outside constants x k (Assign left right) n) at (assigned (names_in p S) left right s).result (assigned (names_in p S) left right s).seen
      (λ seen w. does did at (assignment_touches seen w) nothing_done s) saw out done h
    where
      saw : is_seen c (assigned (names_in p S) left right s).seen ≡ true → Saw S x c (scalars_in constants right ++ scalars_left constants left)
      saw g = assigned_seen p S constants x c named other s left right g

      out : is_among x (scalars_in constants right ++ scalars_left constants left) ≡ true → reads_outside constants x n (Assign left right) n ≡ true
      out g = ap (list_any (is_read_by x n)) (sym (assign_path p S constants x other n left right)) ∙ names_loose x n (scalars_in constants right ++ scalars_left constants left) (assigned_events constants n left) g

      done : (w : Stored) → (assigned (names_in p S) left right s).result ≡ Ok w
          → reads_cell c (touches_of (does did at (assignment_touches (assigned (names_in p S) left right s).seen w) nothing_done s).acts) ≡ true → IsLocated p x c S n 1 (λ k. reads_outside constants x k (Assign left right) n)
      done w e g = elim (reads_parts c (assignment_touches (assigned (names_in p S) left right s).seen w) [] g) [
        | inl k ↦ elim (reads_parts c (numbered 1 (assigned (names_in p S) left right s).seen) (write_touch w.cell (Number w.number) (number_behind 1 (assigned (names_in p S) left right s).seen) ∷ []) k) [
          | inl j ↦ here S n 1 (scalars_in constants right ++ scalars_left constants left) (λ k. reads_outside constants x k (Assign left right) n) (saw (sym (seen_read c 1 (assigned (names_in p S) left right s).seen) ∙ j)) out
          | inr j ↦ untrue j
        ]
        | inr k ↦ untrue k
      ]

  print_located : (S : Scope) (n : ℕ) (at : Place) (items : List ItemTree) (s : Store) → reads_cell c (touches_of (run_print (names_in p S) at items s).acts) ≡ true
      → IsLocated p x c S n 1 (λ k. reads_outside constants x k (Print items) n)
  print_located S n at items s h =
      value_located S n 1 (flat_map (scalars_in_item constants) items) (λ k. reads_outside constants x k (Print items) n) at (printed_line (names_in p S) items s).result (printed_line (names_in p S) items s).seen
      (λ seen line. does did at (print_touches seen line s) nothing_done s) saw (only_names x n (flat_map (scalars_in_item constants) items)) done h
    where
      saw : is_seen c (printed_line (names_in p S) items s).seen ≡ true → Saw S x c (flat_map (scalars_in_item constants) items)
      saw g = line_seen p S constants x c named other s items g

      done : (line : List ℕ) → (printed_line (names_in p S) items s).result ≡ Ok line
          → reads_cell c (touches_of (does did at (print_touches (printed_line (names_in p S) items s).seen line s) nothing_done s).acts) ≡ true → IsLocated p x c S n 1 (λ k. reads_outside constants x k (Print items) n)
      done line e g = elim (reads_parts c (print_touches (printed_line (names_in p S) items s).seen line s) [] g) [
        | inl k ↦ elim (reads_parts c (numbered 1 (printed_line (names_in p S) items s).seen) _ k) [
          | inl j ↦ here S n 1 (flat_map (scalars_in_item constants) items) (λ k. reads_outside constants x k (Print items) n) (saw (sym (seen_read c 1 (printed_line (names_in p S) items s).seen) ∙ j)) (only_names x n (flat_map (scalars_in_item constants) items))
          | inr j ↦ untrue (sym (ap (λ (b : Bool). b || false) (not_line x c named).1) ∙ j)
        ]
        | inr k ↦ untrue k
      ]

  -- the items of a READ
  abbrev ItemsLocated : Scope → ℕ → List ExprTree → Type 0
  ItemsLocated S n items = IsLocated p x c S n 1 (λ k. list_any (is_read_by x k) (flat_map (left_events constants n) items))

  item_loose : (n : ℕ) (item : ExprTree) (items : List ExprTree) → is_among x (scalars_left constants item) ≡ true → list_any (is_read_by x n) (flat_map (left_events constants n) (item ∷ items)) ≡ true
  item_loose n item items h =
      list_any-append (is_read_by x n) (left_events constants n item) (flat_map (left_events constants n) items)
      ∙ or_left (list_any (is_read_by x n) (left_events constants n item)) (list_any (is_read_by x n) (flat_map (left_events constants n) items))
      (ap (list_any (is_read_by x n)) (left_are constants n item) ∙ names_loose x n (scalars_left constants item) (assigned_events constants n item) h)

  later_items : (S : Scope) (n : ℕ) (item : ExprTree) (items : List ExprTree) → ItemsLocated S n items → ItemsLocated S n (item ∷ items)
  later_items S n item items h =
      widen S n 1 n 1 (λ k. list_any (is_read_by x k) (flat_map (left_events constants n) items)) (λ k. list_any (is_read_by x k) (flat_map (left_events constants n) (item ∷ items))) (omega arith) (omega arith)
      (λ r k. list_any-append (is_read_by x r) (left_events constants n item) (flat_map (left_events constants n) items) ∙ or_right (list_any (is_read_by x r) (left_events constants n item)) (list_any (is_read_by x r) (flat_map (left_events constants n) items)) k) h

  module _ (S : Scope) (n k : ℕ) (item : ExprTree) (items : List ExprTree) (s : Store)
      (rest : (m : ℕ) (d : Data) (u : Store) → reads_cell c (taking (names_in p S) items m d u).touches ≡ true → ItemsLocated S n items) where
    item_located : (seen : List Seen) → (is_seen c seen ≡ true → Saw S x c (scalars_left constants item)) → reads_cell c (numbered k seen) ≡ true → ItemsLocated S n (item ∷ items)
    item_located seen saw h = here S n 1 (scalars_left constants item) (λ r. list_any (is_read_by x r) (flat_map (left_events constants n) (item ∷ items))) (saw (sym (seen_read c k seen) ∙ h)) (item_loose n item items)

    stored_located : (v : ℤ) (left : Data) (seen : List Seen) (r : Result Cell ℕ) → (is_seen c seen ≡ true → Saw S x c (scalars_left constants item))
        → reads_cell c (into_item k left v seen r (λ m e. taking (names_in p S) items m left (put e (Number v) s))).touches ≡ true → ItemsLocated S n (item ∷ items)
    stored_located v left seen (Ok e) saw h = elim (reads_parts c (numbered k seen ++ write_touch e (Number v) (number_behind k seen) ∷ []) _ h) [
      | inl g ↦ elim (reads_parts c (numbered k seen) (write_touch e (Number v) (number_behind k seen) ∷ []) g) [ inl j ↦ item_located seen saw j | inr j ↦ untrue j ]
      | inr g ↦ later_items S n item items (rest (suc (number_behind k seen)) left (put e (Number v) s) g)
    ]
    stored_located v left seen (Err i) saw h = item_located seen saw h

    taken_located : (d : Data) (r : Result Taken ℕ)
        → reads_cell c (with_taken d r (λ v left. into_item k left v (target (names_in p S) item s).seen (target (names_in p S) item s).result (λ m e. taking (names_in p S) items m left (put e (Number v) s)))).touches ≡ true
        → ItemsLocated S n (item ∷ items)
    taken_located d (Ok t) h = stored_located t.value t.behind (target (names_in p S) item s).seen (target (names_in p S) item s).result (λ g. target_seen p S constants x c named other s item g) h
    taken_located d (Err i) h = untrue h

  items_located : (S : Scope) (n : ℕ) (items : List ExprTree) (k : ℕ) (d : Data) (s : Store) → reads_cell c (taking (names_in p S) items k d s).touches ≡ true → ItemsLocated S n items
  items_located S n [] k d s h = untrue h
  items_located S n (item ∷ items) k d s h = taken_located S n k item items s (λ m e u g. items_located S n items m e u g) d (next_value_of d) h

  taking_located : (S : Scope) (n : ℕ) (items : List ExprTree) (r : Result Data ℕ) (s : Store) → reads_cell c (taking_from (names_in p S) items r s).touches ≡ true → ItemsLocated S n items
  taking_located S n items (Ok d) s h = items_located S n items 2 d s h
  taking_located S n items (Err i) s h = untrue h

  read_located : (S : Scope) (n : ℕ) (at : Place) (items : List ExprTree) (s : Store) → reads_cell c (touches_of (run_read (names_in p S) at items s).acts) ≡ true → IsLocated p x c S n 1 (λ k. reads_outside constants x k (Read items) n)
  read_located S n at items s h = go (reading (names_in p S) items s).fault h
    where
      touched : reads_cell c (reading_touches (reading (names_in p S) items s) s) ≡ true → ItemsLocated S n items
      touched g = taking_located S n items (begun (lines_in (s In))) s (sym (ap (λ (b : Bool). b || reads_cell c (reading (names_in p S) items s).touches) (not_line x c named).0) ∙ g)

      go : (o : Option ℕ) → reads_cell c (touches_of (run_taking at (reading (names_in p S) items s) o s).acts) ≡ true → ItemsLocated S n items
      go None g = elim (reads_parts c (reading_touches (reading (names_in p S) items s) s) [] g) [ inl j ↦ touched j | inr j ↦ untrue j ]
      go (Some i) g = elim (reads_parts c (reading_touches (reading (names_in p S) items s) s) [] g) [ inl j ↦ touched j | inr j ↦ untrue j ]

  -- what the body of a DO reads
  module _ (S : Scope) (n : ℕ) (h : Head) (b : StmtTrees) (e : Entered) (number : e.number ≡ p.number n) (variable : e.head.variable ≡ h.variable) (j : ℕ) where
    pub untold_round : (same : Bool) → is_same_text x h.variable ≡ same → (if is_same_text x e.head.variable then Some (frame e j).turn.value else index_value S x) ≡ None → (is_same_text x h.variable ≡ false) × (index_value S x ≡ None)
    untold_round true k g =
        let r : (if is_same_text x e.head.variable then Some (frame e j).turn.value else index_value S x) ≡ Some (frame e j).turn.value = ap (λ (b : Bool). if b then Some (frame e j).turn.value else index_value S x) (ap (is_same_text x) variable ∙ k) in
        absurd cc
    untold_round false k g = (k, sym (ap (λ (b : Bool). if b then Some (frame e j).turn.value else index_value S x) (ap (is_same_text x) variable ∙ k)) ∙ g)

    pub copies : iterations_of (turns_of (frame e j ∷ S)) ≡ iterations_of (turns_of S) ++ turn_of p n j ∷ []
    copies = map-append _ (turns_of S) ((frame e j).turn ∷ []) ∙ ap (λ (m : ℕ). iterations_of (turns_of S) ++ (record { statement = m; number = j }) ∷ []) number

    copy_deeper : (some : Bool) → c ≡ (if some then Private x (iterations_of (turns_of (frame e j ∷ S))) else cell_of S x) → (c ≡ cell_of S x) ⊎ IsDeeper p x c S n (statements_count b + 1)
    copy_deeper true g = inr (record { statement = n; from = omega arith; to = omega arith; number = j; rest = []; is = g ∙ ap (Private x) copies })
    copy_deeper false g = inl g

    pub cell_round : (c ≡ cell_of (frame e j ∷ S) x) ⊎ IsDeeper p x c (frame e j ∷ S) (n + 1) (statements_count b) → (c ≡ cell_of S x) ⊎ IsDeeper p x c S n (statements_count b + 1)
    cell_round (inl g) = copy_deeper (is_among x (frame e j).private) g
    cell_round (inr d) = inr (record {
      statement = n;
      from = omega arith;
      to = omega arith;
      number = j;
      rest = turn_of p d.statement d.number ∷ d.rest;
      is = d.is ∙ ap (Private x) (ap (λ (z : List Iteration). z ++ turn_of p d.statement d.number ∷ d.rest) copies ∙ append_assoc (iterations_of (turns_of S)) (turn_of p n j ∷ []) (turn_of p d.statement d.number ∷ d.rest));
    })

    body_located : IsLocated p x c (frame e j ∷ S) (n + 1) (statements_count b) (λ k. all_reads_outside constants x k b (n + 1)) → IsLocated p x c S n (statements_count b + 1) (λ k. reads_outside constants x k (Do h b) n)
    body_located g =
        let u = untold_round (is_same_text x h.variable) refl g.untold in
        record {
          untold = u.1;
          reader = g.reader;
          loose = or_right (list_any (is_read_by x g.reader) (own_events constants n (Do h b))) (not (is_same_text x h.variable) && all_reads_outside constants x g.reader b (n + 1))
              (ap (λ (same : Bool). not same && all_reads_outside constants x g.reader b (n + 1)) u.0 ∙ g.loose);
          cell = cell_round g.cell;
        }

  do_located : (S : Scope) (n : ℕ) (h : Head) (b : StmtTrees) (body : Frame → Store → Run) (s : Store)
      → ((f : Frame) (u : Store) → reads_cell c (touches_of (body f u).acts) ≡ true → IsLocated p x c (f ∷ S) (n + 1) (statements_count b) (λ k. all_reads_outside constants x k b (n + 1)))
      → reads_cell c (touches_of (run_do p n S h b body s).acts) ≡ true → IsLocated p x c S n (statements_count b + 1) (λ k. reads_outside constants x k (Do h b) n)
  do_located S n h b body s of_body g =
      value_located S n (statements_count b + 1) (scalars_in constants h.first ++ scalars_in constants h.last) (λ k. reads_outside constants x k (Do h b) n) (place_of p n S) (limits (names_in p S) h s).result (limits (names_in p S) h s).seen
      (λ seen l. run_from_entry seen (entered_with p n h b seen l) S (place_of p n S) body s) saw out done g
    where
      saw : is_seen c (limits (names_in p S) h s).seen ≡ true → Saw S x c (scalars_in constants h.first ++ scalars_in constants h.last)
      saw k = limits_seen p S constants x c named other s h k

      out : is_among x (scalars_in constants h.first ++ scalars_in constants h.last) ≡ true → reads_outside constants x n (Do h b) n ≡ true
      out k = or_left (list_any (is_read_by x n) (own_events constants n (Do h b))) (not (is_same_text x h.variable) && all_reads_outside constants x n b (n + 1))
          (names_loose x n (scalars_in constants h.first ++ scalars_in constants h.last) (event n events.assigns h.variable ∷ []) k)

      of_entered : (e : Entered) → e.number ≡ p.number n → e.head.variable ≡ h.variable → (seen : List Seen) → (is_seen c seen ≡ true → Saw S x c (scalars_in constants h.first ++ scalars_in constants h.last))
          → reads_cell c (touches_of (run_from_entry seen e S (place_of p n S) body s).acts) ≡ true → IsLocated p x c S n (statements_count b + 1) (λ k. reads_outside constants x k (Do h b) n)
      of_entered e number variable seen saw k = elim (act_read c (entered e.count) (place_of p n S) (entry_touches seen e S) (run_entered e.head.parallel e.count e S (place_of p n S) body) s k) [
        | inl j ↦ elim (reads_parts c (numbered 1 seen) (exit_when_none e.count e S) j) [
          | inl i ↦ here S n (statements_count b + 1) (scalars_in constants h.first ++ scalars_in constants h.last) (λ k. reads_outside constants x k (Do h b) n) (saw (sym (seen_read c 1 seen) ∙ i)) out
          | inr i ↦ untrue (sym (maybe_exit_unread c e.count e S) ∙ i)
        ]
        | inr j ↦ (let r = entered_read c e.head.parallel e.count e S (place_of p n S) body (store_behind (entry_touches seen e S) s) j in body_located S n h b e number variable r.0 (of_body (frame e r.0) r.1 r.4))
      ]

      done : (l : Limits) → (limits (names_in p S) h s).result ≡ Ok l → reads_cell c (touches_of (run_from_entry (limits (names_in p S) h s).seen (entered_with p n h b (limits (names_in p S) h s).seen l) S (place_of p n S) body s).acts) ≡ true
          → IsLocated p x c S n (statements_count b + 1) (λ k. reads_outside constants x k (Do h b) n)
      done l e k = of_entered (entered_with p n h b (limits (names_in p S) h s).seen l) refl refl (limits (names_in p S) h s).seen saw k

  if_located : (S : Scope) (n : ℕ) (condition : CondTree) (a b : StmtTrees) (run_a run_b : Store → Run) (s : Store)
      → ((u : Store) → reads_cell c (touches_of (run_a u).acts) ≡ true → IsLocated p x c S (n + 1) (statements_count a) (λ k. all_reads_outside constants x k a (n + 1)))
      → ((u : Store) → reads_cell c (touches_of (run_b u).acts) ≡ true → IsLocated p x c S (n + 1 + statements_count a) (statements_count b) (λ k. all_reads_outside constants x k b (n + 1 + statements_count a)))
      → reads_cell c (touches_of (run_if (names_in p S) (place_of p n S) condition run_a run_b s).acts) ≡ true → IsLocated p x c S n (statements_count a + statements_count b + 1) (λ k. reads_outside constants x k (If condition a b) n)
  if_located S n condition a b run_a run_b s of_a of_b h =
      value_located S n (statements_count a + statements_count b + 1) (scalars_in_cond constants condition) (λ k. reads_outside constants x k (If condition a b) n) (place_of p n S) (truth (names_in p S) condition s).result (truth (names_in p S) condition s).seen
      (λ seen holds. does did (place_of p n S) (numbered 1 seen) (if holds then run_a else run_b) s) saw out (λ holds e g. part holds g) h
    where
      saw : is_seen c (truth (names_in p S) condition s).seen ≡ true → Saw S x c (scalars_in_cond constants condition)
      saw g = truth_seen p S constants x c named other s condition g

      out : is_among x (scalars_in_cond constants condition) ≡ true → reads_outside constants x n (If condition a b) n ≡ true
      out g = or_left (list_any (is_read_by x n) (own_events constants n (If condition a b))) _ (only_names x n (scalars_in_cond constants condition) g)

      whole : (m k : ℕ) (some : ℕ → Bool) → n ≤ m → m + k ≤ n + (statements_count a + statements_count b + 1) → ((r : ℕ) → some r ≡ true → (all_reads_outside constants x r a (n + 1) || all_reads_outside constants x r b (n + 1 + statements_count a)) ≡ true)
          → IsLocated p x c S m k some → IsLocated p x c S n (statements_count a + statements_count b + 1) (λ k. reads_outside constants x k (If condition a b) n)
      whole m k some from to into g = widen S m k n (statements_count a + statements_count b + 1) some (λ k. reads_outside constants x k (If condition a b) n) from to
          (λ r e. or_right (list_any (is_read_by x r) (own_events constants n (If condition a b))) _ (into r e)) g

      own : reads_cell c (numbered 1 (truth (names_in p S) condition s).seen) ≡ true → IsLocated p x c S n (statements_count a + statements_count b + 1) (λ k. reads_outside constants x k (If condition a b) n)
      own g = here S n (statements_count a + statements_count b + 1) (scalars_in_cond constants condition) (λ k. reads_outside constants x k (If condition a b) n) (saw (sym (seen_read c 1 (truth (names_in p S) condition s).seen) ∙ g)) out

      part : (holds : Bool) → reads_cell c (touches_of (does did (place_of p n S) (numbered 1 (truth (names_in p S) condition s).seen) (if holds then run_a else run_b) s).acts) ≡ true
          → IsLocated p x c S n (statements_count a + statements_count b + 1) (λ k. reads_outside constants x k (If condition a b) n)
      part true g = elim (act_read c did (place_of p n S) (numbered 1 (truth (names_in p S) condition s).seen) run_a s g) [
        | inl k ↦ own k
        | inr k ↦ whole (n + 1) (statements_count a) (λ k. all_reads_outside constants x k a (n + 1)) (omega arith) (omega arith)
            (λ r e. or_left (all_reads_outside constants x r a (n + 1)) (all_reads_outside constants x r b (n + 1 + statements_count a)) e) (of_a (store_behind (numbered 1 (truth (names_in p S) condition s).seen) s) k)
      ]
      part false g = elim (act_read c did (place_of p n S) (numbered 1 (truth (names_in p S) condition s).seen) run_b s g) [
        | inl k ↦ own k
        | inr k ↦ whole (n + 1 + statements_count a) (statements_count b) (λ k. all_reads_outside constants x k b (n + 1 + statements_count a)) (omega arith) (omega arith)
            (λ r e. or_right (all_reads_outside constants x r a (n + 1)) (all_reads_outside constants x r b (n + 1 + statements_count a)) e) (of_b (store_behind (numbered 1 (truth (names_in p S) condition s).seen) s) k)
      ]

  mutual
    pub located : (t : StmtTree) (n : ℕ) (S : Scope) (s : Store) → reads_cell c (touches_of (run p t n S s).acts) ≡ true → IsLocated p x c S n (statement_count t) (λ k. reads_outside constants x k t n)
    located (Assign left right) n S s h = assignment_located S n (place_of p n S) left right s h
    located (If condition a b) n S s h =
        if_located S n condition a b (run_all p a (n + 1) S) (run_all p b (n + 1 + statements_count a) S) s (λ u k. all_located a (n + 1) S u k) (λ u k. all_located b (n + 1 + statements_count a) S u k) h
    located (Do h b) n S s g = do_located S n h b (λ f. run_all p b (n + 1) (f ∷ S)) s (λ f u k. all_located b (n + 1) (f ∷ S) u k) g
    located (Print items) n S s h = print_located S n (place_of p n S) items s h
    located (Read items) n S s h = read_located S n (place_of p n S) items s h
    located Stop n S s h = untrue h
    located (Comment text) n S s h = untrue h

    pub all_located : (ts : StmtTrees) (n : ℕ) (S : Scope) (s : Store) → reads_cell c (touches_of (run_all p ts n S s).acts) ≡ true → IsLocated p x c S n (statements_count ts) (λ k. all_reads_outside constants x k ts n)
    all_located no_stmts n S s h = untrue h
    all_located (more_stmts t rest) n S s h = elim (then_read c (run p t n S s).acts (run p t n S s).ending (run_all p rest (n + statement_count t) S) h) [
      | inl k ↦ widen S n (statement_count t) n (statement_count t + statements_count rest) (λ k. reads_outside constants x k t n) (λ k. all_reads_outside constants x k (more_stmts t rest) n) (omega arith) (omega arith)
          (λ r. or_left (reads_outside constants x r t n) (all_reads_outside constants x r rest (n + statement_count t))) (located t n S s k)
      | inr k ↦ widen S (n + statement_count t) (statements_count rest) n (statement_count t + statements_count rest) (λ k. all_reads_outside constants x k rest (n + statement_count t)) (λ k. all_reads_outside constants x k (more_stmts t rest) n) (omega arith) (omega arith)
          (λ r. or_right (reads_outside constants x r t n) (all_reads_outside constants x r rest (n + statement_count t))) (all_located rest (n + statement_count t) S k.0 k.1)
    ]
