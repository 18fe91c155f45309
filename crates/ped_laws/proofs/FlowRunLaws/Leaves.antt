-- Statements that are no IF and no DO: their paths cover their acts.
use Rattle.std.proofs.Common.{◌≡◌, ℕ, suc, ℤ, List, [], ◌∷◌, ◌++◌, Bool, true, false, ◌&&◌, ◌||◌, map, Option, Some, None, Result, Ok, Err, if◌then◌else◌, refl, sym, ap, subst, ◌∙◌, append_assoc}
use Rattle.std.specs.List.{flat_map}
use Rattle.std.proofs.lemmas.List.{append-nil, map-append}
use Rattle.ped_flow.specs.ped_base.specs.Lists.{is_same_text, is_among}
use Rattle.ped_flow.specs.ped_tree.specs.Tree.{ExprTree, Int, Var, Element, Neg, Add, Sub, Mul, Div, Pow, Call, ItemTree}
use Rattle.ped_flow.specs.ped_tree.specs.Tree as tree
use Rattle.ped_eval.specs.ped_store.specs.Cells as tree_cell
use Rattle.ped_eval.specs.ped_store.specs.Cells.{Cell, In, Out, same_cell}
use Rattle.ped_eval.specs.ped_store.specs.Stores.{Store, Number, Lines, storable, lines_in, put}
use Rattle.ped_eval.specs.ped_store.specs.DataLines.{Data, Taken, begun, next_value_of}
use Rattle.ped_eval.specs.ped_store.specs.Acts.{Place, did}
use Rattle.ped_laws.specs.Acts.Fitting.{touches_of}
use Rattle.ped_eval.specs.Scopes.{Scope, Setting, Names, names_in, cell_of}
use Rattle.ped_eval.specs.Evaluation.{Seen, onward, ◌>>>◌, given, numbered, number_behind}
use Rattle.ped_eval.specs.Values.{value, values, target, element_cell}
use Rattle.ped_eval.specs.Statements.{Stored, assigned, assignment_touches, write_touch, read_touch, printed_line, print_touches, into_item, with_taken, taking, taking_from, reading}
use Rattle.ped_eval.specs.Runs.{on_value, does, nothing_done, run_assignment, run_print, run_taking, run_read}
use Rattle.ped_flow.specs.Events as events
use Rattle.ped_flow.specs.Events.{Event, event, reads_of, unless_constant, scalars_in, all_scalars_in, scalars_in_item, left_events, own_events}
use Rattle.ped_flow.specs.PathSets.{going}
use Rattle.ped_flow.proofs.Truths.{untrue}
use Rattle.ped_laws.specs.FlowRuns.Covering.{is_cell_of, Covers, AreCovered}
use Rattle.ped_flow.specs.ped_base.proofs.NameEquality.{same_itself, same_is}
use Rattle.ped_laws.proofs.FlowRunLaws.Cells.{cell_named, stands_for}
use Rattle.ped_laws.proofs.FlowRunLaws.Seeing.{is_seen, scalars_left, element_other, assigned_seen, line_seen, target_seen}
use Rattle.ped_laws.proofs.FlowRunLaws.Coverings.{covers_nothing, covers_append, covers_at_end, covers_other, covers_write, covers_elsewhere, covers_reads}
use Rattle.ped_laws.proofs.ActLaws.SameCells.{is_cell}

-- the cell of what is stored is that of the left side
pub stored_cell : {A : Type 0} (f : Cell → ℤ → A) (d : Cell) (r : Result ℤ ℕ) (w : A) → (given r >>> λ n. given (Ok (f d n))).result ≡ Ok w → (n : ℤ) × (f d n ≡ w)
stored_cell f d (Ok n) w h = let e : f d n ≡ w = cc in (n, e)
stored_cell f d (Err k) w h = absurd cc

abbrev storing : Cell → ℤ → Stored
storing d n = record { cell = d; number = n }

target_result : (seen : List Seen) (r : Result Cell ℕ) (v : ℤ) (w : Stored) → (onward seen r (λ d. given (storable v) >>> λ n. given (Ok (storing d n)))).result ≡ Ok w → r ≡ Ok w.cell
target_result seen (Ok d) v w h = let k = stored_cell storing d (storable v) w h in ap Ok (ap (λ (z : Stored). z.cell) k.1)
target_result seen (Err k) v w h = absurd cc

value_result : (g : Names) (left : ExprTree) (s : Store) (seen : List Seen) (r : Result ℤ ℕ) (w : Stored)
    → (onward seen r (λ v. target g left s >>> λ d. given (storable v) >>> λ n. given (Ok (storing d n)))).result ≡ Ok w → (target g left s).result ≡ Ok w.cell
value_result g left s seen (Ok v) w h = target_result (target g left s).seen (target g left s).result v w h
value_result g left s seen (Err k) w h = absurd cc

pub assigned_target : (g : Names) (left right : ExprTree) (s : Store) (w : Stored) → (assigned g left right s).result ≡ Ok w → (target g left s).result ≡ Ok w.cell
assigned_target g left right s w h = value_result g left s (value g right s).seen (value g right s).result w h

-- what a left side assigns
abbrev pub assigned_events : List (List ℕ) → ℕ → ExprTree → List Event
assigned_events constants n (Var y) = map (event n events.assigns) (unless_constant constants y)
assigned_events constants n (Element y es) = []
assigned_events constants n (Int k) = []
assigned_events constants n (Neg a) = []
assigned_events constants n (Add a b) = []
assigned_events constants n (Sub a b) = []
assigned_events constants n (Mul a b) = []
assigned_events constants n (Div a b) = []
assigned_events constants n (Pow a b) = []
assigned_events constants n (Call f es) = []

pub left_are : (constants : List (List ℕ)) (n : ℕ) (left : ExprTree) → left_events constants n left ≡ reads_of n (scalars_left constants left) ++ assigned_events constants n left
left_are constants n (Var y) = refl
left_are constants n (Element y es) = sym (append-nil (reads_of n (all_scalars_in constants es)))
left_are constants n (Int k) = refl
left_are constants n (Neg a) = refl
left_are constants n (Add a b) = refl
left_are constants n (Sub a b) = refl
left_are constants n (Mul a b) = refl
left_are constants n (Div a b) = refl
left_are constants n (Pow a b) = refl
left_are constants n (Call f es) = refl

-- no cell of a scalar is the data or the output
pub not_line : (x : List ℕ) (d : Cell) → is_cell_of x d ≡ true → (same_cell In d ≡ false) × (same_cell Out d ≡ false)
not_line x (tree_cell.Scalar y) h = (refl, refl)
not_line x (tree_cell.Element y js) h = untrue h
not_line x (tree_cell.Private y is) h = (refl, refl)
not_line x In h = untrue h
not_line x Out h = untrue h

module _ (p : Setting) (S : Scope) (constants : List (List ℕ)) (x : List ℕ) (other : is_among x constants ≡ false) where
  other_write : (d : Cell) (v : ℤ) (k : ℕ) (n : ℕ) (y : List ℕ) (b : Bool) → is_same_text x y ≡ false → same_cell d (cell_of S x) ≡ false
      → Covers x (cell_of S x) (map (event n events.assigns) (if b then [] else y ∷ [])) (write_touch d (Number v) k ∷ [])
  other_write d v k n y true e f = covers_other x (cell_of S x) (write_touch d (Number v) k) f
  other_write d v k n y false e f =
      covers_append x (cell_of S x) (event n events.assigns y ∷ []) [] [] (write_touch d (Number v) k ∷ [])
      (covers_elsewhere x (cell_of S x) (event n events.assigns y ∷ []) (ap (λ (b : Bool). (b && true) || false) e))
      (covers_other x (cell_of S x) (write_touch d (Number v) k) f)

  variable_write : (d : Cell) (v : ℤ) (k : ℕ) (n : ℕ) (y : List ℕ) (same : Bool) → is_same_text x y ≡ same → cell_of S y ≡ d
      → Covers x (cell_of S x) (map (event n events.assigns) (unless_constant constants y)) (write_touch d (Number v) k ∷ [])
  variable_write d v k n y true e f =
      let it : x ≡ y = same_is x y e in
      subst (λ (z : List ℕ). Covers x (cell_of S x) (map (event n events.assigns) (unless_constant constants z)) (write_touch d (Number v) k ∷ [])) it
      (subst (λ (b : Bool). Covers x (cell_of S x) (map (event n events.assigns) (if b then [] else x ∷ [])) (write_touch d (Number v) k ∷ [])) (sym other)
      (covers_write x (cell_of S x) n k v d (is_cell d (cell_of S x) (sym f ∙ ap (cell_of S) (sym it)))))
  variable_write d v k n y false e f = other_write d v k n y (is_among y constants) e (apart (same_cell d (cell_of S x)) refl)
    where
      apart : (b : Bool) → same_cell d (cell_of S x) ≡ b → same_cell d (cell_of S x) ≡ false
      apart true g =
          let h : same_cell (cell_of S y) (cell_of S x) ≡ true = ap (λ (z : Cell). same_cell z (cell_of S x)) f ∙ g in
          let it : y ≡ x = stands_for S x y (cell_of S x) (cell_named S x) h in
          let z : false ≡ true = sym e ∙ (ap (is_same_text x) it ∙ same_itself x) in
          untrue z
      apart false g = g

  -- the write of a left side
  left_covers : (s : Store) (n k : ℕ) (v : ℤ) (left : ExprTree) (d : Cell) → (target (names_in p S) left s).result ≡ Ok d → Covers x (cell_of S x) (assigned_events constants n left) (write_touch d (Number v) k ∷ [])
  left_covers s n k v (Var y) d h = let e : cell_of S y ≡ d = cc in variable_write d v k n y (is_same_text x y) refl e
  left_covers s n k v (Element y es) d h = covers_other x (cell_of S x) (write_touch d (Number v) k) (element_by (values (names_in p S) es s).seen (values (names_in p S) es s).result h)
    where
      element_by : (seen : List Seen) (r : Result (List ℤ) ℕ) → (onward seen r (λ js. given (element_cell (names_in p S) y js))).result ≡ Ok d → same_cell d (cell_of S x) ≡ false
      element_by seen (Ok js) e = element_other p S constants x (cell_of S x) (cell_named S x) other s y js d e
      element_by seen (Err i) e = absurd cc
  left_covers s n k v (Int m) d h = absurd cc
  left_covers s n k v (Neg a) d h = absurd cc
  left_covers s n k v (Add a b) d h = absurd cc
  left_covers s n k v (Sub a b) d h = absurd cc
  left_covers s n k v (Mul a b) d h = absurd cc
  left_covers s n k v (Div a b) d h = absurd cc
  left_covers s n k v (Pow a b) d h = absurd cc
  left_covers s n k v (Call f es) d h = absurd cc

  -- the scalars of a right side and of subscripts are read, and then the left side is written
  pub assign_path : (n : ℕ) (left right : ExprTree) → reads_of n (scalars_in constants right ++ scalars_left constants left) ++ assigned_events constants n left ≡ own_events constants n (tree.Assign left right)
  assign_path n left right =
      ap (λ (z : List Event). z ++ assigned_events constants n left) (map-append (event n events.reads) (scalars_in constants right) (scalars_left constants left))
      ∙ append_assoc (reads_of n (scalars_in constants right)) (reads_of n (scalars_left constants left)) (assigned_events constants n left)
      ∙ ap (λ (z : List Event). reads_of n (scalars_in constants right) ++ z) (sym (left_are constants n left))

  pub assignment_covered : (at : Place) (n : ℕ) (left right : ExprTree) (s : Store)
      → AreCovered (going (own_events constants n (tree.Assign left right))) x (cell_of S x) (touches_of (run_assignment (names_in p S) at left right s).acts) (run_assignment (names_in p S) at left right s).ending
  assignment_covered at n left right s = go (assigned (names_in p S) left right s).seen (assigned (names_in p S) left right s).result (assigned_target (names_in p S) left right s) (λ h. (assigned_seen p S constants x (cell_of S x) (cell_named S x) other s left right h).among)
    where
      go : (seen : List Seen) (r : Result Stored ℕ) → ((w : Stored) → r ≡ Ok w → (target (names_in p S) left s).result ≡ Ok w.cell)
          → (is_seen (cell_of S x) seen ≡ true → is_among x (scalars_in constants right ++ scalars_left constants left) ≡ true)
          → AreCovered (going (own_events constants n (tree.Assign left right))) x (cell_of S x)
          (touches_of (on_value at seen r (λ seen w. does did at (assignment_touches seen w) nothing_done s)).acts)
          (on_value at seen r (λ seen w. does did at (assignment_touches seen w) nothing_done s)).ending
      go seen (Ok w) at_cell saw = (
        reads_of n (scalars_in constants right ++ scalars_left constants left) ++ assigned_events constants n left,
        assign_path n left right,
        covers_at_end x (cell_of S x) _ _ (covers_append x (cell_of S x) _ _ (numbered 1 seen) (write_touch w.cell (Number w.number) (number_behind 1 seen) ∷ [])
            (covers_reads x (cell_of S x) n 1 (scalars_in constants right ++ scalars_left constants left) seen saw)
            (left_covers s n (number_behind 1 seen) w.number left w.cell (at_cell w refl))),
      )
      go seen (Err k) at_cell saw = tt

  pub print_covered : (at : Place) (n : ℕ) (items : List ItemTree) (s : Store)
      → AreCovered (going (own_events constants n (tree.Print items))) x (cell_of S x) (touches_of (run_print (names_in p S) at items s).acts) (run_print (names_in p S) at items s).ending
  print_covered at n items s = go (printed_line (names_in p S) items s).seen (printed_line (names_in p S) items s).result (λ h. (line_seen p S constants x (cell_of S x) (cell_named S x) other s items h).among)
    where
      go : (seen : List Seen) (r : Result (List ℕ) ℕ) → (is_seen (cell_of S x) seen ≡ true → is_among x (flat_map (scalars_in_item constants) items) ≡ true)
          → AreCovered (going (own_events constants n (tree.Print items))) x (cell_of S x)
          (touches_of (on_value at seen r (λ seen line. does did at (print_touches seen line s) nothing_done s)).acts)
          (on_value at seen r (λ seen line. does did at (print_touches seen line s) nothing_done s)).ending
      go seen (Ok line) saw = (
        reads_of n (flat_map (scalars_in_item constants) items) ++ [],
        append-nil (reads_of n (flat_map (scalars_in_item constants) items)),
        covers_at_end x (cell_of S x) _ _ (covers_append x (cell_of S x) _ [] (numbered 1 seen) _
            (covers_reads x (cell_of S x) n 1 (flat_map (scalars_in_item constants) items) seen saw)
            (covers_append x (cell_of S x) [] [] (read_touch Out (s Out) 0 ∷ []) (write_touch Out (Lines (lines_in (s Out) ++ line ∷ [])) (number_behind 1 seen) ∷ [])
            (covers_other x (cell_of S x) (read_touch Out (s Out) 0) (not_line x (cell_of S x) (cell_named S x)).1)
            (covers_other x (cell_of S x) (write_touch Out (Lines (lines_in (s Out) ++ line ∷ [])) (number_behind 1 seen)) (not_line x (cell_of S x) (cell_named S x)).1))),
      )
      go seen (Err k) saw = tt

  item_covers : (n k : ℕ) (seen : List Seen) (v : ℤ) (item : ExprTree) (d : Cell) (s : Store) → (is_seen (cell_of S x) seen ≡ true → is_among x (scalars_left constants item) ≡ true) → (target (names_in p S) item s).result ≡ Ok d
      → Covers x (cell_of S x) (left_events constants n item) (numbered k seen ++ write_touch d (Number v) (number_behind k seen) ∷ [])
  item_covers n k seen v item d s saw h =
      subst (λ (z : List Event). Covers x (cell_of S x) z (numbered k seen ++ write_touch d (Number v) (number_behind k seen) ∷ [])) (sym (left_are constants n item))
      (covers_append x (cell_of S x) (reads_of n (scalars_left constants item)) (assigned_events constants n item) (numbered k seen) (write_touch d (Number v) (number_behind k seen) ∷ [])
      (covers_reads x (cell_of S x) n k (scalars_left constants item) seen saw)
      (left_covers s n (number_behind k seen) v item d h))

  -- what comes of an item of a READ and of those behind it
  module _ (n k : ℕ) (item : ExprTree) (items : List ExprTree) (s : Store)
      (rest : (m : ℕ) (d : Data) (u : Store) → (taking (names_in p S) items m d u).fault ≡ None → Covers x (cell_of S x) (flat_map (left_events constants n) items) (taking (names_in p S) items m d u).touches) where
    stored_covered : (v : ℤ) (left : Data) (seen : List Seen) (r : Result Cell ℕ) → (is_seen (cell_of S x) seen ≡ true → is_among x (scalars_left constants item) ≡ true) → ((e : Cell) → r ≡ Ok e → (target (names_in p S) item s).result ≡ Ok e)
        → (into_item k left v seen r (λ m e. taking (names_in p S) items m left (put e (Number v) s))).fault ≡ None
        → Covers x (cell_of S x) (left_events constants n item ++ flat_map (left_events constants n) items) (into_item k left v seen r (λ m e. taking (names_in p S) items m left (put e (Number v) s))).touches
    stored_covered v left seen (Ok e) saw at_cell f =
        covers_append x (cell_of S x) (left_events constants n item) (flat_map (left_events constants n) items) (numbered k seen ++ write_touch e (Number v) (number_behind k seen) ∷ []) _
        (item_covers n k seen v item e s saw (at_cell e refl))
        (rest (suc (number_behind k seen)) left (put e (Number v) s) f)
    stored_covered v left seen (Err i) saw at_cell f = absurd cc

    taken_covered : (d : Data) (r : Result Taken ℕ)
        → (with_taken d r (λ v left. into_item k left v (target (names_in p S) item s).seen (target (names_in p S) item s).result (λ m e. taking (names_in p S) items m left (put e (Number v) s)))).fault ≡ None
        → Covers x (cell_of S x) (left_events constants n item ++ flat_map (left_events constants n) items)
        (with_taken d r (λ v left. into_item k left v (target (names_in p S) item s).seen (target (names_in p S) item s).result (λ m e. taking (names_in p S) items m left (put e (Number v) s)))).touches
    taken_covered d (Ok t) f =
        stored_covered t.value t.behind (target (names_in p S) item s).seen (target (names_in p S) item s).result
        (λ g. (target_seen p S constants x (cell_of S x) (cell_named S x) other s item g).among) (λ e g. g) f
    taken_covered d (Err i) f = absurd cc

  items_covered : (n : ℕ) (items : List ExprTree) (k : ℕ) (d : Data) (s : Store) → (taking (names_in p S) items k d s).fault ≡ None
      → Covers x (cell_of S x) (flat_map (left_events constants n) items) (taking (names_in p S) items k d s).touches
  items_covered n [] k d s h = covers_nothing x (cell_of S x)
  items_covered n (item ∷ items) k d s h = taken_covered n k item items s (λ m e u f. items_covered n items m e u f) d (next_value_of d) h

  taking_covered : (n : ℕ) (items : List ExprTree) (r : Result Data ℕ) (s : Store) → (taking_from (names_in p S) items r s).fault ≡ None → Covers x (cell_of S x) (flat_map (left_events constants n) items) (taking_from (names_in p S) items r s).touches
  taking_covered n items (Ok d) s h = items_covered n items 2 d s h
  taking_covered n items (Err i) s h = absurd cc

  pub read_covered : (at : Place) (n : ℕ) (items : List ExprTree) (s : Store)
      → AreCovered (going (own_events constants n (tree.Read items))) x (cell_of S x) (touches_of (run_read (names_in p S) at items s).acts) (run_read (names_in p S) at items s).ending
  read_covered at n items s = go (reading (names_in p S) items s).fault refl
    where
      go : (o : Option ℕ) → (reading (names_in p S) items s).fault ≡ o
          → AreCovered (going (own_events constants n (tree.Read items))) x (cell_of S x) (touches_of (run_taking at (reading (names_in p S) items s) o s).acts) (run_taking at (reading (names_in p S) items s) o s).ending
      go None e = (
        flat_map (left_events constants n) items,
        refl,
        covers_at_end x (cell_of S x) _ _
            (covers_append x (cell_of S x) [] (flat_map (left_events constants n) items) (read_touch In (s In) 0 ∷ []) _
            (covers_other x (cell_of S x) (read_touch In (s In) 0) (not_line x (cell_of S x) (cell_named S x)).0)
            (covers_append x (cell_of S x) [] (flat_map (left_events constants n) items) (write_touch In (Lines (reading (names_in p S) items s).left.lines) 1 ∷ []) (reading (names_in p S) items s).touches
            (covers_other x (cell_of S x) (write_touch In (Lines (reading (names_in p S) items s).left.lines) 1) (not_line x (cell_of S x) (cell_named S x)).0)
            (taking_covered n items (begun (lines_in (s In))) s e))),
      )
      go (Some i) e = tt
