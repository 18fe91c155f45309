-- What is kept behind a READ goes with the store of a run as it did before, in each way that equal writes keep.
use Rattle.std.proofs.Common.{◌≡◌, ℕ, suc, List, [], ◌∷◌, false, Some, None, Result, Ok, Err, if◌then◌else◌, refl, sym, ap, subst, ◌∙◌, append_assoc}
use mathlib.Core.Path.{fun_ext}
use Rattle.ped_base.specs.Arithmetic.Faults.{◌>>=◌}
use Rattle.ped_tree.specs.Tree.{ExprTree}
use Rattle.ped_store.specs.Cells.{Cell, Scalar, Element, Private, In, Out, same_cell}
use Rattle.ped_store.specs.Stores.{Content, Number, Lines, Store, put, lines_in}
use Rattle.ped_store.specs.DataLines.{Data, Taken, begun, next_value_of}
use Rattle.ped_store.specs.Acts.{Touch, Place, store_behind}
use Rattle.ped_store.specs.Memories.{Memory, with_content, with_data}
use Rattle.ped_eval.specs.Scopes.{Setting, Scope, cell_of, names_in}
use Rattle.ped_eval.specs.Evaluation.{Seen, numbered, number_behind}
use Rattle.ped_eval.specs.Values.{target}
use Rattle.ped_eval.specs.Statements.{Taking, write_touch, into_item, with_taken, taking, taking_from, reading}
use Rattle.ped_eval.specs.Runs.{going, failed, run_read}
use Rattle.ped_eval.specs.Takings.{names_with, items_taken, read_taken}
use Rattle.ped_eval.proofs.SameValues.{IsSameFor, same_target}
use Rattle.ped_eval.proofs.Agreements.{outside_same}
use Rattle.ped_eval.proofs.Evaluations.{IsVariable, reached_same, names_same, target_variable, in_not_scalar, variable_not_in}
use Rattle.ped_eval.proofs.KeptByWrites.{IsKeptByWrites}
use Rattle.ped_eval.proofs.Endings.{reads_leave, read_goes, read_fails}

twice_by : (v w : Content) (k : Store) (d : Cell) → put In v (put In w k) d ≡ put In v k d
twice_by v w k (Scalar x) = refl
twice_by v w k (Element x js) = refl
twice_by v w k (Private x path) = refl
twice_by v w k In = refl
twice_by v w k Out = refl

-- the last write of the data counts
in_twice : (v w : Content) (k : Store) → put In v (put In w k) ≡ put In v k
in_twice v w k = fun_ext (twice_by v w k)

apart_by : (c : Cell) (x v : Content) (k : Store) → same_cell c In ≡ false → (d : Cell) → put In v (put c x k) d ≡ put c x (put In v k) d
apart_by c x v k h (Scalar y) = refl
apart_by c x v k h (Element y js) = refl
apart_by c x v k h (Private y path) = refl
apart_by c x v k h In = ap (λ b. if b then x else v) (sym h)
apart_by c x v k h Out = refl

-- a write of another cell and one of the data may change places
in_apart : (c : Cell) (x v : Content) (k : Store) → same_cell c In ≡ false → put In v (put c x k) ≡ put c x (put In v k)
in_apart c x v k h = fun_ext (apart_by c x v k h)

-- the items of a READ have been taken, and this is kept behind them
pub record AreTaken (R : Store → Store → Type 0) (v : Content) (t : Taking) (s : Store) (m after : Memory) : Type 0 where
  pub fault : t.fault ≡ None
  pub left : t.left ≡ after.input
  pub agrees : R (put In v after.cells) (store_behind t.touches (put In v s))
  pub stands : after.stands ≡ m.stands
  pub bounds : after.bounds ≡ m.bounds

module _ (p : Setting) (scope : Scope) (R : Store → Store → Type 0) (writes : IsKeptByWrites p scope R) (v : Content) where
  into_taken : (n : ℕ) (t : Taken) (seen : List Seen) (c : Cell) (rest : Taking) (s : Store) (m after : Memory)
      → IsVariable (names_in p scope) c
      → AreTaken R v rest (put c (Number t.value) s) (with_content c (Number t.value) (with_data t.behind m)) after
      → AreTaken R v (into_item n t.behind t.value seen (Ok c) (λ k d. rest)) s m after
  into_taken n t seen c rest s m after is a = record {
    fault = a.fault;
    left = a.left;
    agrees = subst (λ (u : Store). R (put In v after.cells) u)
        (ap (store_behind rest.touches) (in_apart c (Number t.value) v s (variable_not_in p scope c is))
        ∙ sym (reads_leave seen n (write_touch c (Number t.value) (number_behind n seen) ∷ rest.touches) (put In v s))
        ∙ ap (λ (ts : List Touch). store_behind ts (put In v s)) (sym (append_assoc (numbered n seen) (write_touch c (Number t.value) (number_behind n seen) ∷ []) rest.touches)))
        a.agrees;
    stands = a.stands;
    bounds = a.bounds;
  }

  -- what is kept agrees behind an item
  pub item_agrees : (t : Taken) (c : Cell) (s : Store) (m : Memory) → IsVariable (names_in p scope) c → R (put In v m.cells) (put In v s)
      → R (put In v (with_content c (Number t.value) (with_data t.behind m)).cells) (put In v (put c (Number t.value) s))
  item_agrees t c s m is h =
      let not_in = variable_not_in p scope c is in
      let kept : put c (Number t.value) (put In v m.cells) ≡ put In v (put c (Number t.value) (put In (Lines t.behind.lines) m.cells)) =
      sym (in_apart c (Number t.value) v (put In (Lines t.behind.lines) m.cells) not_in ∙ ap (put c (Number t.value)) (in_twice v (Lines t.behind.lines) m.cells)) in
      let run : put c (Number t.value) (put In v s) ≡ put In v (put c (Number t.value) s) = sym (in_apart c (Number t.value) v s not_in) in
      subst (λ (u : Store). R u (put In v (put c (Number t.value) s))) kept
      (subst (λ (u : Store). R (put c (Number t.value) (put In v m.cells)) u) run
      (writes.variable c (Number t.value) (put In v m.cells) (put In v s) is h))

  without_in : (w : Content) (k : Store) (x : List ℕ) → put In w k (cell_of scope x) ≡ k (cell_of scope x)
  without_in w k x = ap (λ b. if b then w else k (cell_of scope x)) (in_not_scalar scope x)

  same_without : (w : Content) (m : Memory) (s : Store) → R (put In v m.cells) (put In v s) → IsSameFor (names_in p scope) (put In w m.cells) s
  same_without w m s h =
      let f = reached_same p scope (put In v m.cells) (put In v s) (writes.same (put In v m.cells) (put In v s) h) in
      record {
        scalars = λ x. without_in w m.cells x ∙ sym (without_in v m.cells x) ∙ f.scalars x ∙ without_in v s x;
        elements = λ x js. f.elements x js;
      }

  pub target_same : (t : Taken) (item : ExprTree) (m : Memory) (s : Store) → m.bounds ≡ p.bounds → R (put In v m.cells) (put In v s)
      → target (names_with (with_data t.behind m) scope p.constants) item (with_data t.behind m).cells ≡ target (names_in p scope) item s
  target_same t item m s b h =
      ap (λ g. target g item (with_data t.behind m).cells) (names_same p scope (with_data t.behind m) b)
      ∙ same_target (names_in p scope) (put In (Lines t.behind.lines) m.cells) s (same_without (Lines t.behind.lines) m s h) item

  -- what the items behind an item come to, where they are taken, and where one fails
  abbrev Follows : List ExprTree → Memory → Type 0
  Follows rest after = (n : ℕ) (s : Store) (m : Memory) → m.bounds ≡ p.bounds → R (put In v m.cells) (put In v s)
      → items_taken p.constants scope rest m ≡ Ok after → AreTaken R v (taking (names_in p scope) rest n m.input s) s m after

  abbrev FollowFailing : List ExprTree → ℕ → Type 0
  FollowFailing rest f = (n : ℕ) (s : Store) (m : Memory) → m.bounds ≡ p.bounds → R (put In v m.cells) (put In v s)
      → items_taken p.constants scope rest m ≡ Err f → (taking (names_in p scope) rest n m.input s).fault ≡ Some f

  module _ (item : ExprTree) (rest : List ExprTree) (n : ℕ) (s : Store) (m : Memory) (b : m.bounds ≡ p.bounds) (h : R (put In v m.cells) (put In v s)) where
    abbrev stored_behind : Taken → Result Cell ℕ → Result Memory ℕ
    stored_behind t r = (r >>= λ c. Ok (with_content c (Number t.value) (with_data t.behind m))) >>= items_taken p.constants scope rest

    abbrev taken_behind : Result Taken ℕ → Result Memory ℕ
    taken_behind o = (o >>= λ t. (target (names_with (with_data t.behind m) scope p.constants) item (with_data t.behind m).cells).result >>= λ c. Ok (with_content c (Number t.value) (with_data t.behind m))) >>= items_taken p.constants scope rest

    abbrev taking_into : Taken → List Seen → Result Cell ℕ → Taking
    taking_into t seen r = into_item n t.behind t.value seen r λ k c. taking (names_in p scope) rest k t.behind (put c (Number t.value) s)

    abbrev taking_value : Result Taken ℕ → Taking
    taking_value o = with_taken m.input o λ w left. into_item n left w (target (names_in p scope) item s).seen (target (names_in p scope) item s).result λ k c. taking (names_in p scope) rest k left (put c (Number w) s)

    cell_agrees : (after : Memory) → Follows rest after → (t : Taken) (seen : List Seen) (r : Result Cell ℕ) → ((c : Cell) → r ≡ Ok c → IsVariable (names_in p scope) c)
        → stored_behind t r ≡ Ok after → AreTaken R v (taking_into t seen r) s m after
    cell_agrees after follow t seen (Err f) is e = absurd cc
    cell_agrees after follow t seen (Ok c) is e =
        into_taken n t seen c (taking (names_in p scope) rest (suc (number_behind n seen)) t.behind (put c (Number t.value) s)) s m after (is c refl)
        (follow (suc (number_behind n seen)) (put c (Number t.value) s) (with_content c (Number t.value) (with_data t.behind m)) b (item_agrees t c s m (is c refl) h) e)

    cell_fails : (f : ℕ) → FollowFailing rest f → (t : Taken) (seen : List Seen) (r : Result Cell ℕ) → ((c : Cell) → r ≡ Ok c → IsVariable (names_in p scope) c)
        → stored_behind t r ≡ Err f → (taking_into t seen r).fault ≡ Some f
    cell_fails f follow t seen (Err k) is e = let q : k ≡ f = cc in ap Some q
    cell_fails f follow t seen (Ok c) is e = follow (suc (number_behind n seen)) (put c (Number t.value) s) (with_content c (Number t.value) (with_data t.behind m)) b (item_agrees t c s m (is c refl) h) e

    by_same_target : (t : Taken) → taken_behind (Ok t) ≡ stored_behind t (target (names_in p scope) item s).result
    by_same_target t = λ i. stored_behind t (target_same t item m s b h i).result

    value_agrees : (after : Memory) → Follows rest after → (o : Result Taken ℕ) → taken_behind o ≡ Ok after → AreTaken R v (taking_value o) s m after
    value_agrees after follow (Err f) e = absurd cc
    value_agrees after follow (Ok t) e =
        cell_agrees after follow t (target (names_in p scope) item s).seen (target (names_in p scope) item s).result (target_variable (names_in p scope) item s) (sym (by_same_target t) ∙ e)

    value_fails : (f : ℕ) → FollowFailing rest f → (o : Result Taken ℕ) → taken_behind o ≡ Err f → (taking_value o).fault ≡ Some f
    value_fails f follow (Err k) e = let q : k ≡ f = cc in ap Some q
    value_fails f follow (Ok t) e =
        cell_fails f follow t (target (names_in p scope) item s).seen (target (names_in p scope) item s).result (target_variable (names_in p scope) item s) (sym (by_same_target t) ∙ e)

  taken_agrees : (items : List ExprTree) (after : Memory) → Follows items after
  taken_agrees [] after n s m b h e =
      let k : m ≡ after = cc in
      record {
        fault = refl;
        left = λ i. (k i).input;
        agrees = subst (λ (a : Memory). R (put In v a.cells) (put In v s)) k h;
        stands = λ i. (sym k i).stands;
        bounds = λ i. (sym k i).bounds;
      }
  taken_agrees (item ∷ rest) after n s m b h e = value_agrees item rest n s m b h after (taken_agrees rest after) (next_value_of m.input) e

  taken_fails : (items : List ExprTree) (f : ℕ) → FollowFailing items f
  taken_fails [] f n s m b h e = absurd cc
  taken_fails (item ∷ rest) f n s m b h e = value_fails item rest n s m b h f (taken_fails rest f) (next_value_of m.input) e

-- a READ that goes on does so in the run, and what is kept goes with the run's store behind it
module _ (p : Setting) (scope : Scope) (R : Store → Store → Type 0) (writes : IsKeptByWrites p scope R) (at : Place) (items : List ExprTree) (s : Store) (m : Memory) (b : m.bounds ≡ p.bounds) (h : R m.cells s) (kept : m.cells In ≡ Lines m.input.lines) where
  pub same_lines : lines_in (s In) ≡ m.input.lines
  same_lines = λ i. lines_in ((sym (outside_same scope m.cells s (writes.same m.cells s h) In refl) ∙ kept) i)

  pub begins_same : (v : Content) (d : Data) → R (put In v (with_data d m).cells) (put In v s)
  begins_same v d =
      subst (λ (u : Store). R u (put In v s)) (sym (in_twice v (Lines d.lines) m.cells)) (writes.input v m.cells s h)

  by_begun : (after : Memory) → (o : Result Data ℕ) → (o >>= λ d. items_taken p.constants scope items (with_data d m)) ≡ Ok after
      → AreTaken R (Lines after.input.lines) (taking_from (names_in p scope) items o s) s m after
  by_begun after (Err f) e = absurd cc
  by_begun after (Ok d) e =
      let a = taken_agrees p scope R writes (Lines after.input.lines) items after 2 s (with_data d m) b (begins_same (Lines after.input.lines) d) e in
      record { fault = a.fault; left = a.left; agrees = a.agrees; stands = a.stands; bounds = a.bounds }

  fails_begun : (f : ℕ) → (o : Result Data ℕ) → (o >>= λ d. items_taken p.constants scope items (with_data d m)) ≡ Err f → (taking_from (names_in p scope) items o s).fault ≡ Some f
  fails_begun f (Err k) e = let q : k ≡ f = cc in ap Some q
  fails_begun f (Ok d) e = taken_fails p scope R writes (Lines []) items f 2 s (with_data d m) b (begins_same (Lines []) d) e

  pub reading_taken : (after : Memory) → read_taken p.constants scope items m ≡ Ok after → AreTaken R (Lines after.input.lines) (reading (names_in p scope) items s) s m after
  reading_taken after e =
      subst (λ (ls : List (List ℕ)). AreTaken R (Lines after.input.lines) (taking_from (names_in p scope) items (begun ls) s) s m after) (sym same_lines)
      (by_begun after (begun m.input.lines) e)

  -- where a READ goes on
  pub read_ending : (after : Memory) → read_taken p.constants scope items m ≡ Ok after → after.cells In ≡ Lines after.input.lines
      → (u : Store) × ((run_read (names_in p scope) at items s).ending ≡ going u) × R after.cells u
  read_ending after e kept_after =
      let a = reading_taken after e in (
        store_behind (reading (names_in p scope) items s).touches (put In (Lines after.input.lines) s),
        read_goes at (reading (names_in p scope) items s) s a.fault ∙ (λ i. going (store_behind (reading (names_in p scope) items s).touches (put In (Lines (a.left i).lines) s))),
        subst (λ (w : Store). R w (store_behind (reading (names_in p scope) items s).touches (put In (Lines after.input.lines) s)))
            (ap (λ v. put In v after.cells) (sym kept_after) ∙ in_itself after.cells) a.agrees,
      )
    where
      itself_by : (k : Store) (d : Cell) → put In (k In) k d ≡ k d
      itself_by k (Scalar x) = refl
      itself_by k (Element x js) = refl
      itself_by k (Private x path) = refl
      itself_by k In = refl
      itself_by k Out = refl

      in_itself : (k : Store) → put In (k In) k ≡ k
      in_itself k = fun_ext (itself_by k)

  pub read_stands : (after : Memory) → read_taken p.constants scope items m ≡ Ok after → after.stands ≡ m.stands
  read_stands after e = (reading_taken after e).stands

  pub read_bounds : (after : Memory) → read_taken p.constants scope items m ≡ Ok after → after.bounds ≡ m.bounds
  read_bounds after e = (reading_taken after e).bounds

  -- where it fails
  pub read_ending_fails : (f : ℕ) → read_taken p.constants scope items m ≡ Err f → (run_read (names_in p scope) at items s).ending ≡ failed f at.statement
  read_ending_fails f e =
      read_fails (names_in p scope) at (reading (names_in p scope) items s) s f
      (subst (λ (ls : List (List ℕ)). (taking_from (names_in p scope) items (begun ls) s).fault ≡ Some f) (sym same_lines) (fails_begun f (begun m.input.lines) e))
