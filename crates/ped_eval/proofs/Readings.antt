-- What a READ takes, item by item, and how its run ends.
use Rattle.std.proofs.Common.{◌≡◌, ℕ, ◌+◌, ◌<◌, ◌≤◌, ℤ, List, [], ◌∷◌, length, get_or, drop, map, Bool, true, false, Result, Ok, Err, OnOk, IfErr, MatchResult, if◌then◌else◌, refl, sym, ap, subst, ◌∙◌}
use Rattle.std.specs.List.{list_all}
use Rattle.std.proofs.lemmas.Bool.{and_parts}
use Rattle.std.proofs.lemmas.List.{at_drop_all}
use Rattle.ped_base.specs.Lists.{has_some}
use Rattle.ped_base.specs.Arithmetic.Faults.{◌>>=◌}
use Rattle.ped_tree.specs.declared.expressions.Expr.{Expr}
use Rattle.ped_tree.specs.Tree.{ExprTree, Read}
use Rattle.ped_tree.specs.Views.{expr_tree}
use Rattle.ped_symbols.specs.Kinds.{Table}
use Rattle.ped_store.specs.Cells.{Cell, Scalar, Element, Private, In, Out}
use Rattle.ped_store.specs.Stores.{Number, is_storable, storable, out_of_range, outside_bounds, bad_data}
use Rattle.ped_store.specs.Storage.{is_within}
use Rattle.ped_store.specs.DataLines.{Data, Taken, begun, behind_blanks, word_of, behind_value, is_value, number_of, taken_from, value_from, next_value_of}
use Rattle.std.specs.Str.Parse.{signed_digits_value}
use Rattle.ped_store.specs.Keeping.{Kept, memory_of}
use Rattle.ped_store.specs.Memories.{Memory, with_content, with_number, with_data, stored}
use Rattle.ped_eval.specs.Scopes.{Scope, place_of}
use Rattle.ped_eval.specs.Values.{target}
use Rattle.ped_eval.specs.Targets.{bounded}
use Rattle.ped_symbols.specs.RightUses.RightUses.{NameKinds, target_is_right}
use Rattle.ped_eval.specs.Readiness.{setting_by, IsReady}
use Rattle.ped_eval.specs.Takings.{names_with, item_taken, items_taken, read_taken}
use Rattle.ped_eval.specs.Agreement.{before, Agrees}
use Rattle.ped_eval.specs.Runs.{Ending, run}
use Rattle.ped_eval.specs.Told.{Goes, Fails, Ran}
use Rattle.ped_eval.specs.declared.states.Flow.TheVariants as flow
use Rattle.ped_eval.specs.declared.states.RunError.TheVariants as error
use Rattle.ped_eval.proofs.Walks.{next_drop}
use Rattle.ped_eval.proofs.Moments.{next_statement}
use Rattle.ped_eval.proofs.Agreements.{agrees_later}
use Rattle.ped_eval.proofs.KeptByWrites.{agrees_kept}
use Rattle.ped_eval.proofs.Takings.{read_ending, read_ending_fails}
use Rattle.ped_eval.proofs.Assignments.{ready_with}

-- a number that may be stored stays as it is
storable_by : (b : Bool) (x n : ℤ) → is_storable x ≡ b → (if b then Ok x else Err out_of_range) ≡ Ok n → is_storable n ≡ true
storable_by true x n e h = let q : x ≡ n = cc in ap is_storable (sym q) ∙ e
storable_by false x n e h = absurd cc

value_by : (b : Bool) (x n : ℤ) → (if b then storable x else Err bad_data) ≡ Ok n → is_storable n ≡ true
value_by true x n h = storable_by (is_storable x) x n refl h
value_by false x n h = absurd cc

taken_by : (text : List ℕ) (lines : List (List ℕ)) (r : Result ℤ ℕ) (t : Taken) → ((n : ℤ) → r ≡ Ok n → is_storable n ≡ true)
    → (r >>= λ n. Ok (record { value = n; behind = record { rest = behind_value text; lines = lines } })) ≡ Ok t → is_storable t.value ≡ true
taken_by text lines (Ok n) t f h = let q : record { value = n; behind = record { rest = behind_value text; lines = lines } } ≡ t = cc in ap (λ (u : Taken). is_storable u.value) (sym q) ∙ f n refl
taken_by text lines (Err n) t f h = absurd cc

front_by : (b : Bool) (text : List ℕ) (lines : List (List ℕ)) (other : Result Taken ℕ) (t : Taken) → (other ≡ Ok t → is_storable t.value ≡ true) → (if b then taken_from text lines else other) ≡ Ok t → is_storable t.value ≡ true
front_by true text lines other t f h = taken_by text lines (number_of (word_of text)) t (λ n. value_by (is_value (word_of text)) (signed_digits_value 10 (word_of text)) n) h
front_by false text lines other t f h = f h

no_value : (t : Taken) → Err bad_data ≡ Ok t → is_storable t.value ≡ true
no_value t h = absurd cc

-- a value of the data may be stored
pub value_storable : (rest : List ℕ) (lines : List (List ℕ)) (t : Taken) → value_from rest lines ≡ Ok t → is_storable t.value ≡ true
value_storable rest [] t h = front_by (has_some (behind_blanks rest)) (behind_blanks rest) [] (Err bad_data) t (no_value t) h
value_storable rest (line ∷ more) t h = front_by (has_some (behind_blanks rest)) (behind_blanks rest) (line ∷ more) (value_from line more) t (value_storable line more t) h

number_with : (c : Cell) (n : ℤ) (m : Memory) → is_storable n ≡ true → with_number c n m ≡ Ok (with_content c (Number n) m)
number_with c n m h = ap (λ (b : Bool). (if b then Ok n else Err out_of_range) >>= λ k. Ok (with_content c (Number k) m)) h

element_with : (x : List ℕ) (js : List ℤ) (n : ℤ) (m : Memory) (b : Bool) → is_storable n ≡ true
    → (if b then with_number (Element x js) n m else Err outside_bounds) ≡ ((if b then Ok (Element x js) else Err outside_bounds) >>= λ c. Ok (with_content c (Number n) m))
element_with x js n m true h = number_with (Element x js) n m h
element_with x js n m false h = refl

-- what may be stored is stored where its cell lies within its bounds
stored_with : (c : Cell) (n : ℤ) (m : Memory) → is_storable n ≡ true → stored c n m ≡ (bounded m c >>= λ d. Ok (with_content d (Number n) m))
stored_with (Scalar x) n m h = number_with (Scalar x) n m h
stored_with (Element x js) n m h = element_with x js n m (is_within (m.bounds x) js) h
stored_with (Private x path) n m h = number_with (Private x path) n m h
stored_with In n m h = number_with In n m h
stored_with Out n m h = number_with Out n m h

-- what an item takes, from its steps
abbrev of_cell : Memory → Taken → Result Cell ℕ → Result Memory ℕ
of_cell mid t r = r >>= λ c. Ok (with_content c (Number t.value) mid)

abbrev of_target : List (List ℕ × ℤ) → Scope → ExprTree → Taken → Memory → Result Memory ℕ
of_target constants scope item t mid = of_cell mid t (target (names_with mid scope constants) item mid.cells).result

abbrev of_value : List (List ℕ × ℤ) → Scope → ExprTree → Memory → Result Taken ℕ → Result Memory ℕ
of_value constants scope item m r = r >>= λ t. of_target constants scope item t (with_data t.behind m)

module _ (constants : List (List ℕ × ℤ)) (scope : Scope) (item : ExprTree) (m : Memory) where
  module _ (t : Taken) (mid : Memory) (e : next_value_of m.input ≡ Ok t) (q : mid ≡ with_data t.behind m) where
    taken_at : item_taken constants scope item m ≡ of_cell mid t (target (names_with mid scope constants) item mid.cells).result
    taken_at = ap (of_value constants scope item m) e ∙ ap (of_target constants scope item t) (sym q)

    -- an item takes what is stored in its cell
    pub taken_stored : (c : Cell) → (target (names_with mid scope constants) item mid.cells).result ≡ bounded mid c → item_taken constants scope item m ≡ stored c t.value mid
    taken_stored c k = taken_at ∙ ap (of_cell mid t) k ∙ sym (stored_with c t.value mid (value_storable m.input.rest m.input.lines t e))

    -- a fault of its cell is one of the item
    pub taken_fault : (n : ℕ) → (target (names_with mid scope constants) item mid.cells).result ≡ Err n → item_taken constants scope item m ≡ Err n
    taken_fault n k = taken_at ∙ ap (of_cell mid t) k

-- the answer of the store is that of the item
pub item_answer : {A : Type 0} (r : Result A ℕ) (whole store : Result Memory ℕ) (new : Memory) (P : ℕ → Type 0) → whole ≡ store → OnOk r (store ≡ Ok new) → IfErr r (λ n. (store ≡ Err n) × P n)
    → MatchResult r (λ u. whole ≡ Ok new) (λ n. whole ≡ Err n)
item_answer (Ok u) whole store new P e h k = e ∙ h
item_answer (Err n) whole store new P e h k = e ∙ k.0

-- other data leave all that can be written standing
pub ready_data : (table : Table) (scope : Scope) (d : Data) (m : Memory) → IsReady table scope m → IsReady table scope (with_data d m)
ready_data table scope d m h = record { bounds = h.bounds; scalars = h.scalars; elements = h.elements; copies = h.copies }

cell_ready : (table : Table) (scope : Scope) (mid after : Memory) (t : Taken) (r : Result Cell ℕ) → IsReady table scope mid → of_cell mid t r ≡ Ok after → IsReady table scope after
cell_ready table scope mid after t (Ok c) h e = let q : with_content c (Number t.value) mid ≡ after = cc in subst (λ (k : Memory). IsReady table scope k) q (ready_with table scope c (Number t.value) mid h)
cell_ready table scope mid after t (Err n) h e = absurd cc

item_by : (table : Table) (scope : Scope) (item : ExprTree) (m after : Memory) (r : Result Taken ℕ) → IsReady table scope m → of_value table.constants scope item m r ≡ Ok after → IsReady table scope after
item_by table scope item m after (Ok t) h e =
    cell_ready table scope (with_data t.behind m) after t (target (names_with (with_data t.behind m) scope table.constants) item (with_data t.behind m).cells).result (ready_data table scope t.behind m h) e
item_by table scope item m after (Err n) h e = absurd cc

-- so does an item
pub item_ready : (table : Table) (scope : Scope) (item : ExprTree) (m after : Memory) → IsReady table scope m → item_taken table.constants scope item m ≡ Ok after → IsReady table scope after
item_ready table scope item m after h e = item_by table scope item m after (next_value_of m.input) h e

more_by : (table : Table) (scope : Scope) (rest : List ExprTree) (item : ExprTree) (m after : Memory) → ((mid : Memory) → IsReady table scope mid → items_taken table.constants scope rest mid ≡ Ok after → IsReady table scope after)
    → (r : Result Memory ℕ) → item_taken table.constants scope item m ≡ r → IsReady table scope m → (r >>= items_taken table.constants scope rest) ≡ Ok after → IsReady table scope after
more_by table scope rest item m after follow (Ok mid) k h e = follow mid (item_ready table scope item m mid h k) e
more_by table scope rest item m after follow (Err n) k h e = absurd cc

items_ready : (table : Table) (scope : Scope) (items : List ExprTree) (m after : Memory) → IsReady table scope m → items_taken table.constants scope items m ≡ Ok after → IsReady table scope after
items_ready table scope [] m after h e = let q : m ≡ after = cc in subst (λ (k : Memory). IsReady table scope k) q h
items_ready table scope (item ∷ rest) m after h e = more_by table scope rest item m after (λ mid. items_ready table scope rest mid after) (item_taken table.constants scope item m) refl h e

begun_ready : (table : Table) (scope : Scope) (items : List ExprTree) (m after : Memory) (r : Result Data ℕ) → IsReady table scope m → (r >>= λ d. items_taken table.constants scope items (with_data d m)) ≡ Ok after → IsReady table scope after
begun_ready table scope items m after (Ok d) h e = items_ready table scope items (with_data d m) after (ready_data table scope d m h) e
begun_ready table scope items m after (Err n) h e = absurd cc

-- so does a READ
pub read_ready : (table : Table) (scope : Scope) (items : List ExprTree) (m after : Memory) → IsReady table scope m → read_taken table.constants scope items m ≡ Ok after → IsReady table scope after
read_ready table scope items m after h e = begun_ready table scope items m after (begun m.input.lines) h e

-- a READ takes its items behind the line that it begins
pub read_begun : (constants : List (List ℕ × ℤ)) (scope : Scope) (items : List ExprTree) (m mid : Memory) (d : Data) → begun m.input.lines ≡ Ok d → mid ≡ with_data d m → read_taken constants scope items m ≡ items_taken constants scope items mid
read_begun constants scope items m mid d e q =
    ap (λ (r : Result Data ℕ). r >>= λ d. items_taken constants scope items (with_data d m)) e ∙ ap (items_taken constants scope items) (sym q)

module _ (constants : List (List ℕ × ℤ)) (scope : Scope) (items : List Expr) (i : ℕ) (x : Expr) (m : Memory) (r : Result Memory ℕ) (h : i < length items) (e : x ≡ get_or items i x) (k : item_taken constants scope (expr_tree x) m ≡ r) where
  -- what an item comes to, and then the others
  pub items_step : items_taken constants scope (map expr_tree (drop i items)) m ≡ (r >>= items_taken constants scope (map expr_tree (drop (i + 1) items)))
  items_step =
      ap (λ (l : List Expr). items_taken constants scope (map expr_tree l) m) (next_drop items i x h ∙ ap (λ (y : Expr). y ∷ drop (i + 1) items) (sym e))
      ∙ ap (λ (o : Result Memory ℕ). o >>= items_taken constants scope (map expr_tree (drop (i + 1) items))) k

-- where all items are right those behind one are
pub others_right : (kinds : NameKinds) (items : List Expr) (i : ℕ) (x : Expr) → i < length items → x ≡ get_or items i x → list_all (target_is_right kinds) (map expr_tree (drop i items)) ≡ true
    → list_all (target_is_right kinds) (map expr_tree (drop (i + 1) items)) ≡ true
others_right kinds items i x h e all =
    (and_parts (target_is_right kinds (expr_tree (get_or items i x))) (list_all (target_is_right kinds) (map expr_tree (drop (i + 1) items)))
    (ap (λ (l : List Expr). list_all (target_is_right kinds) (map expr_tree l)) (sym (next_drop items i x h)) ∙ all)).1

-- behind the last item all is taken
pub items_done : (constants : List (List ℕ × ℤ)) (scope : Scope) (items : List Expr) (i : ℕ) (m : Memory) → length items ≤ i → items_taken constants scope (map expr_tree (drop i items)) m ≡ Ok m
items_done constants scope items i m h = at_drop_all (λ (l : List Expr). items_taken constants scope (map expr_tree l) m) items i h

module _ (table : Table) (scope : Scope) (n : ℕ) (items : List ExprTree) (old : Kept) (ready : IsReady table scope (memory_of old)) where
  -- a READ that has taken its items goes on
  pub read_ran : (new : Kept) → read_taken table.constants scope items (memory_of old) ≡ Ok (memory_of new)
      → Ran scope n (memory_of old) (n + 1) (Ok flow.Going) (memory_of new) (run (setting_by table) (Read items) n scope)
  read_ran new h s g =
      let e = read_ending (setting_by table) scope (Agrees scope (before scope n)) (agrees_kept (setting_by table) scope n) (place_of (setting_by table) n scope) items s (memory_of old) ready.bounds g refl (memory_of new) h refl in
      subst (λ (x : Ending). Goes scope (before scope (n + 1)) (memory_of new).cells x) (sym e.1)
      (agrees_later scope (before scope n) (before scope (n + 1)) (memory_of new).cells e.0 (next_statement scope n 1) e.2)

  -- a fault of a READ ends its run
  pub read_failed : (new : Memory) (k : ℕ) → read_taken table.constants scope items (memory_of old) ≡ Err k
      → Ran scope n (memory_of old) (n + 1) (Err (error.Fault k n)) new (run (setting_by table) (Read items) n scope)
  read_failed new k h s g =
      subst (λ (x : Ending). Fails k n x) (sym (read_ending_fails (setting_by table) scope (Agrees scope (before scope n)) (agrees_kept (setting_by table) scope n) (place_of (setting_by table) n scope) items s (memory_of old) ready.bounds g refl k h)) (refl, refl)

-- behind the last item none is left
pub none_left : {A : Type 0} (f : List ExprTree → A) (items : List Expr) (i : ℕ) → length items ≤ i → f (map expr_tree (drop i items)) ≡ f []
none_left f items i h = at_drop_all (λ (l : List Expr). f (map expr_tree l)) items i h
