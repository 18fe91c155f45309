-- What an assignment leaves of what is kept, and how its run ends.
use Rattle.std.proofs.Common.{◌≡◌, ◌⊎◌, inl, inr, ℕ, ◌+◌, ℤ, List, [], ◌∷◌, length, Bool, true, false, ◌&&◌, Result, Ok, Err, if◌then◌else◌, refl, sym, ap, subst, ◌∙◌}
use Rattle.std.proofs.lemmas.Bool.{and_parts}
use Rattle.ped_base.specs.Lists.{is_among}
use Rattle.ped_base.specs.Arithmetic.Faults.{◌>>=◌}
use Rattle.ped_tree.specs.Tree.{ExprTree, ExprTrees, Int, Var, Neg, Add, Sub, Mul, Div, Pow, Call, Assign}
use Rattle.ped_tree.specs.Tree as tree
use Rattle.ped_symbols.specs.Kinds.{Table}
use Rattle.ped_symbols.specs.Uses.{expr_count}
use Rattle.ped_store.specs.Cells.{Cell, Scalar, Element, Private, In, Out}
use Rattle.ped_store.specs.Stores.{Content, Number, Store, put, storable, outside_bounds}
use Rattle.ped_store.specs.Storage.{is_within}
use Rattle.ped_store.specs.Memories.{Memory, with_content, with_number, stored}
use Rattle.ped_eval.specs.Scopes.{Frame, Scope, Names, cell_of, names_in, place_of}
use Rattle.ped_eval.specs.ScopeViews.{names_at}
use Rattle.ped_eval.specs.Evaluation.{Seen, ◌>>>◌, given, onward}
use Rattle.ped_eval.specs.Values.{value, target}
use Rattle.ped_eval.specs.Statements.{Stored, assigned}
use Rattle.ped_eval.specs.Targets.{bounded, IsNamedBy}
use Rattle.ped_symbols.specs.RightUses.RightUses.{has_rank, is_rank, exprs_are_right, target_is_right}
use Rattle.ped_eval.specs.Readiness.{kinds_by, setting_by, IsReady}
use Rattle.ped_eval.specs.Agreement.{path_of, before, Agrees, DoCopiesStand}
use Rattle.ped_eval.specs.Runs.{Ending, run}
use Rattle.ped_eval.specs.Told.{Goes, Fails, Ran}
use Rattle.ped_eval.specs.declared.states.Flow.TheVariants as flow
use Rattle.ped_eval.specs.declared.states.RunError.TheVariants as error
use Rattle.ped_eval.proofs.Moments.{next_statement}
use Rattle.ped_eval.proofs.Agreements.{agrees_put, agrees_later, is_past}
use Rattle.ped_eval.proofs.Endings.{assignment_goes, assignment_fails}
use Rattle.ped_eval.proofs.Evaluations.{target_variable, variable_past, kept_assigned}

stands_by : (f : Frame) (fs : Scope) (x : List ℕ) (stands : Cell → Bool) (b : Bool) → is_among x f.private ≡ b → (is_among x f.private ≡ true → stands (Private x (path_of (f ∷ fs))) ≡ true) → stands (cell_of fs x) ≡ true
    → stands (if b then Private x (path_of (f ∷ fs)) else cell_of fs x) ≡ true
stands_by f fs x stands true e h k = h e
stands_by f fs x stands false e h k = k

-- the cell of a scalar stands where the scalar does and the copies of the iterations do
pub cell_stands : (scope : Scope) (x : List ℕ) (stands : Cell → Bool) → stands (Scalar x) ≡ true → DoCopiesStand scope stands → stands (cell_of scope x) ≡ true
cell_stands [] x stands h k = h
cell_stands (f ∷ fs) x stands h k = stands_by f fs x stands (is_among x f.private) refl (k.0 x) (cell_stands fs x stands h k.1)

-- what may be assigned or read in stands
pub named_stands : (table : Table) (scope : Scope) (m : Memory) (e : ExprTree) (c : Cell) → IsReady table scope m → target_is_right (kinds_by table) e ≡ true → IsNamedBy scope e c → m.stands c ≡ true
named_stands table scope m (Int n) c ready right named = absurd named
named_stands table scope m (Var x) c ready right named = ap m.stands named ∙ cell_stands scope x m.stands (ready.scalars x right) ready.copies
named_stands table scope m (tree.Element x subscripts) c ready right named =
    let js : List ℤ = named.0 in
    let count : length js ≡ expr_count subscripts = named.1 in
    let p = and_parts (has_rank (kinds_by table) (expr_count subscripts) x && is_rank (expr_count subscripts)) (exprs_are_right (kinds_by table) subscripts) right in
    let q = and_parts (has_rank (kinds_by table) (expr_count subscripts) x) (is_rank (expr_count subscripts)) p.0 in
    ap m.stands named.2 ∙ ready.elements x js (ap (λ (n : ℕ). has_rank (kinds_by table) n x) count ∙ q.0) (ap is_rank count ∙ q.1)
named_stands table scope m (Neg a) c ready right named = absurd named
named_stands table scope m (Add a b) c ready right named = absurd named
named_stands table scope m (Sub a b) c ready right named = absurd named
named_stands table scope m (Mul a b) c ready right named = absurd named
named_stands table scope m (Div a b) c ready right named = absurd named
named_stands table scope m (Pow a b) c ready right named = absurd named
named_stands table scope m (Call f arguments) c ready right named = absurd named

-- a write leaves all that can be written standing
pub ready_with : (table : Table) (scope : Scope) (c : Cell) (v : Content) (m : Memory) → IsReady table scope m → IsReady table scope (with_content c v m)
ready_with table scope c v m h = record { bounds = h.bounds; scalars = h.scalars; elements = h.elements; copies = h.copies }

-- the number has been stored in the cell, which lies within its bounds
pub record IsStored (c : Cell) (v : ℤ) (place : Result Cell ℕ) (m new : Memory) : Type 0 where
  pub within : place ≡ Ok c
  pub number : ℤ
  pub right : storable v ≡ Ok number
  pub new_is : new ≡ with_content c (Number number) m

number_by : (c : Cell) (v : ℤ) (place : Result Cell ℕ) (m new : Memory) (r : Result ℤ ℕ) → storable v ≡ r → place ≡ Ok c → (r >>= λ k. Ok (with_content c (Number k) m)) ≡ Ok new → IsStored c v place m new
number_by c v place m new (Ok n) e p h = let q : with_content c (Number n) m ≡ new = cc in record { within = p; number = n; right = e; new_is = sym q }
number_by c v place m new (Err n) e p h = absurd cc

within_by : (x : List ℕ) (js : List ℤ) (v : ℤ) (m new : Memory) (b : Bool) → (if b then with_number (Element x js) v m else Err outside_bounds) ≡ Ok new
    → IsStored (Element x js) v (if b then Ok (Element x js) else Err outside_bounds) m new
within_by x js v m new true h = number_by (Element x js) v (Ok (Element x js)) m new (storable v) refl refl h
within_by x js v m new false h = absurd cc

pub stored_is : (c : Cell) (v : ℤ) (m new : Memory) → stored c v m ≡ Ok new → IsStored c v (bounded m c) m new
stored_is (Scalar x) v m new h = number_by (Scalar x) v (Ok (Scalar x)) m new (storable v) refl refl h
stored_is (Element x js) v m new h = within_by x js v m new (is_within (m.bounds x) js) h
stored_is (Private x path) v m new h = number_by (Private x path) v (Ok (Private x path)) m new (storable v) refl refl h
stored_is In v m new h = number_by In v (Ok In) m new (storable v) refl refl h
stored_is Out v m new h = number_by Out v (Ok Out) m new (storable v) refl refl h

-- the number hasn't been stored: the cell lies outside its bounds, or the number out of its range
abbrev pub IsUnstored : Cell → ℤ → Result Cell ℕ → ℕ → Type 0
IsUnstored c v place n = (place ≡ Err n) ⊎ ((place ≡ Ok c) × (storable v ≡ Err n))

fault_by : (c : Cell) (v : ℤ) (place : Result Cell ℕ) (m : Memory) (n : ℕ) (r : Result ℤ ℕ) → storable v ≡ r → place ≡ Ok c → (r >>= λ k. Ok (with_content c (Number k) m)) ≡ Err n → IsUnstored c v place n
fault_by c v place m n (Ok k) e p h = absurd cc
fault_by c v place m n (Err k) e p h = let q : k ≡ n = cc in inr (p, e ∙ ap Err q)

outside_by : (x : List ℕ) (js : List ℤ) (v : ℤ) (m : Memory) (n : ℕ) (b : Bool) → (if b then with_number (Element x js) v m else Err outside_bounds) ≡ Err n
    → IsUnstored (Element x js) v (if b then Ok (Element x js) else Err outside_bounds) n
outside_by x js v m n true h = fault_by (Element x js) v (Ok (Element x js)) m n (storable v) refl refl h
outside_by x js v m n false h = let q : outside_bounds ≡ n = cc in inl (ap Err q)

pub unstored_is : (c : Cell) (v : ℤ) (m : Memory) (n : ℕ) → stored c v m ≡ Err n → IsUnstored c v (bounded m c) n
unstored_is (Scalar x) v m n h = fault_by (Scalar x) v (Ok (Scalar x)) m n (storable v) refl refl h
unstored_is (Element x js) v m n h = outside_by x js v m n (is_within (m.bounds x) js) h
unstored_is (Private x path) v m n h = fault_by (Private x path) v (Ok (Private x path)) m n (storable v) refl refl h
unstored_is In v m n h = fault_by In v (Ok In) m n (storable v) refl refl h
unstored_is Out v m n h = fault_by Out v (Ok Out) m n (storable v) refl refl h

-- what an assignment stores, from its steps
abbrev pub of_number : Cell → Result ℤ ℕ → Result Stored ℕ
of_number c r = (onward [] r (λ n. given (Ok (record { cell = c; number = n })))).result

abbrev of_target : ℤ → List Seen → Result Cell ℕ → Result Stored ℕ
of_target v seen r = (onward seen r (λ c. given (storable v) >>> λ n. given (Ok (record { cell = c; number = n })))).result

abbrev of_value : Names → ExprTree → Store → List Seen → Result ℤ ℕ → Result Stored ℕ
of_value g left s seen r = (onward seen r (λ v. target g left s >>> λ c. given (storable v) >>> λ n. given (Ok (record { cell = c; number = n })))).result

module _ (g : Names) (left right : ExprTree) (s : Store) where
  pub assigned_value : (n : ℕ) → (value g right s).result ≡ Err n → (assigned g left right s).result ≡ Err n
  assigned_value n h = ap (of_value g left s (value g right s).seen) h

  pub assigned_place : (v : ℤ) (n : ℕ) → (value g right s).result ≡ Ok v → (target g left s).result ≡ Err n → (assigned g left right s).result ≡ Err n
  assigned_place v n h k = ap (of_value g left s (value g right s).seen) h ∙ ap (of_target v (target g left s).seen) k

  assigned_number : (v : ℤ) (c : Cell) → (value g right s).result ≡ Ok v → (target g left s).result ≡ Ok c → (assigned g left right s).result ≡ of_number c (storable v)
  assigned_number v c h k = ap (of_value g left s (value g right s).seen) h ∙ ap (of_target v (target g left s).seen) k

module _ (g : Names) (left right : ExprTree) (m : Memory) (v : ℤ) (c : Cell) (h : (value g right m.cells).result ≡ Ok v) (k : (target g left m.cells).result ≡ bounded m c) where
  -- what has been stored is what the assignment stores
  pub assigned_stored : (new : Memory) → stored c v m ≡ Ok new → (w : Stored) × ((assigned g left right m.cells).result ≡ Ok w) × (new ≡ with_content w.cell (Number w.number) m)
  assigned_stored new e =
      let t = stored_is c v m new e in
      (record { cell = c; number = t.number }, assigned_number g left right m.cells v c h (k ∙ t.within) ∙ ap (of_number c) t.right, t.new_is)

  pub assigned_cell : (new : Memory) (e : stored c v m ≡ Ok new) → c ≡ (assigned_stored new e).0.cell
  unfolding assigned_stored
  assigned_cell new e = refl

  unstored_by : (n : ℕ) → IsUnstored c v (bounded m c) n → (assigned g left right m.cells).result ≡ Err n
  unstored_by n (inl e) = assigned_place g left right m.cells v n h (k ∙ e)
  unstored_by n (inr e) = assigned_number g left right m.cells v c h (k ∙ e.0) ∙ ap (of_number c) e.1

  -- the fault of the store is that of the assignment
  pub assigned_unstored : (n : ℕ) → stored c v m ≡ Err n → (assigned g left right m.cells).result ≡ Err n
  assigned_unstored n e = unstored_by n (unstored_is c v m n e)

number_cell : (c : Cell) (r : Result ℤ ℕ) (w : Stored) → of_number c r ≡ Ok w → c ≡ w.cell
number_cell c (Ok n) w h = let e : record { cell = c; number = n } ≡ w = cc in ap (λ (u : Stored). u.cell) e
number_cell c (Err n) w h = absurd cc

target_cell_by : (v : ℤ) (seen : List Seen) (r : Result Cell ℕ) (w : Stored) → of_target v seen r ≡ Ok w → r ≡ Ok w.cell
target_cell_by v seen (Ok c) w h = ap Ok (number_cell c (storable v) w h)
target_cell_by v seen (Err n) w h = absurd cc

value_cell_by : (g : Names) (left : ExprTree) (s : Store) (seen : List Seen) (r : Result ℤ ℕ) (w : Stored) → of_value g left s seen r ≡ Ok w → (target g left s).result ≡ Ok w.cell
value_cell_by g left s seen (Ok v) w h = target_cell_by v (target g left s).seen (target g left s).result w h
value_cell_by g left s seen (Err n) w h = absurd cc

-- what is assigned is the left side
pub assigned_target : (g : Names) (left right : ExprTree) (s : Store) (w : Stored) → (assigned g left right s).result ≡ Ok w → (target g left s).result ≡ Ok w.cell
assigned_target g left right s w h = value_cell_by g left s (value g right s).seen (value g right s).result w h

module _ (table : Table) (scope : Scope) (n : ℕ) (left right : ExprTree) (m : Memory) (ready : IsReady table scope m) where
  kept : (s : Store) → Agrees scope (before scope n) m.cells s → (assigned (names_in (setting_by table) scope) left right s).result ≡ (assigned (names_at m scope table.constants) left right m.cells).result
  kept s g = sym (ap (λ a. a.result) (kept_assigned (setting_by table) scope m s ready.bounds g.same left right))

  -- an assignment that has stored a number goes on
  pub assignment_ran : (new : Memory) (w : Stored) → (assigned (names_at m scope table.constants) left right m.cells).result ≡ Ok w → new ≡ with_content w.cell (Number w.number) m
      → Ran scope n m (n + 1) (Ok flow.Going) new (run (setting_by table) (Assign left right) n scope)
  assignment_ran new w h q s g =
      let e : (assigned (names_in (setting_by table) scope) left right s).result ≡ Ok w = kept s g ∙ h in
      let past : is_past (before scope n) w.cell ≡ true =
      variable_past (setting_by table) scope n w.cell (target_variable (names_in (setting_by table) scope) left s w.cell (assigned_target (names_in (setting_by table) scope) left right s w e)) in
      let after : Agrees scope (before scope (n + 1)) (put w.cell (Number w.number) m.cells) (put w.cell (Number w.number) s) =
      agrees_later scope (before scope n) (before scope (n + 1)) (put w.cell (Number w.number) m.cells) (put w.cell (Number w.number) s) (next_statement scope n 1)
      (agrees_put scope (before scope n) w.cell (Number w.number) m.cells s past g) in
      subst (λ (x : Ending). Goes scope (before scope (n + 1)) new.cells x) (sym (assignment_goes (names_in (setting_by table) scope) (place_of (setting_by table) n scope) left right s w e))
      (subst (λ (k : Memory). Agrees scope (before scope (n + 1)) k.cells (put w.cell (Number w.number) s)) (sym q) after)

  -- a fault of an assignment ends its run
  pub assignment_failed : (new : Memory) (k : ℕ) → (assigned (names_at m scope table.constants) left right m.cells).result ≡ Err k
      → Ran scope n m (n + 1) (Err (error.Fault k n)) new (run (setting_by table) (Assign left right) n scope)
  assignment_failed new k h s g =
      let e : (assigned (names_in (setting_by table) scope) left right s).result ≡ Err k = kept s g ∙ h in
      subst (λ (x : Ending). Fails k n x) (sym (assignment_fails (names_in (setting_by table) scope) (place_of (setting_by table) n scope) left right s k e)) (refl, refl)
