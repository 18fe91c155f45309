-- What evaluations read of the cells of a scalar.
use Rattle.std.proofs.Common.{◌≡◌, ℕ, ℤ, List, [], ◌∷◌, ◌++◌, Bool, true, false, ◌&&◌, ◌||◌, Option, Some, None, Result, Ok, Err, if◌then◌else◌, refl, sym, ap, subst, ◌∙◌, ◌⊎◌, inl, inr}
use Rattle.std.proofs.lemmas.List.Folds.{list_any-append}
use Rattle.ped_flow.specs.ped_base.specs.Lists.{is_same_text, is_among}
use Rattle.ped_flow.specs.ped_tree.specs.Tree.{ExprTree, ExprTrees, Int, Var, Element, Neg, Add, Sub, Mul, Div, Pow, Call, no_exprs, more_exprs, CondTree, Rel, Not, And, Or, ItemTree, Value, Text}
use Rattle.std.specs.List.{flat_map}
use Rattle.std.proofs.Common.{length}
use Rattle.std.proofs.lemmas.Bool.{or_left, or_right}
use Rattle.ped_flow.specs.ped_base.specs.declared.arithmetic.faults.Fault.{Fault}
use Rattle.ped_flow.specs.ped_base.specs.Arithmetic.Arithmetic.{sum_of, difference_of, product_of, quotient_of, power_of}
use Rattle.ped_flow.specs.ped_tree.specs.Constants.NamedConstants.{value_named}
use Rattle.ped_eval.specs.ped_store.specs.Cells as cells
use Rattle.ped_eval.specs.ped_store.specs.Cells.{Cell, same_cell}
use Rattle.ped_eval.specs.ped_store.specs.Stores.{Store, storable, outside_bounds}
use Rattle.ped_eval.specs.ped_store.specs.Storage.{is_within}
use Rattle.ped_eval.specs.Scopes.{Scope, Setting, names_in, cell_of, index_value}
use Rattle.ped_eval.specs.Evaluation.{by_number, Seen, cell_seen, index_seen, Evaluated, onward, ◌>>>◌, given, read_cell}
use Rattle.ped_eval.specs.Values.{is_rank, binary, relation_holds, value, values, truth, target, name_value, variable_value, element_cell}
use Rattle.ped_eval.specs.Statements.{item_text, item_texts, printed_line, assigned}
use Rattle.ped_eval.specs.Loops.{limits, in_bounds}
use Rattle.ped_flow.specs.ped_tree.specs.Tree.{Head}
use Rattle.ped_flow.specs.Events.{unless_constant, scalars_in, all_scalars_in, scalars_in_cond, scalars_in_item}
use Rattle.ped_laws.proofs.ActLaws.SameCells.{cell_is}
use Rattle.ped_flow.proofs.Truths.{untrue}
use Rattle.ped_laws.specs.FlowRuns.Covering.{is_cell_of}
use Rattle.ped_flow.specs.ped_base.proofs.NameEquality.{same_itself}
use Rattle.ped_laws.proofs.FlowRunLaws.Cells.{stands_for}

-- an evaluation has read the cell
abbrev pub is_seen : Cell → List Seen → Bool
is_seen c [] = false
is_seen c (cell_seen d content ∷ more) = same_cell d c || is_seen c more
is_seen c (index_seen d v ∷ more) = is_seen c more

pub seen_append : (c : Cell) (a b : List Seen) → is_seen c (a ++ b) ≡ true → (is_seen c a ≡ true) ⊎ (is_seen c b ≡ true)
seen_append c [] b h = inr h
seen_append c (cell_seen d content ∷ a) b h = by (same_cell d c) (is_seen c a) (is_seen c (a ++ b)) h (seen_append c a b)
  where
    by : (u v w : Bool) → (u || w) ≡ true → (w ≡ true → (v ≡ true) ⊎ (is_seen c b ≡ true)) → ((u || v) ≡ true) ⊎ (is_seen c b ≡ true)
    by true v w h k = inl refl
    by false v w h k = k h
seen_append c (index_seen d v ∷ a) b h = seen_append c a b h

-- what goes on has read what was read before, or reads it then
pub split_seen : {A B : Type 0} (c : Cell) (a : Evaluated A) (next : A → Evaluated B) → is_seen c (a >>> next).seen ≡ true → (is_seen c a.seen ≡ true) ⊎ ((u : A) × (is_seen c (next u).seen ≡ true))
split_seen {A} {B} c a next h = go a.seen a.result h
  where
    then_ : (seen : List Seen) (u : A) → (is_seen c seen ≡ true) ⊎ (is_seen c (next u).seen ≡ true) → (is_seen c seen ≡ true) ⊎ ((u : A) × (is_seen c (next u).seen ≡ true))
    then_ seen u (inl k) = inl k
    then_ seen u (inr k) = inr (u, k)

    go : (seen : List Seen) (r : Result A ℕ) → is_seen c (onward seen r next).seen ≡ true → (is_seen c seen ≡ true) ⊎ ((u : A) × (is_seen c (next u).seen ≡ true))
    go seen (Ok u) k = then_ seen u (seen_append c seen (next u).seen k)
    go seen (Err n) k = inl k

-- the cell is what the scalar stands for, no place tells its value, and it is one of these names
pub record Saw (S : Scope) (x : List ℕ) (c : Cell) (names : List (List ℕ)) : Type 0 where
  pub cell : c ≡ cell_of S x
  pub untold : index_value S x ≡ None
  pub among : is_among x names ≡ true

pub among_left : (x : List ℕ) (a b : List (List ℕ)) → is_among x a ≡ true → is_among x (a ++ b) ≡ true
among_left x a b h = list_any-append (is_same_text x) a b ∙ or_left (is_among x a) (is_among x b) h

pub among_right : (x : List ℕ) (a b : List (List ℕ)) → is_among x b ≡ true → is_among x (a ++ b) ≡ true
among_right x a b h = list_any-append (is_same_text x) a b ∙ or_right (is_among x a) (is_among x b) h

module _ (S : Scope) (x : List ℕ) (c : Cell) (a b : List (List ℕ)) where
  pub saw_left : Saw S x c a → Saw S x c (a ++ b)
  saw_left h = record { cell = h.cell; untold = h.untold; among = among_left x a b h.among }

  pub saw_right : Saw S x c b → Saw S x c (a ++ b)
  saw_right h = record { cell = h.cell; untold = h.untold; among = among_right x a b h.among }

-- the scalars in the subscripts of a left side
abbrev pub scalars_left : List (List ℕ) → ExprTree → List (List ℕ)
scalars_left constants (Var y) = []
scalars_left constants (Element y es) = all_scalars_in constants es
scalars_left constants (Int n) = []
scalars_left constants (Neg a) = []
scalars_left constants (Add a b) = []
scalars_left constants (Sub a b) = []
scalars_left constants (Mul a b) = []
scalars_left constants (Div a b) = []
scalars_left constants (Pow a b) = []
scalars_left constants (Call f es) = []

module _ (p : Setting) (S : Scope) (constants : List (List ℕ)) (x : List ℕ) (c : Cell) (named : is_cell_of x c ≡ true) (other : is_among x constants ≡ false) (s : Store) where
  itself_among : is_among x (unless_constant constants x) ≡ true
  itself_among = ap (λ (b : Bool). is_among x (if b then [] else x ∷ [])) other ∙ or_left (is_same_text x x) false (same_itself x)

  only : (b : Bool) → (b || false) ≡ true → b ≡ true
  only true h = refl
  only false h = h

  variable_seen : (y : List ℕ) (constant : Option ℤ) (index : Option ℤ) → index_value S y ≡ index → is_seen c (name_value constant (names_in p S) y s).seen ≡ true
      → Saw S x c (unless_constant constants y)
  variable_seen y (Some n) index e h = untrue h
  variable_seen y None (Some v) e h = untrue (ap (λ (o : Option ℤ). is_seen c (variable_value o s (cell_of S y)).seen) (sym e) ∙ h)
  variable_seen y None None e h =
      let seen : (same_cell (cell_of S y) c || false) ≡ true = ap (λ (o : Option ℤ). is_seen c (variable_value o s (cell_of S y)).seen) (sym e) ∙ h in
      let same : same_cell (cell_of S y) c ≡ true = only (same_cell (cell_of S y) c) seen in
      let it : y ≡ x = stands_for S x y c named same in
      record {
        cell = sym (cell_is (cell_of S y) c same) ∙ ap (cell_of S) it;
        untold = ap (index_value S) (sym it) ∙ e;
        among = ap (λ (z : List ℕ). is_among x (unless_constant constants z)) it ∙ itself_among;
      }

  -- an element is no scalar
  element_unseen : (y : List ℕ) (r : Result Cell ℕ) → ((d : Cell) → r ≡ Ok d → same_cell d c ≡ false) → is_seen c (given r >>> read_cell s).seen ≡ false
  element_unseen y (Ok d) h = ap (λ (b : Bool). b || false) (h d refl)
  element_unseen y (Err n) h = refl

  not_element : (y : List ℕ) (js : List ℤ) (d : Cell) → is_cell_of x d ≡ true → same_cell (cells.Element y js) d ≡ false
  not_element y js (cells.Scalar z) h = refl
  not_element y js (cells.Element z ks) h = untrue h
  not_element y js (cells.Private z is) h = refl
  not_element y js cells.In h = untrue h
  not_element y js cells.Out h = untrue h

  cut_element : (y : List ℕ) (js : List ℤ) (d : Cell) (b : Bool) → (if b then Ok (cells.Element y js) else Err outside_bounds) ≡ Ok d → same_cell d c ≡ false
  cut_element y js d true h =
      let e : cells.Element y js ≡ d = cc in
      subst (λ (z : Cell). same_cell z c ≡ false) e (not_element y js c named)
  cut_element y js d false h = absurd cc

  pub element_other : (y : List ℕ) (js : List ℤ) (d : Cell) → element_cell (names_in p S) y js ≡ Ok d → same_cell d c ≡ false
  element_other y js d h = cut_element y js d (is_rank (length js) && is_within (p.bounds y) js) h

  -- what two evaluations have read, one behind the other
  both_seen : {A B C : Type 0} (a : Evaluated A) (b : Evaluated B) (f : A → B → Result C ℕ) (na nb : List (List ℕ)) → (is_seen c a.seen ≡ true → Saw S x c na) → (is_seen c b.seen ≡ true → Saw S x c nb)
      → is_seen c (a >>> λ u. b >>> λ v. given (f u v)).seen ≡ true → Saw S x c (na ++ nb)
  both_seen a b f na nb of_a of_b h = elim (split_seen c a (λ u. b >>> λ v. given (f u v)) h) [
    | inl k ↦ saw_left S x c na nb (of_a k)
    | inr k ↦ elim (split_seen c b (λ v. given (f k.0 v)) k.1) [ inl j ↦ saw_right S x c na nb (of_b j) | inr j ↦ untrue j.1 ]
  ]

  two_seen : (a b : ExprTree) (f : ℤ → ℤ → Result ℤ Fault) → (is_seen c (value (names_in p S) a s).seen ≡ true → Saw S x c (scalars_in constants a)) → (is_seen c (value (names_in p S) b s).seen ≡ true → Saw S x c (scalars_in constants b))
      → is_seen c (binary f (value (names_in p S) a s) (value (names_in p S) b s)).seen ≡ true → Saw S x c (scalars_in constants a ++ scalars_in constants b)
  two_seen a b f of_a of_b h = both_seen (value (names_in p S) a s) (value (names_in p S) b s) (λ u v. by_number (f u v)) (scalars_in constants a) (scalars_in constants b) of_a of_b h

  mutual
    pub value_seen : (e : ExprTree) → is_seen c (value (names_in p S) e s).seen ≡ true → Saw S x c (scalars_in constants e)
    value_seen (Int n) h = untrue h
    value_seen (Var y) h = variable_seen y (value_named p.constants y) (index_value S y) refl h
    value_seen (Element y es) h =
        elim (split_seen c (values (names_in p S) es s) (λ js. given (element_cell (names_in p S) y js) >>> read_cell s) h) [
          | inl k ↦ values_seen es k
          | inr k ↦ untrue (sym (element_unseen y (element_cell (names_in p S) y k.0) (element_other y k.0)) ∙ k.1)
        ]
    value_seen (Neg a) h = elim (split_seen c (value (names_in p S) a s) _ h) [ inl k ↦ value_seen a k | inr k ↦ untrue k.1 ]
    value_seen (Add a b) h = two_seen a b sum_of (λ k. value_seen a k) (λ k. value_seen b k) h
    value_seen (Sub a b) h = two_seen a b difference_of (λ k. value_seen a k) (λ k. value_seen b k) h
    value_seen (Mul a b) h = two_seen a b product_of (λ k. value_seen a k) (λ k. value_seen b k) h
    value_seen (Div a b) h = two_seen a b quotient_of (λ k. value_seen a k) (λ k. value_seen b k) h
    value_seen (Pow a b) h = two_seen a b power_of (λ k. value_seen a k) (λ k. value_seen b k) h
    value_seen (Call f es) h = elim (split_seen c (values (names_in p S) es s) _ h) [ inl k ↦ values_seen es k | inr k ↦ untrue k.1 ]

    pub values_seen : (es : ExprTrees) → is_seen c (values (names_in p S) es s).seen ≡ true → Saw S x c (all_scalars_in constants es)
    values_seen no_exprs h = untrue h
    values_seen (more_exprs e rest) h =
        both_seen (value (names_in p S) e s) (values (names_in p S) rest s) (λ u us. Ok (u ∷ us)) (scalars_in constants e) (all_scalars_in constants rest) (λ k. value_seen e k) (λ k. values_seen rest k) h

  pub truth_seen : (e : CondTree) → is_seen c (truth (names_in p S) e s).seen ≡ true → Saw S x c (scalars_in_cond constants e)
  truth_seen (Rel r a b) h =
      both_seen (value (names_in p S) a s) (value (names_in p S) b s) (λ u v. Ok (relation_holds r u v)) (scalars_in constants a) (scalars_in constants b) (value_seen a) (value_seen b) h
  truth_seen (Not a) h = elim (split_seen c (truth (names_in p S) a s) _ h) [ inl k ↦ truth_seen a k | inr k ↦ untrue k.1 ]
  truth_seen (And a b) h =
      both_seen (truth (names_in p S) a s) (truth (names_in p S) b s) (λ u v. Ok (u && v)) (scalars_in_cond constants a) (scalars_in_cond constants b) (λ k. truth_seen a k) (λ k. truth_seen b k) h
  truth_seen (Or a b) h =
      both_seen (truth (names_in p S) a s) (truth (names_in p S) b s) (λ u v. Ok (u || v)) (scalars_in_cond constants a) (scalars_in_cond constants b) (λ k. truth_seen a k) (λ k. truth_seen b k) h

  text_seen : (i : ItemTree) → is_seen c (item_text (names_in p S) i s).seen ≡ true → Saw S x c (scalars_in_item constants i)
  text_seen (Value e) h = elim (split_seen c (value (names_in p S) e s) _ h) [ inl k ↦ value_seen e k | inr k ↦ untrue k.1 ]
  text_seen (Text t) h = untrue h

  texts_seen : (is : List ItemTree) → is_seen c (item_texts (names_in p S) is s).seen ≡ true → Saw S x c (flat_map (scalars_in_item constants) is)
  texts_seen [] h = untrue h
  texts_seen (i ∷ is) h =
      both_seen (item_text (names_in p S) i s) (item_texts (names_in p S) is s) (λ t ts. Ok (t ∷ ts)) (scalars_in_item constants i) (flat_map (scalars_in_item constants) is) (text_seen i) (λ k. texts_seen is k) h

  pub line_seen : (is : List ItemTree) → is_seen c (printed_line (names_in p S) is s).seen ≡ true → Saw S x c (flat_map (scalars_in_item constants) is)
  line_seen is h = elim (split_seen c (item_texts (names_in p S) is s) _ h) [ inl k ↦ texts_seen is k | inr k ↦ untrue k.1 ]

  pub target_seen : (e : ExprTree) → is_seen c (target (names_in p S) e s).seen ≡ true → Saw S x c (scalars_left constants e)
  target_seen (Var y) h = untrue h
  target_seen (Element y es) h = elim (split_seen c (values (names_in p S) es s) _ h) [ inl k ↦ values_seen es k | inr k ↦ untrue k.1 ]
  target_seen (Int n) h = untrue h
  target_seen (Neg a) h = untrue h
  target_seen (Add a b) h = untrue h
  target_seen (Sub a b) h = untrue h
  target_seen (Mul a b) h = untrue h
  target_seen (Div a b) h = untrue h
  target_seen (Pow a b) h = untrue h
  target_seen (Call f es) h = untrue h

  stored_seen : {A : Type 0} (f : ℤ → A) (r : Result ℤ ℕ) → is_seen c (given r >>> λ n. given (Ok (f n))).seen ≡ true → ⊥
  stored_seen f (Ok n) h = untrue h
  stored_seen f (Err k) h = untrue h

  pub assigned_seen : (left right : ExprTree) → is_seen c (assigned (names_in p S) left right s).seen ≡ true → Saw S x c (scalars_in constants right ++ scalars_left constants left)
  assigned_seen left right h = elim (split_seen c (value (names_in p S) right s) _ h) [
    | inl k ↦ saw_left S x c (scalars_in constants right) (scalars_left constants left) (value_seen right k)
    | inr k ↦ elim (split_seen c (target (names_in p S) left s) _ k.1) [
      | inl j ↦ saw_right S x c (scalars_in constants right) (scalars_left constants left) (target_seen left j)
      | inr j ↦ absurd (stored_seen (λ n. record { cell = j.0; number = n }) (storable k.0) j.1)
    ]
  ]

  pub limits_seen : (h : Head) → is_seen c (limits (names_in p S) h s).seen ≡ true → Saw S x c (scalars_in constants h.first ++ scalars_in constants h.last)
  limits_seen h k = elim (split_seen c (value (names_in p S) h.first s) _ k) [
    | inl j ↦ saw_left S x c (scalars_in constants h.first) (scalars_in constants h.last) (value_seen h.first j)
    | inr j ↦ elim (split_seen c (given (in_bounds j.0)) _ j.1) [
      | inl l ↦ untrue l
      | inr l ↦ elim (split_seen c (value (names_in p S) h.last s) _ l.1) [
        | inl m ↦ saw_right S x c (scalars_in constants h.first) (scalars_in constants h.last) (value_seen h.last m)
        | inr m ↦ elim (split_seen c (given (in_bounds m.0)) _ m.1) [ inl o ↦ untrue o | inr o ↦ untrue o.1 ]
      ]
    ]
  ]
