-- What an evaluation sees tells what it comes to.
use Rattle.std.proofs.Common.{◌≡◌, ℕ, ℤ, pos, List, [], ◌∷◌, ◌++◌, Option, Some, None, Result, Ok, Err, refl, ap, ◌∙◌}
use Rattle.std.specs.Prelude.{not, ◌&&◌, ◌||◌}
use Rattle.std.specs.List.{join_with_byte}
use Rattle.std.specs.Fmt.{signed_decimal}
use Rattle.ped_flow.specs.ped_base.specs.Arithmetic.Arithmetic.{sum_of, difference_of, negation_of, product_of, quotient_of, power_of}
use Rattle.ped_flow.specs.ped_tree.specs.Constants.NamedConstants.{value_named}
use Rattle.ped_flow.specs.ped_tree.specs.Constants.ConstantExpressions.{intrinsic_result}
use Rattle.ped_flow.specs.ped_tree.specs.Tree.{ExprTree, ExprTrees, Int, Var, Element, Neg, Add, Sub, Mul, Div, Pow, Call, no_exprs, more_exprs, CondTree, Rel, Not, And, Or, ItemTree, Value, Text, Head}
use Rattle.ped_eval.specs.ped_store.specs.Cells.{Cell}
use Rattle.ped_eval.specs.ped_store.specs.Stores.{Store, number_read, storable, outside_bounds}
use Rattle.ped_eval.specs.Scopes.{Names}
use Rattle.ped_eval.specs.Evaluation.{Seen, cell_seen, index_seen, Evaluated, having_seen, onward, ◌>>>◌, given, by_number, read_cell, read_index}
use Rattle.ped_eval.specs.Values.{of_intrinsic, variable_value, name_value, element_cell, value, values, relation_holds, truth, target}
use Rattle.ped_eval.specs.Statements.{assigned, item_text, item_texts, printed_line}
use Rattle.ped_eval.specs.Loops.{in_bounds, limits}
use Rattle.ped_laws.specs.Runs.Seeing.{Holds, IsToldBySight}

pub holds_append : (s : Store) (xs ys : List Seen) → Holds s xs → Holds s ys → Holds s (xs ++ ys)
holds_append s [] ys h k = k
holds_append s (cell_seen c content ∷ xs) ys h k = (h.0, holds_append s xs ys h.1 k)
holds_append s (index_seen c v ∷ xs) ys h k = holds_append s xs ys h k

pub holds_first : (s : Store) (xs ys : List Seen) → Holds s (xs ++ ys) → Holds s xs
holds_first s [] ys h = tt
holds_first s (cell_seen c content ∷ xs) ys h = (h.0, holds_first s xs ys h.1)
holds_first s (index_seen c v ∷ xs) ys h = holds_first s xs ys h

pub holds_rest : (s : Store) (xs ys : List Seen) → Holds s (xs ++ ys) → Holds s ys
holds_rest s [] ys h = h
holds_rest s (cell_seen c content ∷ xs) ys h = holds_rest s xs ys h.1
holds_rest s (index_seen c v ∷ xs) ys h = holds_rest s xs ys h

-- a result for which nothing is seen
given_told : {A : Type 0} (r : Result A ℕ) → IsToldBySight (λ (s : Store). given r)
given_told r = record { holds = λ s. tt; comes = λ s u h. refl }

-- the read of a cell, and that of the variable of a DO
read_told : (c : Cell) → IsToldBySight (λ s. read_cell s c)
read_told c = record {
  holds = λ s. (refl, tt);
  comes = λ s u h i. record { seen = cell_seen c (h.0 i) ∷ []; result = number_read (h.0 i) };
}

index_told : (c : Cell) (n : ℤ) → IsToldBySight (λ (s : Store). read_index c n)
index_told c n = record { holds = λ s. tt; comes = λ s u h. refl }

-- an evaluation that goes on
module _ {A B : Type 0} (f : A → Store → Evaluated B) (next : (x : A) → IsToldBySight (f x)) where
  onward_holds : (s : Store) (seen : List Seen) (r : Result A ℕ) → Holds s seen → Holds s (onward seen r (λ x. f x s)).seen
  onward_holds s seen (Ok x) h = holds_append s seen (f x s).seen h ((next x).holds s)
  onward_holds s seen (Err n) h = h

  onward_comes : (s u : Store) (seen : List Seen) (r : Result A ℕ) (e : Evaluated A) → (Holds u seen → e ≡ record { seen = seen; result = r }) → Holds u (onward seen r (λ x. f x s)).seen
      → onward e.seen e.result (λ x. f x u) ≡ record { seen = (onward seen r (λ x. f x s)).seen; result = (onward seen r (λ x. f x s)).result }
  onward_comes s u seen (Ok x) e same h =
      ap (λ (z : Evaluated A). onward z.seen z.result (λ x. f x u)) (same (holds_first u seen (f x s).seen h))
      ∙ ap (having_seen seen) ((next x).comes s u (holds_rest u seen (f x s).seen h))
  onward_comes s u seen (Err n) e same h = ap (λ (z : Evaluated A). onward z.seen z.result (λ x. f x u)) (same h)

  pub then_told : (e : Store → Evaluated A) → IsToldBySight e → IsToldBySight (λ s. e s >>> λ x. f x s)
  then_told e told = record {
    holds = λ s. onward_holds s (e s).seen (e s).result (told.holds s);
    comes = λ s u. onward_comes s u (e s).seen (e s).result (e u) (told.comes s u);
  }

-- operations on one value and on two
one_told : {A B : Type 0} (f : A → Result B ℕ) (a : Store → Evaluated A) → IsToldBySight a → IsToldBySight (λ s. a s >>> λ u. given (f u))
one_told f a h = then_told (λ u s. given (f u)) (λ u. given_told (f u)) a h

two_told : {A B C : Type 0} (f : A → B → Result C ℕ) (a : Store → Evaluated A) (b : Store → Evaluated B) → IsToldBySight a → IsToldBySight b → IsToldBySight (λ s. a s >>> λ u. b s >>> λ v. given (f u v))
two_told f a b h k = then_told (λ u s. b s >>> λ v. given (f u v)) (λ u. one_told (f u) b k) a h

variable_told : (v : Option ℤ) (c : Cell) → IsToldBySight (λ s. variable_value v s c)
variable_told (Some n) c = index_told c n
variable_told None c = read_told c

name_told : (v : Option ℤ) (g : Names) (x : List ℕ) → IsToldBySight (name_value v g x)
name_told (Some n) g x = given_told (Ok n)
name_told None g x = variable_told (g.index x) (g.cell x)

mutual
  pub value_told : (g : Names) (e : ExprTree) → IsToldBySight (value g e)
  value_told g (Int n) = given_told (Ok (pos n))
  value_told g (Var x) = name_told (value_named g.constants x) g x
  value_told g (Element x es) =
      then_told (λ js s. given (element_cell g x js) >>> read_cell s)
      (λ js. then_told (λ c s. read_cell s c) read_told (λ s. given (element_cell g x js)) (given_told (element_cell g x js)))
      (values g es) (values_told g es)
  value_told g (Neg a) = one_told (λ u. by_number (negation_of u)) (value g a) (value_told g a)
  value_told g (Add a b) = two_told (λ u v. by_number (sum_of u v)) (value g a) (value g b) (value_told g a) (value_told g b)
  value_told g (Sub a b) = two_told (λ u v. by_number (difference_of u v)) (value g a) (value g b) (value_told g a) (value_told g b)
  value_told g (Mul a b) = two_told (λ u v. by_number (product_of u v)) (value g a) (value g b) (value_told g a) (value_told g b)
  value_told g (Div a b) = two_told (λ u v. by_number (quotient_of u v)) (value g a) (value g b) (value_told g a) (value_told g b)
  value_told g (Pow a b) = two_told (λ u v. by_number (power_of u v)) (value g a) (value g b) (value_told g a) (value_told g b)
  value_told g (Call f es) = one_told (λ us. of_intrinsic (intrinsic_result f us)) (values g es) (values_told g es)

  pub values_told : (g : Names) (es : ExprTrees) → IsToldBySight (values g es)
  values_told g no_exprs = given_told (Ok [])
  values_told g (more_exprs e rest) = two_told (λ u us. Ok (u ∷ us)) (value g e) (values g rest) (value_told g e) (values_told g rest)

pub truth_told : (g : Names) (c : CondTree) → IsToldBySight (truth g c)
truth_told g (Rel r a b) = two_told (λ u v. Ok (relation_holds r u v)) (value g a) (value g b) (value_told g a) (value_told g b)
truth_told g (Not a) = one_told (λ u. Ok (not u)) (truth g a) (truth_told g a)
truth_told g (And a b) = two_told (λ u v. Ok (u && v)) (truth g a) (truth g b) (truth_told g a) (truth_told g b)
truth_told g (Or a b) = two_told (λ u v. Ok (u || v)) (truth g a) (truth g b) (truth_told g a) (truth_told g b)

pub target_told : (g : Names) (e : ExprTree) → IsToldBySight (target g e)
target_told g (Var x) = given_told (Ok (g.cell x))
target_told g (Element x es) = one_told (element_cell g x) (values g es) (values_told g es)
target_told g (Int n) = given_told (Err outside_bounds)
target_told g (Neg a) = given_told (Err outside_bounds)
target_told g (Add a b) = given_told (Err outside_bounds)
target_told g (Sub a b) = given_told (Err outside_bounds)
target_told g (Mul a b) = given_told (Err outside_bounds)
target_told g (Div a b) = given_told (Err outside_bounds)
target_told g (Pow a b) = given_told (Err outside_bounds)
target_told g (Call f es) = given_told (Err outside_bounds)

pub assigned_told : (g : Names) (left right : ExprTree) → IsToldBySight (assigned g left right)
assigned_told g left right =
    then_told (λ v s. target g left s >>> λ c. given (storable v) >>> λ n. given (Ok (record { cell = c; number = n })))
    (λ v. then_told (λ c s. given (storable v) >>> λ n. given (Ok (record { cell = c; number = n })))
    (λ c. one_told (λ n. Ok (record { cell = c; number = n })) (λ s. given (storable v)) (given_told (storable v)))
    (target g left) (target_told g left))
    (value g right) (value_told g right)

text_told : (g : Names) (item : ItemTree) → IsToldBySight (item_text g item)
text_told g (Value e) = one_told (λ n. Ok (signed_decimal n)) (value g e) (value_told g e)
text_told g (Text text) = given_told (Ok text)

texts_told : (g : Names) (items : List ItemTree) → IsToldBySight (item_texts g items)
texts_told g [] = given_told (Ok [])
texts_told g (item ∷ rest) = two_told (λ text texts. Ok (text ∷ texts)) (item_text g item) (item_texts g rest) (text_told g item) (texts_told g rest)

pub line_told : (g : Names) (items : List ItemTree) → IsToldBySight (printed_line g items)
line_told g items = one_told (λ texts. Ok (join_with_byte 32 texts)) (item_texts g items) (texts_told g items)

pub limits_told : (g : Names) (h : Head) → IsToldBySight (limits g h)
limits_told g h =
    then_told (λ u s. given (in_bounds u) >>> λ m. value g h.last s >>> λ v. given (in_bounds v) >>> λ n. given (Ok (record { first = m; last = n })))
    (λ u. then_told (λ m s. value g h.last s >>> λ v. given (in_bounds v) >>> λ n. given (Ok (record { first = m; last = n })))
    (λ m. then_told (λ v s. given (in_bounds v) >>> λ n. given (Ok (record { first = m; last = n })))
    (λ v. one_told (λ n. Ok (record { first = m; last = n })) (λ s. given (in_bounds v)) (given_told (in_bounds v)))
    (value g h.last) (value_told g h.last))
    (λ s. given (in_bounds u)) (given_told (in_bounds u)))
    (value g h.first) (value_told g h.first)
