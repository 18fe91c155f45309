-- What a place tells in an evaluation: the values of the variables of DO loops round it.
use Rattle.std.proofs.Common.{◌≡◌, ℕ, ℤ, List, [], ◌∷◌, ◌++◌, Bool, true, false, refl, Option, Some, None, Result, Ok, Err, if◌then◌else◌}
use Rattle.std.specs.Prelude.{◌&&◌, length}
use Rattle.ped_flow.specs.ped_tree.specs.Constants.NamedConstants.{value_named}
use Rattle.ped_flow.specs.ped_tree.specs.Tree.{ExprTree, ExprTrees, Int, Var, Element, Neg, Add, Sub, Mul, Div, Pow, Call, no_exprs, more_exprs, CondTree, Rel, Not, And, Or, ItemTree, Value, Text, Head}
use Rattle.ped_eval.specs.ped_store.specs.Cells as cells
use Rattle.ped_eval.specs.ped_store.specs.Cells.{Cell}
use Rattle.ped_eval.specs.ped_store.specs.Stores.{Store, outside_bounds, storable}
use Rattle.ped_eval.specs.ped_store.specs.Storage.{is_within}
use Rattle.ped_eval.specs.Scopes.{Names}
use Rattle.ped_eval.specs.Evaluation.{Seen, cell_seen, index_seen, Evaluated, onward, ◌>>>◌, given, read_cell}
use Rattle.ped_eval.specs.Values.{variable_value, name_value, is_rank, element_cell, value, values, truth, target}
use Rattle.ped_eval.specs.Statements.{assigned, item_text, item_texts, printed_line}
use Rattle.ped_eval.specs.Loops.{in_bounds, limits}

-- each cell of which the place tells the value is of this kind
abbrev pub AllTold : (Cell → Type 0) → List Seen → Type 0
AllTold P [] = Unit {0}
AllTold P (cell_seen c content ∷ more) = AllTold P more
AllTold P (index_seen c v ∷ more) = P c × AllTold P more

module _ (P : Cell → Type 0) where
  append_told : (xs ys : List Seen) → AllTold P xs → AllTold P ys → AllTold P (xs ++ ys)
  append_told [] ys h k = k
  append_told (cell_seen c content ∷ xs) ys h k = append_told xs ys h k
  append_told (index_seen c v ∷ xs) ys h k = (h.0, append_told xs ys h.1 k)

  onward_told : {A B : Type 0} (seen : List Seen) (r : Result A ℕ) (f : A → Evaluated B) → AllTold P seen → ((x : A) → AllTold P (f x).seen) → AllTold P (onward seen r f).seen
  onward_told seen (Ok x) f h k = append_told seen (f x).seen h (k x)
  onward_told seen (Err n) f h k = h

  then_told : {A B : Type 0} (e : Evaluated A) (f : A → Evaluated B) → AllTold P e.seen → ((x : A) → AllTold P (f x).seen) → AllTold P (e >>> f).seen
  then_told e f h k = onward_told e.seen e.result f h k

  one_told : {A B : Type 0} (f : A → Result B ℕ) (a : Evaluated A) → AllTold P a.seen → AllTold P (a >>> λ u. given (f u)).seen
  one_told f a h = then_told a (λ u. given (f u)) h (λ u. tt)

  two_told : {A B C : Type 0} (f : A → B → Result C ℕ) (a : Evaluated A) (b : Evaluated B) → AllTold P a.seen → AllTold P b.seen → AllTold P (a >>> λ u. b >>> λ v. given (f u v)).seen
  two_told f a b h k = then_told a (λ u. b >>> λ v. given (f u v)) h (λ u. one_told (f u) b k)

  module _ (g : Names) (indices : (x : List ℕ) (n : ℤ) → g.index x ≡ Some n → P (g.cell x)) where
    variable_told : (v : Option ℤ) (x : List ℕ) (s : Store) → g.index x ≡ v → AllTold P (variable_value v s (g.cell x)).seen
    variable_told (Some n) x s e = (indices x n e, tt)
    variable_told None x s e = tt

    name_told : (v : Option ℤ) (x : List ℕ) (s : Store) → AllTold P (name_value v g x s).seen
    name_told (Some n) x s = tt
    name_told None x s = variable_told (g.index x) x s refl

    element_told : (x : List ℕ) (js : List ℤ) (s : Store) (b : Bool) → AllTold P (given (if b then Ok (cells.Element x js) else Err outside_bounds) >>> read_cell s).seen
    element_told x js s true = tt
    element_told x js s false = tt

    mutual
      value_told : (e : ExprTree) (s : Store) → AllTold P (value g e s).seen
      value_told (Int n) s = tt
      value_told (Var x) s = name_told (value_named g.constants x) x s
      value_told (Element x es) s =
          then_told (values g es s) (λ js. given (element_cell g x js) >>> read_cell s) (values_told es s) (λ js. element_told x js s (is_rank (length js) && is_within (g.bounds x) js))
      value_told (Neg a) s = one_told _ (value g a s) (value_told a s)
      value_told (Add a b) s = two_told _ (value g a s) (value g b s) (value_told a s) (value_told b s)
      value_told (Sub a b) s = two_told _ (value g a s) (value g b s) (value_told a s) (value_told b s)
      value_told (Mul a b) s = two_told _ (value g a s) (value g b s) (value_told a s) (value_told b s)
      value_told (Div a b) s = two_told _ (value g a s) (value g b s) (value_told a s) (value_told b s)
      value_told (Pow a b) s = two_told _ (value g a s) (value g b s) (value_told a s) (value_told b s)
      value_told (Call f es) s = one_told _ (values g es s) (values_told es s)

      values_told : (es : ExprTrees) (s : Store) → AllTold P (values g es s).seen
      values_told no_exprs s = tt
      values_told (more_exprs e rest) s = two_told _ (value g e s) (values g rest s) (value_told e s) (values_told rest s)

    pub truth_told : (c : CondTree) (s : Store) → AllTold P (truth g c s).seen
    truth_told (Rel r a b) s = two_told _ (value g a s) (value g b s) (value_told a s) (value_told b s)
    truth_told (Not a) s = one_told _ (truth g a s) (truth_told a s)
    truth_told (And a b) s = two_told _ (truth g a s) (truth g b s) (truth_told a s) (truth_told b s)
    truth_told (Or a b) s = two_told _ (truth g a s) (truth g b s) (truth_told a s) (truth_told b s)

    pub target_told : (e : ExprTree) (s : Store) → AllTold P (target g e s).seen
    target_told (Var x) s = tt
    target_told (Element x es) s = one_told (element_cell g x) (values g es s) (values_told es s)
    target_told (Int n) s = tt
    target_told (Neg a) s = tt
    target_told (Add a b) s = tt
    target_told (Sub a b) s = tt
    target_told (Mul a b) s = tt
    target_told (Div a b) s = tt
    target_told (Pow a b) s = tt
    target_told (Call f es) s = tt

    text_told : (item : ItemTree) (s : Store) → AllTold P (item_text g item s).seen
    text_told (Value e) s = one_told _ (value g e s) (value_told e s)
    text_told (Text text) s = tt

    texts_told : (items : List ItemTree) (s : Store) → AllTold P (item_texts g items s).seen
    texts_told [] s = tt
    texts_told (item ∷ rest) s = two_told _ (item_text g item s) (item_texts g rest s) (text_told item s) (texts_told rest s)

    pub line_told : (items : List ItemTree) (s : Store) → AllTold P (printed_line g items s).seen
    line_told items s = one_told _ (item_texts g items s) (texts_told items s)

    pub limits_told : (h : Head) (s : Store) → AllTold P (limits g h s).seen
    limits_told h s =
        then_told (value g h.first s) (λ u. given (in_bounds u) >>> λ m. value g h.last s >>> λ v. given (in_bounds v) >>> λ n. given (Ok (record { first = m; last = n }))) (value_told h.first s) (λ u.
        then_told (given (in_bounds u)) (λ m. value g h.last s >>> λ v. given (in_bounds v) >>> λ n. given (Ok (record { first = m; last = n }))) tt (λ m.
        then_told (value g h.last s) (λ v. given (in_bounds v) >>> λ n. given (Ok (record { first = m; last = n }))) (value_told h.last s) (λ v.
        one_told (λ n. Ok (record { first = m; last = n })) (given (in_bounds v)) tt)))

    pub assigned_told : (left right : ExprTree) (s : Store) → AllTold P (assigned g left right s).seen
    assigned_told left right s =
        then_told (value g right s) (λ v. target g left s >>> λ c. given (storable v) >>> λ n. given (Ok (record { cell = c; number = n }))) (value_told right s) (λ v.
        then_told (target g left s) (λ c. given (storable v) >>> λ n. given (Ok (record { cell = c; number = n }))) (target_told left s) (λ c.
        one_told (λ n. Ok (record { cell = c; number = n })) (given (storable v)) tt))
