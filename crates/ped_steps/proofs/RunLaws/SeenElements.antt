-- Which cells an evaluation sees, and which it comes to: of the elements of arrays those within the bounds.
use Rattle.std.proofs.Common.{◌≡◌, ℕ, ℤ, List, [], ◌∷◌, ◌++◌, Bool, true, false, Option, Some, None, Result, Ok, Err, if◌then◌else◌, refl}
use Rattle.std.specs.Prelude.{◌&&◌, length}
use Rattle.ped_tree.specs.Constants.NamedConstants.{value_named}
use Rattle.ped_tree.specs.Tree.{ExprTree, ExprTrees, Int, Var, Element, Neg, Add, Sub, Mul, Div, Pow, Call, no_exprs, more_exprs, CondTree, Rel, Not, And, Or, ItemTree, Value, Text, Head}
use Rattle.ped_weaves.specs.ped_store.specs.Cells as cells
use Rattle.ped_weaves.specs.ped_store.specs.Cells.{Cell}
use Rattle.ped_weaves.specs.ped_store.specs.Stores.{Store, outside_bounds, storable}
use Rattle.ped_weaves.specs.ped_store.specs.Storage.{is_within}
use Rattle.ped_weaves.specs.ped_eval.specs.Scopes.{Names}
use Rattle.ped_weaves.specs.ped_eval.specs.Evaluation.{Seen, cell_seen, index_seen, Evaluated, onward, ◌>>>◌, given, read_cell}
use Rattle.ped_weaves.specs.ped_eval.specs.Values.{variable_value, name_value, is_rank, element_cell, value, values, truth, target}
use Rattle.ped_weaves.specs.ped_eval.specs.Statements.{Stored, assigned, item_text, item_texts, printed_line}
use Rattle.ped_weaves.specs.ped_eval.specs.Loops.{in_bounds, limits}
use Rattle.ped_weaves.specs.ped_laws.proofs.RunLaws.SeenCells.{AllSeen, OfResult}

module _ (P : Cell → Type 0) where
  append_seen : (xs ys : List Seen) → AllSeen P xs → AllSeen P ys → AllSeen P (xs ++ ys)
  append_seen [] ys h k = k
  append_seen (cell_seen c content ∷ xs) ys h k = (h.0, append_seen xs ys h.1 k)
  append_seen (index_seen c v ∷ xs) ys h k = (h.0, append_seen xs ys h.1 k)

  onward_seen : {A B : Type 0} (seen : List Seen) (r : Result A ℕ) (f : A → Evaluated B) → AllSeen P seen → ((x : A) → AllSeen P (f x).seen) → AllSeen P (onward seen r f).seen
  onward_seen seen (Ok x) f h k = append_seen seen (f x).seen h (k x)
  onward_seen seen (Err n) f h k = h

  then_seen : {A B : Type 0} (e : Evaluated A) (f : A → Evaluated B) → AllSeen P e.seen → ((x : A) → AllSeen P (f x).seen) → AllSeen P (e >>> f).seen
  then_seen e f h k = onward_seen e.seen e.result f h k

  one_seen : {A B : Type 0} (f : A → Result B ℕ) (a : Evaluated A) → AllSeen P a.seen → AllSeen P (a >>> λ u. given (f u)).seen
  one_seen f a h = then_seen a (λ u. given (f u)) h (λ u. tt)

  two_seen : {A B C : Type 0} (f : A → B → Result C ℕ) (a : Evaluated A) (b : Evaluated B) → AllSeen P a.seen → AllSeen P b.seen → AllSeen P (a >>> λ u. b >>> λ v. given (f u v)).seen
  two_seen f a b h k = then_seen a (λ u. b >>> λ v. given (f u v)) h (λ u. one_seen (f u) b k)

  module _ (g : Names) (scalars : (x : List ℕ) → P (g.cell x)) (elements : (x : List ℕ) (js : List ℤ) → (is_rank (length js) && is_within (g.bounds x) js) ≡ true → P (cells.Element x js)) where
    variable_seen : (v : Option ℤ) (x : List ℕ) (s : Store) → AllSeen P (variable_value v s (g.cell x)).seen
    variable_seen (Some n) x s = (scalars x, tt)
    variable_seen None x s = (scalars x, tt)

    name_seen : (v : Option ℤ) (x : List ℕ) (s : Store) → AllSeen P (name_value v g x s).seen
    name_seen (Some n) x s = tt
    name_seen None x s = variable_seen (g.index x) x s

    element_seen : (x : List ℕ) (js : List ℤ) (s : Store) (b : Bool) → (is_rank (length js) && is_within (g.bounds x) js) ≡ b → AllSeen P (given (if b then Ok (cells.Element x js) else Err outside_bounds) >>> read_cell s).seen
    element_seen x js s true e = (elements x js e, tt)
    element_seen x js s false e = tt

    mutual
      pub value_seen : (e : ExprTree) (s : Store) → AllSeen P (value g e s).seen
      value_seen (Int n) s = tt
      value_seen (Var x) s = name_seen (value_named g.constants x) x s
      value_seen (Element x es) s =
          then_seen (values g es s) (λ js. given (element_cell g x js) >>> read_cell s) (values_seen es s) (λ js. element_seen x js s (is_rank (length js) && is_within (g.bounds x) js) refl)
      value_seen (Neg a) s = one_seen _ (value g a s) (value_seen a s)
      value_seen (Add a b) s = two_seen _ (value g a s) (value g b s) (value_seen a s) (value_seen b s)
      value_seen (Sub a b) s = two_seen _ (value g a s) (value g b s) (value_seen a s) (value_seen b s)
      value_seen (Mul a b) s = two_seen _ (value g a s) (value g b s) (value_seen a s) (value_seen b s)
      value_seen (Div a b) s = two_seen _ (value g a s) (value g b s) (value_seen a s) (value_seen b s)
      value_seen (Pow a b) s = two_seen _ (value g a s) (value g b s) (value_seen a s) (value_seen b s)
      value_seen (Call f es) s = one_seen _ (values g es s) (values_seen es s)

      pub values_seen : (es : ExprTrees) (s : Store) → AllSeen P (values g es s).seen
      values_seen no_exprs s = tt
      values_seen (more_exprs e rest) s = two_seen _ (value g e s) (values g rest s) (value_seen e s) (values_seen rest s)

    pub truth_seen : (c : CondTree) (s : Store) → AllSeen P (truth g c s).seen
    truth_seen (Rel r a b) s = two_seen _ (value g a s) (value g b s) (value_seen a s) (value_seen b s)
    truth_seen (Not a) s = one_seen _ (truth g a s) (truth_seen a s)
    truth_seen (And a b) s = two_seen _ (truth g a s) (truth g b s) (truth_seen a s) (truth_seen b s)
    truth_seen (Or a b) s = two_seen _ (truth g a s) (truth g b s) (truth_seen a s) (truth_seen b s)

    pub target_seen : (e : ExprTree) (s : Store) → AllSeen P (target g e s).seen
    target_seen (Var x) s = tt
    target_seen (Element x es) s = one_seen (element_cell g x) (values g es s) (values_seen es s)
    target_seen (Int n) s = tt
    target_seen (Neg a) s = tt
    target_seen (Add a b) s = tt
    target_seen (Sub a b) s = tt
    target_seen (Mul a b) s = tt
    target_seen (Div a b) s = tt
    target_seen (Pow a b) s = tt
    target_seen (Call f es) s = tt

    element_is : (x : List ℕ) (js : List ℤ) (b : Bool) → (is_rank (length js) && is_within (g.bounds x) js) ≡ b → OfResult P (if b then Ok (cells.Element x js) else Err outside_bounds)
    element_is x js true e = elements x js e
    element_is x js false e = tt

    element_found : (x : List ℕ) (seen : List Seen) (r : Result (List ℤ) ℕ) → OfResult P (onward seen r (λ js. given (element_cell g x js))).result
    element_found x seen (Ok js) = element_is x js (is_rank (length js) && is_within (g.bounds x) js) refl
    element_found x seen (Err n) = tt

    pub target_is : (e : ExprTree) (s : Store) → OfResult P (target g e s).result
    target_is (Var x) s = scalars x
    target_is (Element x es) s = element_found x (values g es s).seen (values g es s).result
    target_is (Int n) s = tt
    target_is (Neg a) s = tt
    target_is (Add a b) s = tt
    target_is (Sub a b) s = tt
    target_is (Mul a b) s = tt
    target_is (Div a b) s = tt
    target_is (Pow a b) s = tt
    target_is (Call f es) s = tt

    text_seen : (item : ItemTree) (s : Store) → AllSeen P (item_text g item s).seen
    text_seen (Value e) s = one_seen _ (value g e s) (value_seen e s)
    text_seen (Text text) s = tt

    texts_seen : (items : List ItemTree) (s : Store) → AllSeen P (item_texts g items s).seen
    texts_seen [] s = tt
    texts_seen (item ∷ rest) s = two_seen _ (item_text g item s) (item_texts g rest s) (text_seen item s) (texts_seen rest s)

    pub line_seen : (items : List ItemTree) (s : Store) → AllSeen P (printed_line g items s).seen
    line_seen items s = one_seen _ (item_texts g items s) (texts_seen items s)

    pub limits_seen : (h : Head) (s : Store) → AllSeen P (limits g h s).seen
    limits_seen h s =
        then_seen (value g h.first s) (λ u. given (in_bounds u) >>> λ m. value g h.last s >>> λ v. given (in_bounds v) >>> λ n. given (Ok (record { first = m; last = n }))) (value_seen h.first s) (λ u.
        then_seen (given (in_bounds u)) (λ m. value g h.last s >>> λ v. given (in_bounds v) >>> λ n. given (Ok (record { first = m; last = n }))) tt (λ m.
        then_seen (value g h.last s) (λ v. given (in_bounds v) >>> λ n. given (Ok (record { first = m; last = n }))) (value_seen h.last s) (λ v.
        one_seen (λ n. Ok (record { first = m; last = n })) (given (in_bounds v)) tt)))

    pub assigned_seen : (left right : ExprTree) (s : Store) → AllSeen P (assigned g left right s).seen
    assigned_seen left right s =
        then_seen (value g right s) (λ v. target g left s >>> λ c. given (storable v) >>> λ n. given (Ok (record { cell = c; number = n }))) (value_seen right s) (λ v.
        then_seen (target g left s) (λ c. given (storable v) >>> λ n. given (Ok (record { cell = c; number = n }))) (target_seen left s) (λ c.
        one_seen (λ n. Ok (record { cell = c; number = n })) (given (storable v)) tt))

    -- the cell that an assignment stores into
    stored_number : (c : Cell) (r : Result ℤ ℕ) → P c → OfResult (λ (w : Stored). P w.cell) (given r >>> λ n. given (Ok (record { cell = c; number = n }))).result
    stored_number c (Ok n) h = h
    stored_number c (Err n) h = tt

    stored_cell : (seen : List Seen) (c : Result Cell ℕ) (v : ℤ) → OfResult P c → OfResult (λ (w : Stored). P w.cell) (onward seen c (λ c. given (storable v) >>> λ n. given (Ok (record { cell = c; number = n })))).result
    stored_cell seen (Ok c) v h = stored_number c (storable v) h
    stored_cell seen (Err n) v h = tt

    stored_value : (left : ExprTree) (s : Store) (seen : List Seen) (r : Result ℤ ℕ)
        → OfResult (λ (w : Stored). P w.cell) (onward seen r (λ v. target g left s >>> λ c. given (storable v) >>> λ n. given (Ok (record { cell = c; number = n })))).result
    stored_value left s seen (Ok v) = stored_cell (target g left s).seen (target g left s).result v (target_is left s)
    stored_value left s seen (Err n) = tt

    pub assigned_is : (left right : ExprTree) (s : Store) → OfResult (λ (w : Stored). P w.cell) (assigned g left right s).result
    assigned_is left right s = stored_value left s (value g right s).seen (value g right s).result
