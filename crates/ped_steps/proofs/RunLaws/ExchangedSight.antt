-- Evaluations on renamed cells.
use Rattle.std.proofs.Common.{◌≡◌, ℕ, suc, ℤ, List, [], ◌∷◌, map, length, Bool, true, false, Option, Some, None, Result, Ok, Err, refl, sym, ap, ◌∙◌, if◌then◌else◌}
use Rattle.std.specs.Prelude.{not, ◌&&◌, ◌||◌}
use Rattle.std.specs.List.{join_with_byte}
use Rattle.std.specs.Fmt.{signed_decimal}
use Rattle.std.proofs.lemmas.List.{map-append}
use Rattle.ped_base.specs.Arithmetic.Arithmetic.{sum_of, difference_of, negation_of, product_of, quotient_of, power_of}
use Rattle.ped_tree.specs.Constants.NamedConstants.{value_named}
use Rattle.ped_tree.specs.Constants.ConstantExpressions.{intrinsic_result}
use Rattle.ped_tree.specs.Tree.{ExprTree, ExprTrees, Int, Var, Element, Neg, Add, Sub, Mul, Div, Pow, Call, no_exprs, more_exprs, CondTree, Rel, Not, And, Or, ItemTree, Value, Text, Head}
use Rattle.ped_weaves.specs.ped_store.specs.Cells as cells
use Rattle.ped_weaves.specs.ped_store.specs.Cells.{Cell}
use Rattle.ped_weaves.specs.ped_store.specs.Storage.{is_within}
use Rattle.ped_weaves.specs.ped_store.specs.Stores.{Number, Store, number_read, storable, outside_bounds}
use Rattle.ped_weaves.specs.ped_store.specs.Acts.{reads, is_told}
use Rattle.ped_weaves.specs.ped_eval.specs.Scopes.{Setting, Scope, Names, names_in}
use Rattle.ped_weaves.specs.ped_eval.specs.Evaluation.{Seen, cell_seen, index_seen, Evaluated, having_seen, onward, ◌>>>◌, given, by_number, read_cell, numbered, number_behind}
use Rattle.ped_weaves.specs.ped_eval.specs.Values.{of_intrinsic, variable_value, name_value, is_rank, element_cell, value, values, relation_holds, truth, target}
use Rattle.ped_weaves.specs.ped_eval.specs.Statements.{Stored, assigned, item_text, item_texts, printed_line}
use Rattle.ped_weaves.specs.ped_eval.specs.Loops.{in_bounds, limits}
use Rattle.ped_steps.specs.Runs.Exchanging.{AreExchanged, exchanged_store, exchanged_touch}

-- what is seen in renamed cells
abbrev pub seen_in : (Cell → Cell) → Seen → Seen
seen_in name (cell_seen c content) = cell_seen (name c) content
seen_in name (index_seen c v) = index_seen (name c) v

-- another result, or the same fault
abbrev pub mapped : {A B : Type 0} → (A → B) → Result A ℕ → Result B ℕ
mapped f (Ok x) = Ok (f x)
mapped f (Err n) = Err n

-- an evaluation that sees renamed cells and comes to another result
abbrev pub seeing : {A B : Type 0} → (Cell → Cell) → (A → B) → Evaluated A → Evaluated B
seeing name f e = record { seen = map (seen_in name) e.seen; result = mapped f e.result }

-- the same (plain words)
abbrev pub itself : {A : Type 0} → A → A
itself x = x

mapped_itself : {A : Type 0} (r : Result A ℕ) → r ≡ mapped itself r
mapped_itself (Ok x) = refl
mapped_itself (Err n) = refl

-- what names stand for, where scalars stand for renamed cells
pub record AreNames (name : Cell → Cell) (g other : Names) : Type 0 where
  pub constants : other.constants ≡ g.constants
  pub bounds : other.bounds ≡ g.bounds
  pub index : (x : List ℕ) → other.index x ≡ g.index x
  pub cell : (x : List ℕ) → other.cell x ≡ name (g.cell x)

pub names_exchanged : (name : Cell → Cell) (p : Setting) (scope other : Scope) → AreExchanged name scope other → AreNames name (names_in p scope) (names_in p other)
names_exchanged name p scope other e = record { constants = refl; bounds = refl; index = e.index; cell = e.cell }

-- reads as touches, and the number behind them
pub numbered_in : (name : Cell → Cell) (n : ℕ) (seen : List Seen) → numbered n (map (seen_in name) seen) ≡ map (exchanged_touch name) (numbered n seen)
numbered_in name n [] = refl
numbered_in name n (cell_seen c content ∷ more) = λ i. record { cell = name c; manner = reads; content = content; reference = n } ∷ numbered_in name (suc n) more i
numbered_in name n (index_seen c v ∷ more) = λ i. record { cell = name c; manner = is_told; content = Number v; reference = 0 } ∷ numbered_in name n more i

pub behind_in : (name : Cell → Cell) (n : ℕ) (seen : List Seen) → number_behind n (map (seen_in name) seen) ≡ number_behind n seen
behind_in name n [] = refl
behind_in name n (cell_seen c content ∷ more) = behind_in name (suc n) more
behind_in name n (index_seen c v ∷ more) = behind_in name n more

module _ (name : Cell → Cell) where
  given_in : {A : Type 0} (r : Result A ℕ) → given r ≡ seeing name itself (given r)
  given_in r = λ i. record { seen = []; result = mapped_itself r i }

  -- an evaluation that goes on
  onward_in : {A B X Y : Type 0} (f : A → X) (h : B → Y) (seen : List Seen) (r : Result A ℕ) (next : A → Evaluated B) (other : X → Evaluated Y)
      → ((x : A) → other (f x) ≡ seeing name h (next x)) → onward (map (seen_in name) seen) (mapped f r) other ≡ seeing name h (onward seen r next)
  onward_in f h seen (Ok x) next other more =
      ap (having_seen (map (seen_in name) seen)) (more x) ∙ (λ i. record { seen = sym (map-append (seen_in name) seen (next x).seen) i; result = mapped h (next x).result })
  onward_in f h seen (Err n) next other more = refl

  pub then_in : {A B X Y : Type 0} (f : A → X) (h : B → Y) (e : Evaluated A) (e_other : Evaluated X) (next : A → Evaluated B) (other : X → Evaluated Y)
      → e_other ≡ seeing name f e → ((x : A) → other (f x) ≡ seeing name h (next x)) → e_other >>> other ≡ seeing name h (e >>> next)
  then_in f h e e_other next other same more = ap (λ (z : Evaluated _). z >>> other) same ∙ onward_in f h e.seen e.result next other more

  -- operations on one value and on two
  one_in : {A B : Type 0} (f : A → Result B ℕ) (a other : Evaluated A) → other ≡ seeing name itself a → (other >>> λ u. given (f u)) ≡ seeing name itself (a >>> λ u. given (f u))
  one_in f a other same = then_in itself itself a other (λ u. given (f u)) (λ u. given (f u)) same (λ u. given_in (f u))

  two_in : {A B C : Type 0} (f : A → B → Result C ℕ) (a a_other : Evaluated A) (b b_other : Evaluated B) → a_other ≡ seeing name itself a → b_other ≡ seeing name itself b
      → (a_other >>> λ u. b_other >>> λ v. given (f u v)) ≡ seeing name itself (a >>> λ u. b >>> λ v. given (f u v))
  two_in f a a_other b b_other h k = then_in itself itself a a_other (λ u. b >>> λ v. given (f u v)) (λ u. b_other >>> λ v. given (f u v)) h (λ u. one_in (f u) b b_other k)

  -- what is stored, in the renamed cell
  abbrev pub stored_in : Stored → Stored
  stored_in w = record { cell = name w.cell; number = w.number }

  cell_in : (c : Cell) (s : Store) → read_cell s (name c) ≡ seeing name itself (read_cell (exchanged_store name s) c)
  cell_in c s = λ i. record { seen = cell_seen (name c) (s (name c)) ∷ []; result = mapped_itself (number_read (s (name c))) i }

  variable_in : (v : Option ℤ) (c : Cell) (s : Store) → variable_value v s (name c) ≡ seeing name itself (variable_value v (exchanged_store name s) c)
  variable_in (Some n) c s = refl
  variable_in None c s = cell_in c s

  module _ (elements : (x : List ℕ) (js : List ℤ) → name (cells.Element x js) ≡ cells.Element x js) (g other : Names) (same : AreNames name g other) where
    name_in : (v : Option ℤ) (x : List ℕ) (s : Store) → name_value v other x s ≡ seeing name itself (name_value v g x (exchanged_store name s))
    name_in (Some n) x s = refl
    name_in None x s = (λ i. variable_value (same.index x i) s (same.cell x i)) ∙ variable_in (g.index x) (g.cell x) s

    bounded_in : (b : Bool) (x : List ℕ) (js : List ℤ) → (if b then Ok (cells.Element x js) else Err outside_bounds) ≡ mapped name (if b then Ok (cells.Element x js) else Err outside_bounds)
    bounded_in true x js = ap Ok (sym (elements x js))
    bounded_in false x js = refl

    element_in : (x : List ℕ) (js : List ℤ) → element_cell other x js ≡ mapped name (element_cell g x js)
    element_in x js = (λ i. if is_rank (length js) && is_within (same.bounds i x) js then Ok (cells.Element x js) else Err outside_bounds) ∙ bounded_in (is_rank (length js) && is_within (g.bounds x) js) x js

    mutual
      pub value_in : (e : ExprTree) (s : Store) → value other e s ≡ seeing name itself (value g e (exchanged_store name s))
      value_in (Int n) s = refl
      value_in (Var x) s = (λ i. name_value (value_named (same.constants i) x) other x s) ∙ name_in (value_named g.constants x) x s
      value_in (Element x es) s =
          then_in itself itself (values g es (exchanged_store name s)) (values other es s)
          (λ js. given (element_cell g x js) >>> read_cell (exchanged_store name s)) (λ js. given (element_cell other x js) >>> read_cell s) (values_in es s)
          (λ js. then_in name itself (given (element_cell g x js)) (given (element_cell other x js)) (read_cell (exchanged_store name s)) (read_cell s) (ap given (element_in x js)) (λ c. cell_in c s))
      value_in (Neg a) s = one_in (λ u. by_number (negation_of u)) (value g a (exchanged_store name s)) (value other a s) (value_in a s)
      value_in (Add a b) s = two_in (λ u v. by_number (sum_of u v)) (value g a (exchanged_store name s)) (value other a s) (value g b (exchanged_store name s)) (value other b s) (value_in a s) (value_in b s)
      value_in (Sub a b) s = two_in (λ u v. by_number (difference_of u v)) (value g a (exchanged_store name s)) (value other a s) (value g b (exchanged_store name s)) (value other b s) (value_in a s) (value_in b s)
      value_in (Mul a b) s = two_in (λ u v. by_number (product_of u v)) (value g a (exchanged_store name s)) (value other a s) (value g b (exchanged_store name s)) (value other b s) (value_in a s) (value_in b s)
      value_in (Div a b) s = two_in (λ u v. by_number (quotient_of u v)) (value g a (exchanged_store name s)) (value other a s) (value g b (exchanged_store name s)) (value other b s) (value_in a s) (value_in b s)
      value_in (Pow a b) s = two_in (λ u v. by_number (power_of u v)) (value g a (exchanged_store name s)) (value other a s) (value g b (exchanged_store name s)) (value other b s) (value_in a s) (value_in b s)
      value_in (Call f es) s = one_in (λ us. of_intrinsic (intrinsic_result f us)) (values g es (exchanged_store name s)) (values other es s) (values_in es s)

      pub values_in : (es : ExprTrees) (s : Store) → values other es s ≡ seeing name itself (values g es (exchanged_store name s))
      values_in no_exprs s = refl
      values_in (more_exprs e rest) s = two_in (λ u us. Ok (u ∷ us)) (value g e (exchanged_store name s)) (value other e s) (values g rest (exchanged_store name s)) (values other rest s) (value_in e s) (values_in rest s)

    pub truth_in : (c : CondTree) (s : Store) → truth other c s ≡ seeing name itself (truth g c (exchanged_store name s))
    truth_in (Rel r a b) s = two_in (λ u v. Ok (relation_holds r u v)) (value g a (exchanged_store name s)) (value other a s) (value g b (exchanged_store name s)) (value other b s) (value_in a s) (value_in b s)
    truth_in (Not a) s = one_in (λ u. Ok (not u)) (truth g a (exchanged_store name s)) (truth other a s) (truth_in a s)
    truth_in (And a b) s = two_in (λ u v. Ok (u && v)) (truth g a (exchanged_store name s)) (truth other a s) (truth g b (exchanged_store name s)) (truth other b s) (truth_in a s) (truth_in b s)
    truth_in (Or a b) s = two_in (λ u v. Ok (u || v)) (truth g a (exchanged_store name s)) (truth other a s) (truth g b (exchanged_store name s)) (truth other b s) (truth_in a s) (truth_in b s)

    pub target_in : (e : ExprTree) (s : Store) → target other e s ≡ seeing name name (target g e (exchanged_store name s))
    target_in (Var x) s = λ i. given (Ok (same.cell x i))
    target_in (Element x es) s =
        then_in itself name (values g es (exchanged_store name s)) (values other es s) (λ js. given (element_cell g x js)) (λ js. given (element_cell other x js)) (values_in es s) (λ js. ap given (element_in x js))
    target_in (Int n) s = refl
    target_in (Neg a) s = refl
    target_in (Add a b) s = refl
    target_in (Sub a b) s = refl
    target_in (Mul a b) s = refl
    target_in (Div a b) s = refl
    target_in (Pow a b) s = refl
    target_in (Call f es) s = refl

    pub assigned_in : (left right : ExprTree) (s : Store) → assigned other left right s ≡ seeing name stored_in (assigned g left right (exchanged_store name s))
    assigned_in left right s =
        then_in itself stored_in (value g right (exchanged_store name s)) (value other right s)
        (λ v. target g left (exchanged_store name s) >>> λ c. given (storable v) >>> λ n. given (Ok (record { cell = c; number = n })))
        (λ v. target other left s >>> λ c. given (storable v) >>> λ n. given (Ok (record { cell = c; number = n })))
        (value_in right s)
        (λ v. then_in name stored_in (target g left (exchanged_store name s)) (target other left s)
        (λ c. given (storable v) >>> λ n. given (Ok (record { cell = c; number = n }))) (λ c. given (storable v) >>> λ n. given (Ok (record { cell = c; number = n })))
        (target_in left s)
        (λ c. then_in itself stored_in (given (storable v)) (given (storable v)) (λ n. given (Ok (record { cell = c; number = n }))) (λ n. given (Ok (record { cell = name c; number = n }))) (given_in (storable v)) (λ n. refl)))

    text_in : (item : ItemTree) (s : Store) → item_text other item s ≡ seeing name itself (item_text g item (exchanged_store name s))
    text_in (Value e) s = one_in (λ n. Ok (signed_decimal n)) (value g e (exchanged_store name s)) (value other e s) (value_in e s)
    text_in (Text text) s = refl

    texts_in : (items : List ItemTree) (s : Store) → item_texts other items s ≡ seeing name itself (item_texts g items (exchanged_store name s))
    texts_in [] s = refl
    texts_in (item ∷ rest) s = two_in (λ text texts. Ok (text ∷ texts)) (item_text g item (exchanged_store name s)) (item_text other item s) (item_texts g rest (exchanged_store name s)) (item_texts other rest s) (text_in item s) (texts_in rest s)

    pub line_in : (items : List ItemTree) (s : Store) → printed_line other items s ≡ seeing name itself (printed_line g items (exchanged_store name s))
    line_in items s = one_in (λ texts. Ok (join_with_byte 32 texts)) (item_texts g items (exchanged_store name s)) (item_texts other items s) (texts_in items s)

    pub limits_in : (h : Head) (s : Store) → limits other h s ≡ seeing name itself (limits g h (exchanged_store name s))
    limits_in h s =
        then_in itself itself (value g h.first (exchanged_store name s)) (value other h.first s)
        (λ u. given (in_bounds u) >>> λ m. value g h.last (exchanged_store name s) >>> λ v. given (in_bounds v) >>> λ n. given (Ok (record { first = m; last = n })))
        (λ u. given (in_bounds u) >>> λ m. value other h.last s >>> λ v. given (in_bounds v) >>> λ n. given (Ok (record { first = m; last = n })))
        (value_in h.first s)
        (λ u. then_in itself itself (given (in_bounds u)) (given (in_bounds u))
        (λ m. value g h.last (exchanged_store name s) >>> λ v. given (in_bounds v) >>> λ n. given (Ok (record { first = m; last = n })))
        (λ m. value other h.last s >>> λ v. given (in_bounds v) >>> λ n. given (Ok (record { first = m; last = n })))
        (given_in (in_bounds u))
        (λ m. then_in itself itself (value g h.last (exchanged_store name s)) (value other h.last s)
        (λ v. given (in_bounds v) >>> λ n. given (Ok (record { first = m; last = n }))) (λ v. given (in_bounds v) >>> λ n. given (Ok (record { first = m; last = n })))
        (value_in h.last s)
        (λ v. one_in (λ n. Ok (record { first = m; last = n })) (given (in_bounds v)) (given (in_bounds v)) (given_in (in_bounds v)))))
