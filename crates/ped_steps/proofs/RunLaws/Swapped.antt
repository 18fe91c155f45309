-- A scalar's cell and its copy in an iteration change places.
use Rattle.std.proofs.Common.{◌≡◌, ℕ, suc, ◌≤◌, List, [], ◌∷◌, ◌++◌, length, Bool, true, false, Some, refl, sym, ap, ◌∙◌, arith, if◌then◌else◌}
use Rattle.std.specs.Prelude.{◌||◌}
use Rattle.std.proofs.lemmas.Bool.{both_ways, or_right}
use Rattle.std.proofs.lemmas.List.Folds.{list_any-append}
use Rattle.ped_base.specs.Lists.{is_same_text, is_among}
use Rattle.ped_weaves.specs.ped_store.specs.Cells.{Cell, Scalar, Element, Private, In, Out, same_cell}
use Rattle.ped_weaves.specs.ped_store.specs.Acts.{Turn, iterations_of}
use Rattle.ped_weaves.specs.ped_laws.proofs.ActLaws.SameCells.{text_itself, cell_itself, cell_is, other_cell}
use Rattle.ped_base.proofs.NameEquality.{same_is}
use Rattle.ped_weaves.specs.ped_eval.specs.Scopes.{Frame, Scope, turns_of, cell_of, index_value}
use Rattle.ped_steps.specs.Runs.Exchanging.{IsExchange, AreExchanged, swapped, is_of_scalar}

-- the name of a cell, and how many iterations a copy belongs to
abbrev pub cell_name : Cell → List ℕ
cell_name (Scalar x) = x
cell_name (Private x path) = x
cell_name (Element x js) = []
cell_name In = []
cell_name Out = []

abbrev pub cell_depth : Cell → ℕ
cell_depth (Private x path) = length path
cell_depth (Scalar x) = 0
cell_depth (Element x js) = 0
cell_depth In = 0
cell_depth Out = 0

module _ (c d : Cell) where
  pub swapped_first : (x : Cell) → c ≡ x → swapped c d x ≡ d
  swapped_first x e = ap (λ (z : Cell). swapped c d z) (sym e) ∙ ap (λ (b : Bool). if b then d else (if same_cell d c then c else c)) (cell_itself c)

  pub swapped_second : (x : Cell) → (c ≡ x → ⊥) → d ≡ x → swapped c d x ≡ c
  swapped_second x n e = ap (λ (b : Bool). if b then d else (if same_cell d x then c else x)) (other_cell c x n) ∙ ap (λ (z : Cell). if same_cell d z then c else z) (sym e) ∙ ap (λ (b : Bool). if b then c else d) (cell_itself d)

  pub swapped_other : (x : Cell) → (c ≡ x → ⊥) → (d ≡ x → ⊥) → swapped c d x ≡ x
  swapped_other x n m = ap (λ (b : Bool). if b then d else (if same_cell d x then c else x)) (other_cell c x n) ∙ ap (λ (b : Bool). if b then c else x) (other_cell d x m)

  pub decided : (a b : Cell) (X : Type 0) → (a ≡ b → X) → ((a ≡ b → ⊥) → X) → X
  decided a b X equal other = go (same_cell a b) refl
    where
      go : (r : Bool) → same_cell a b ≡ r → X
      go true e = equal (cell_is a b e)
      go false e = other (λ q. both_ways (same_cell a b) e (ap (same_cell a) (sym q) ∙ cell_itself a))

  pub twice : (x : Cell) → swapped c d (swapped c d x) ≡ x
  twice x =
      decided c x (swapped c d (swapped c d x) ≡ x)
      (λ e. ap (swapped c d) (swapped_first x e) ∙ decided c d (swapped c d d ≡ x) (λ q. swapped_first d q ∙ sym q ∙ e) (λ n. swapped_second d n refl ∙ e))
      (λ n. decided d x (swapped c d (swapped c d x) ≡ x)
      (λ e. ap (swapped c d) (swapped_second x n e) ∙ swapped_first c refl ∙ e)
      (λ m. ap (swapped c d) (swapped_other x n m) ∙ swapped_other x n m))

not_scalar : (c x : Cell) → is_of_scalar c ≡ true → is_of_scalar x ≡ false → c ≡ x → ⊥
not_scalar c x h k e = both_ways (is_of_scalar x) k (ap is_of_scalar (sym e) ∙ h)

pub swap_exchanges : (c d : Cell) → is_of_scalar c ≡ true → is_of_scalar d ≡ true → IsExchange (swapped c d)
swap_exchanges c d h k = record {
  twice = twice c d;
  element = λ x js. swapped_other c d (Element x js) (not_scalar c (Element x js) h refl) (not_scalar d (Element x js) k refl);
  input = swapped_other c d In (not_scalar c In h refl) (not_scalar d In k refl);
  output = swapped_other c d Out (not_scalar c Out h refl) (not_scalar d Out k refl);
}

-- what the cell of a scalar at a place is
pub named_so : (S : Scope) (x : List ℕ) → cell_name (cell_of S x) ≡ x
named_so [] x = refl
named_so (f ∷ S) x = go (is_among x f.private) (named_so S x)
  where
    go : (b : Bool) → cell_name (cell_of S x) ≡ x → cell_name (if b then Private x (iterations_of (turns_of (f ∷ S))) else cell_of S x) ≡ x
    go true h = refl
    go false h = h

pub of_scalar : (S : Scope) (x : List ℕ) → is_of_scalar (cell_of S x) ≡ true
of_scalar [] x = refl
of_scalar (f ∷ S) x = go (is_among x f.private) (of_scalar S x)
  where
    go : (b : Bool) → is_of_scalar (cell_of S x) ≡ true → is_of_scalar (if b then Private x (iterations_of (turns_of (f ∷ S))) else cell_of S x) ≡ true
    go true h = refl
    go false h = h

pub length_behind : (ts : List Turn) (t : Turn) → length (ts ++ t ∷ []) ≡ suc (length ts)
length_behind [] t = refl
length_behind (u ∷ us) t = ap suc (length_behind us t)

pub length_path : (ts : List Turn) → length (iterations_of ts) ≡ length ts
length_path [] = refl
length_path (t ∷ ts) = ap suc (length_path ts)

pub depth_within : (S : Scope) (x : List ℕ) → cell_depth (cell_of S x) ≤ length (turns_of S)
depth_within [] x = omega arith
depth_within (f ∷ S) x = go (is_among x f.private) (depth_within S x)
  where
    go : (b : Bool) → cell_depth (cell_of S x) ≤ length (turns_of S) → cell_depth (if b then Private x (iterations_of (turns_of (f ∷ S))) else cell_of S x) ≤ length (turns_of (f ∷ S))
    go true h = let e = length_path (turns_of (f ∷ S)) in omega (arith, e)
    go false h = let e = length_behind (turns_of S) f.turn in omega (arith, e, h)

-- a name behind a list of names
pub among_behind : (y x : List ℕ) (xs : List (List ℕ)) → is_same_text y x ≡ false → is_among y (xs ++ x ∷ []) ≡ is_among y xs
among_behind y x xs n = list_any-append (is_same_text y) xs (x ∷ []) ∙ ap (λ (b : Bool). is_among y xs || (b || false)) n ∙ or_nothing (is_among y xs)
  where
    or_nothing : (b : Bool) → b || false ≡ b
    or_nothing true = refl
    or_nothing false = refl

pub among_last : (x : List ℕ) (xs : List (List ℕ)) → is_among x (xs ++ x ∷ []) ≡ true
among_last x xs = list_any-append (is_same_text x) xs (x ∷ []) ∙ ap (λ (b : Bool). is_among x xs || (b || false)) (text_itself x) ∙ or_right (is_among x xs) true refl

-- an iteration that has one more private name: its scalar's cell and its copy change places
module _ (S : Scope) (f g : Frame) (x : List ℕ) (turn : g.turn ≡ f.turn) (variable : g.variable ≡ f.variable) (private : g.private ≡ f.private ++ x ∷ []) (absent : is_among x f.private ≡ false) where
  abbrev own : Cell
  own = cell_of S x

  abbrev copy : Cell
  copy = Private x (iterations_of (turns_of (f ∷ S)))

  longer : suc (length (turns_of S)) ≡ length (turns_of (f ∷ S))
  longer = sym (length_behind (turns_of S) f.turn)

  other_name : (y : List ℕ) (z : Cell) → is_same_text y x ≡ false → cell_name z ≡ y → (w : Cell) → cell_name w ≡ x → w ≡ z → ⊥
  other_name y z n e w k q = both_ways (is_same_text y x) n (ap (λ (u : List ℕ). is_same_text u x) (sym e ∙ ap cell_name (sym q) ∙ k) ∙ text_itself x)

  by_name : (y : List ℕ) (b : Bool) → is_same_text y x ≡ b → cell_of (g ∷ S) y ≡ swapped own copy (cell_of (f ∷ S) y)
  by_name y true e =
      let same : y ≡ x = same_is y x e in
      let there : is_among y g.private ≡ true = ap (is_among y) private ∙ ap (λ (z : List ℕ). is_among z (f.private ++ x ∷ [])) same ∙ among_last x f.private in
      let mine : cell_of (f ∷ S) y ≡ own = ap (cell_of (f ∷ S)) same ∙ ap (λ (b : Bool). if b then copy else own) absent in
      ap (λ (b : Bool). if b then Private y (iterations_of (turns_of (g ∷ S))) else cell_of S y) there
      ∙ (λ i. Private (same i) (iterations_of (turns_of S ++ turn i ∷ [])))
      ∙ sym (ap (swapped own copy) mine ∙ swapped_first own copy own refl)
  by_name y false e =
      let same : is_among y g.private ≡ is_among y f.private = ap (is_among y) private ∙ among_behind y x f.private e in
      (λ i. if same i then Private y (iterations_of (turns_of S ++ turn i ∷ [])) else cell_of S y)
      ∙ sym (swapped_other own copy (cell_of (f ∷ S) y) (other_name y (cell_of (f ∷ S) y) e (named_so (f ∷ S) y) own (named_so S x)) (other_name y (cell_of (f ∷ S) y) e (named_so (f ∷ S) y) copy refl))

  pub private_exchanged : AreExchanged (swapped own copy) (f ∷ S) (g ∷ S)
  private_exchanged = record {
    turns = ap (λ (t : Turn). turns_of S ++ t ∷ []) turn;
    index = λ y. (λ i. if is_same_text y (variable i) then Some (turn i).value else index_value S y);
    cell = λ y. by_name y (is_same_text y x) refl;
    inside = λ y path less. swapped_other own copy (Private y path)
        (λ q. let a = depth_within S x in let b : cell_depth own ≡ length path = ap cell_depth q in absurd (omega (arith, a, b, less, longer)))
        (λ q. let b : length (iterations_of (turns_of (f ∷ S))) ≡ length path = ap cell_depth q in let e = length_path (turns_of (f ∷ S)) in absurd (omega (arith, b, e, less)));
  }
