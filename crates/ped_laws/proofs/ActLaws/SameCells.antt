-- The test of cells is equality.
use Rattle.std.proofs.Common.{◌≡◌, ℕ, ℤ, List, [], ◌∷◌, Bool, true, false, ◌&&◌, eqb, eqb-true, refl, sym, ap, ◌∙◌, arith}
use Rattle.std.specs.Ordering.{int_eq}
use Rattle.std.specs.Cmp.Lexicographic.{pointwise}
use Rattle.std.proofs.lemmas.Bool.{and_parts}
use Rattle.std.proofs.lemmas.Bool.Decides.{Decides-int_eq}
use Rattle.ped_flow.specs.ped_base.specs.Lists.{is_same_text}
use Rattle.ped_eval.specs.ped_store.specs.Cells.{Cell, Scalar, Element, Private, In, Out, Iteration, same_iteration, same_cell}

number_itself : (n : ℕ) → eqb n n ≡ true
number_itself n = grind (arith, eqb-true)

pub text_itself : (x : List ℕ) → is_same_text x x ≡ true
text_itself [] = refl
text_itself (x ∷ xs) = ap (λ b. b && pointwise eqb xs xs) (number_itself x) ∙ text_itself xs

text_is : (x y : List ℕ) → is_same_text x y ≡ true → x ≡ y
text_is [] [] h = refl
text_is [] (y ∷ ys) h = absurd cc
text_is (x ∷ xs) [] h = absurd cc
text_is (x ∷ xs) (y ∷ ys) h =
    let p = and_parts (eqb x y) (is_same_text xs ys) h in
    let e : x ≡ y = eqb-true x y p.0 in
    let r = text_is xs ys p.1 in
    λ i. e i ∷ r i

subscripts_itself : (js : List ℤ) → pointwise int_eq js js ≡ true
subscripts_itself [] = refl
subscripts_itself (j ∷ js) = ap (λ b. b && pointwise int_eq js js) ((Decides-int_eq j j).1 refl) ∙ subscripts_itself js

subscripts_are : (js ks : List ℤ) → pointwise int_eq js ks ≡ true → js ≡ ks
subscripts_are [] [] h = refl
subscripts_are [] (k ∷ ks) h = absurd cc
subscripts_are (j ∷ js) [] h = absurd cc
subscripts_are (j ∷ js) (k ∷ ks) h =
    let p = and_parts (int_eq j k) (pointwise int_eq js ks) h in
    let e = (Decides-int_eq j k).0 p.0 in
    let r = subscripts_are js ks p.1 in
    λ i. e i ∷ r i

iteration_itself : (i : Iteration) → same_iteration i i ≡ true
iteration_itself i = ap (λ b. b && eqb i.number i.number) (number_itself i.statement) ∙ number_itself i.number

iterations_itself : (xs : List Iteration) → pointwise same_iteration xs xs ≡ true
iterations_itself [] = refl
iterations_itself (x ∷ xs) = ap (λ b. b && pointwise same_iteration xs xs) (iteration_itself x) ∙ iterations_itself xs

iterations_are : (xs ys : List Iteration) → pointwise same_iteration xs ys ≡ true → xs ≡ ys
iterations_are [] [] h = refl
iterations_are [] (y ∷ ys) h = absurd cc
iterations_are (x ∷ xs) [] h = absurd cc
iterations_are (x ∷ xs) (y ∷ ys) h =
    let p = and_parts (same_iteration x y) (pointwise same_iteration xs ys) h in
    let q = and_parts (eqb x.statement y.statement) (eqb x.number y.number) p.0 in
    let s = eqb-true x.statement y.statement q.0 in
    let n = eqb-true x.number y.number q.1 in
    let r = iterations_are xs ys p.1 in
    λ i. record { statement = s i; number = n i } ∷ r i

-- a cell is the same as itself
pub cell_itself : (c : Cell) → same_cell c c ≡ true
cell_itself (Scalar x) = text_itself x
cell_itself (Element x js) = ap (λ b. b && pointwise int_eq js js) (text_itself x) ∙ subscripts_itself js
cell_itself (Private x xs) = ap (λ b. b && pointwise same_iteration xs xs) (text_itself x) ∙ iterations_itself xs
cell_itself In = refl
cell_itself Out = refl

-- the same cells are equal
pub cell_is : (c d : Cell) → same_cell c d ≡ true → c ≡ d
cell_is (Scalar x) (Scalar y) h = ap Scalar (text_is x y h)
cell_is (Element x js) (Element y ks) h =
    let p = and_parts (is_same_text x y) (pointwise int_eq js ks) h in
    let e = text_is x y p.0 in
    let f = subscripts_are js ks p.1 in
    λ i. Element (e i) (f i)
cell_is (Private x xs) (Private y ys) h =
    let p = and_parts (is_same_text x y) (pointwise same_iteration xs ys) h in
    let e = text_is x y p.0 in
    let f = iterations_are xs ys p.1 in
    λ i. Private (e i) (f i)
cell_is In In h = refl
cell_is Out Out h = refl
cell_is (Scalar x) (Element y ks) h = absurd cc
cell_is (Scalar x) (Private y ys) h = absurd cc
cell_is (Scalar x) In h = absurd cc
cell_is (Scalar x) Out h = absurd cc
cell_is (Element x js) (Scalar y) h = absurd cc
cell_is (Element x js) (Private y ys) h = absurd cc
cell_is (Element x js) In h = absurd cc
cell_is (Element x js) Out h = absurd cc
cell_is (Private x xs) (Scalar y) h = absurd cc
cell_is (Private x xs) (Element y ks) h = absurd cc
cell_is (Private x xs) In h = absurd cc
cell_is (Private x xs) Out h = absurd cc
cell_is In (Scalar y) h = absurd cc
cell_is In (Element y ks) h = absurd cc
cell_is In (Private y ys) h = absurd cc
cell_is In Out h = absurd cc
cell_is Out (Scalar y) h = absurd cc
cell_is Out (Element y ks) h = absurd cc
cell_is Out (Private y ys) h = absurd cc
cell_is Out In h = absurd cc

-- equal cells pass the test
pub is_cell : (c d : Cell) → c ≡ d → same_cell c d ≡ true
is_cell c d e = ap (same_cell c) (sym e) ∙ cell_itself c

-- cells that differ don't pass the test
pub other_cell : (c d : Cell) → (c ≡ d → ⊥) → same_cell c d ≡ false
other_cell c d n = go (same_cell c d) refl
  where
    go : (b : Bool) → same_cell c d ≡ b → same_cell c d ≡ false
    go true p = absurd (n (cell_is c d p))
    go false p = p

-- cells that don't pass the test differ
pub cells_differ : (c d : Cell) → same_cell c d ≡ false → c ≡ d → ⊥
cells_differ c d h e = let p = is_cell c d e in let q : true ≡ false = sym p ∙ h in absurd cc

-- the test goes both ways
pub cell_flip : (c d : Cell) → same_cell c d ≡ same_cell d c
cell_flip c d = go (same_cell c d) refl
  where
    go : (b : Bool) → same_cell c d ≡ b → same_cell c d ≡ same_cell d c
    go true p = p ∙ sym (is_cell d c (sym (cell_is c d p)))
    go false p = p ∙ sym (other_cell d c (λ e. cells_differ c d p (sym e)))
