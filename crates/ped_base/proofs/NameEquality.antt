-- Two names are equal where their bytes are, and a table of names finds what stands in its list.
use Rattle.std.proofs.Common.{◌≡◌, ℕ, true, ◌&&◌, List, [], ◌∷◌, eqb, eqb-true, refl, ap, ◌∙◌, arith}
use Rattle.std.proofs.lemmas.Bool.{and_parts}
use Rattle.std.specs.List.{list_any}
use Rattle.std.specs.Map.{lookup}
use Rattle.std.specs.Cmp.Lexicographic.{pointwise}
use Rattle.ped_base.specs.Lists.{is_same_text, is_among}
use Rattle.ped_base.specs.contracts.identifiers.NamePartialEq.TheImpl as code

itself : (n : ℕ) → eqb n n ≡ true
itself n = grind (arith, eqb-true)

-- a text is the same as itself
pub same_itself : (x : List ℕ) → is_same_text x x ≡ true
same_itself [] = refl
same_itself (x ∷ xs) = ap (λ b. b && pointwise eqb xs xs) (itself x) ∙ same_itself xs

eqb_flip : (m n : ℕ) → eqb m n ≡ eqb n m
eqb_flip m n = grind (arith, eqb-true)

-- the test goes both ways
pub same_flip : (x y : List ℕ) → is_same_text x y ≡ is_same_text y x
same_flip [] [] = refl
same_flip [] (y ∷ ys) = refl
same_flip (x ∷ xs) [] = refl
same_flip (x ∷ xs) (y ∷ ys) = λ i. eqb_flip x y i && same_flip xs ys i

-- the same texts are equal
pub same_is : (x y : List ℕ) → is_same_text x y ≡ true → x ≡ y
same_is [] [] h = refl
same_is [] (y ∷ ys) h = absurd cc
same_is (x ∷ xs) [] h = absurd cc
same_is (x ∷ xs) (y ∷ ys) h =
    let p = and_parts (eqb x y) (is_same_text xs ys) h in
    let e : x ≡ y = eqb-true x y p.0 in
    λ i. e i ∷ same_is xs ys p.1 i

-- the code's test of two names
pub name_same : (x y : List ℕ) → (code.eq-value).it x y ≡ is_same_text x y
name_same x y = refl

-- a name is found in a list by the code's test where it is one of the names
pub any_same : (x : List ℕ) (names : List (List ℕ)) → list_any ((code.eq-value).it x) names ≡ is_among x names
any_same x names = λ i. list_any (λ y. name_same x y i) names

-- what a table of names finds is what stands first in its list under the name
pub looked_up : {X : Type 0} (x : List ℕ) (es : List (List ℕ × X)) → lookup ((code.eq-value).it x) es ≡ lookup (is_same_text x) es
looked_up x es = λ i. lookup (λ y. name_same x y i) es
