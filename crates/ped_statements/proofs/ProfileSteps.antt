-- Steps of testing for statements that the profile leaves out, as code takes them.
use Rattle.std.proofs.Common.{◌≡◌, ℕ, Bool, true, false, List, [], ◌∷◌, Option, Some, None, refl, sym, ap, ◌∙◌, eqb}
use Rattle.std.specs.Prelude.{codes}
use Rattle.std.specs.List.{list_all}
use Rattle.std.specs.Cmp.Lexicographic.{pointwise}
use Rattle.std.proofs.lemmas.Bool.{eqb-true, eq-eqb}
use Rattle.ped_base.specs.Letters.{is_digit}
use Rattle.ped_tree.specs.Grammar.Words.{is_numeral}
use Rattle.ped_expressions.specs.Scanning.{◌>>=◌, first_is, front, behind, after}
use Rattle.ped_statements.specs.Listing.{is_end, whole, several}
use Rattle.ped_statements.specs.ProfileReading.{is_some, numeral_at}
use Rattle.ped_statements.proofs.Several.{Shrinks, shrinks, listed, several_step}
use Rattle.ped_statements.proofs.Pieces.{numeral_found}

-- words

apart : (a b : ℕ) → eqb a b ≡ false → eqb b a ≡ false
apart a b h =
    let go : (t : Bool) → eqb b a ≡ t → t ≡ false = λ t. elim t as (λ t. eqb b a ≡ t → t ≡ false) [
      | true ↦ λ e. sym (eq-eqb a b (sym (eqb-true b a e))) ∙ h
      | false ↦ λ e. refl
    ] in
    go (eqb b a) refl

same_eqb : (a b : ℕ) → eqb a b ≡ eqb b a
same_eqb a b =
    let go : (t : Bool) → eqb a b ≡ t → t ≡ eqb b a = λ t. elim t as (λ t. eqb a b ≡ t → t ≡ eqb b a) [
      | true ↦ λ e. sym (eq-eqb b a (sym (eqb-true a b e)))
      | false ↦ λ e. sym (apart a b e)
    ] in
    go (eqb a b) refl

pub pointwise_turned : (xs ys : List ℕ) → pointwise eqb xs ys ≡ pointwise eqb ys xs
pointwise_turned [] [] = refl
pointwise_turned [] (y ∷ ys) = refl
pointwise_turned (x ∷ xs) [] = refl
pointwise_turned (x ∷ xs) (y ∷ ys) = rw (same_eqb x y, pointwise_turned xs ys) refl

-- numerals

behind_end : (p : ℕ → Bool) (text : List ℕ) → is_end (behind p text) ≡ list_all p text
behind_end p [] = refl
behind_end p (c ∷ cs) =
    let go : (b : Bool) → p c ≡ b → is_end (behind p (c ∷ cs)) ≡ list_all p (c ∷ cs) = λ b. elim b as (λ b. p c ≡ b → is_end (behind p (c ∷ cs)) ≡ list_all p (c ∷ cs)) [ true ↦ λ h. rw h (behind_end p cs) | false ↦ λ h. rw h refl ] in
    go (p c) refl

pub numeral_end : (text : List ℕ) → first_is is_digit text ≡ true → is_end (behind is_digit text) ≡ is_numeral text
numeral_end [] h = absurd cc
numeral_end (c ∷ cs) h = behind_end is_digit (c ∷ cs)

pub no_numeral : (text : List ℕ) → first_is is_digit text ≡ false → is_numeral text ≡ false
no_numeral [] h = refl
no_numeral (c ∷ cs) h = rw h refl

-- labels

numerals_shrink : Shrinks numeral_at
numerals_shrink = shrinks (λ x. x) (λ x. x) is_numeral numeral_at numeral_found

numeral_is : (left : List ℕ) → first_is is_digit left ≡ true → several numeral_at left ≡ listed (several numeral_at) (front is_digit left, behind is_digit left)
numeral_is left h = several_step numeral_at numerals_shrink left ∙ rw h refl

some_whole : {A : Type 0} (x : A) (r : Option (List A × List ℕ)) → is_some (whole (r >>= λ y. Some (x ∷ y.0, y.1))) ≡ is_some (whole r)
some_whole x None = refl
some_whole x (Some (ys, [])) = refl
some_whole x (Some (ys, c ∷ cs)) = refl

pub labels_more : (left q : List ℕ) (all : Bool) → is_some (whole (several numeral_at left)) ≡ all → first_is is_digit left ≡ true → after (codes ",") (behind is_digit left) ≡ Some q → is_some (whole (several numeral_at q)) ≡ all
labels_more left q all h d a =
    let one : several numeral_at left ≡ (several numeral_at q >>= λ y. Some (front is_digit left ∷ y.0, y.1)) = numeral_is left d ∙ rw a refl in
    sym (some_whole (front is_digit left) (several numeral_at q)) ∙ ap (λ (o : Option (List (List ℕ) × List ℕ)). is_some (whole o)) (sym one) ∙ h

alone_whole : {A : Type 0} (xs : List A) (r : List ℕ) → is_some (whole (Some (xs, r))) ≡ is_end r
alone_whole xs [] = refl
alone_whole xs (c ∷ cs) = refl

pub labels_last : (left : List ℕ) (all : Bool) → is_some (whole (several numeral_at left)) ≡ all → first_is is_digit left ≡ true → after (codes ",") (behind is_digit left) ≡ None → all ≡ is_end (behind is_digit left)
labels_last left all h d a =
    let one : several numeral_at left ≡ Some (front is_digit left ∷ [], behind is_digit left) = numeral_is left d ∙ rw a refl in
    sym h ∙ ap (λ (o : Option (List (List ℕ) × List ℕ)). is_some (whole o)) one ∙ alone_whole (front is_digit left ∷ []) (behind is_digit left)

pub labels_none : (left : List ℕ) (all : Bool) → is_some (whole (several numeral_at left)) ≡ all → first_is is_digit left ≡ false → all ≡ false
labels_none left all h d =
    let none : several numeral_at left ≡ None = several_step numeral_at numerals_shrink left ∙ rw d refl in
    sym h ∙ ap (λ (o : Option (List (List ℕ) × List ℕ)). is_some (whole o)) none
