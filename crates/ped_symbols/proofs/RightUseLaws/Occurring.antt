-- Names that occur: each once among those of the program.
use Rattle.std.proofs.Common.{◌≡◌, ℕ, List, [], ◌∷◌, Bool, true, false, refl, ap, sym, ◌∙◌, if◌then◌else◌}
use Rattle.std.specs.Prelude.{◌||◌}
use Rattle.std.proofs.lemmas.Bool.{true≢false, or_from, or_right}
use Rattle.ped_base.specs.Lists.{is_same_text, is_among}
use Rattle.ped_tree.specs.NamesIn.{first_occurrences}
use Rattle.ped_symbols.specs.NameRefusals.{has_twice}
use Rattle.ped_base.proofs.NameEquality.{same_itself, same_flip, same_is}

-- a name that isn't seen yet and one that is seen differ
differ : (x y : List ℕ) (seen : List (List ℕ)) → is_among x seen ≡ false → is_among y seen ≡ true → is_same_text x y ≡ false
differ x y seen h k = go (is_same_text x y) refl
  where
    go : (r : Bool) → is_same_text x y ≡ r → r ≡ false
    go true e = sym k ∙ ap (λ (z : List ℕ). is_among z seen) (sym (same_is x y e)) ∙ h
    go false e = refl

differ_back : (x y : List ℕ) (seen : List (List ℕ)) → is_among x seen ≡ true → is_among y seen ≡ false → is_same_text x y ≡ false
differ_back x y seen h k = same_flip x y ∙ differ y x seen k h

-- a name that occurs is among the first occurrences, where it isn't seen yet
pub among_first : (seen xs : List (List ℕ)) (x : List ℕ) → is_among x xs ≡ true → is_among x seen ≡ false → is_among x (first_occurrences seen xs) ≡ true
among_first seen [] x h k = absurd cc
among_first seen (y ∷ ys) x h k =
    go (is_among y seen) refl (is_same_text x y) refl h (λ m. among_first seen ys x m k) (λ m n. among_first (y ∷ seen) ys x m n)
  where
    go : (r : Bool) → is_among y seen ≡ r → (e : Bool) → is_same_text x y ≡ e → (e || is_among x ys) ≡ true
        → (is_among x ys ≡ true → is_among x (first_occurrences seen ys) ≡ true)
        → (is_among x ys ≡ true → is_among x (y ∷ seen) ≡ false → is_among x (first_occurrences (y ∷ seen) ys) ≡ true)
        → is_among x (if r then first_occurrences seen ys else y ∷ first_occurrences (y ∷ seen) ys) ≡ true
    go true s true e m f g = absurd (true≢false (sym e ∙ differ x y seen k s))
    go true s false e m f g = f m
    go false s true e m f g = ap (λ (b : Bool). b || is_among x (first_occurrences (y ∷ seen) ys)) e
    go false s false e m f g = or_right (is_same_text x y) _ (g m (or_from _ _ e k))

-- a name that is seen is none of them
absent_first : (seen xs : List (List ℕ)) (x : List ℕ) → is_among x seen ≡ true → is_among x (first_occurrences seen xs) ≡ false
absent_first seen [] x h = refl
absent_first seen (y ∷ ys) x h = go (is_among y seen) refl (absent_first seen ys x h) (λ k. absent_first (y ∷ seen) ys x k)
  where
    go : (r : Bool) → is_among y seen ≡ r → is_among x (first_occurrences seen ys) ≡ false → (is_among x (y ∷ seen) ≡ true → is_among x (first_occurrences (y ∷ seen) ys) ≡ false)
        → is_among x (if r then first_occurrences seen ys else y ∷ first_occurrences (y ∷ seen) ys) ≡ false
    go true s f g = f
    go false s f g = or_from _ _ (differ_back x y seen h s) (g (or_right (is_same_text x y) _ h))

-- each of them stands once
pub once_first : (seen xs : List (List ℕ)) → has_twice (first_occurrences seen xs) ≡ false
once_first seen [] = refl
once_first seen (y ∷ ys) = go (is_among y seen) (once_first seen ys) (once_first (y ∷ seen) ys)
  where
    go : (r : Bool) → has_twice (first_occurrences seen ys) ≡ false → has_twice (first_occurrences (y ∷ seen) ys) ≡ false
        → has_twice (if r then first_occurrences seen ys else y ∷ first_occurrences (y ∷ seen) ys) ≡ false
    go true f g = f
    go false f g = or_from _ _ (absent_first (y ∷ seen) ys y (ap (λ (b : Bool). b || is_among y seen) (same_itself y))) g

-- what is among the first occurrences occurs
pub first_among : (seen xs : List (List ℕ)) (x : List ℕ) → is_among x (first_occurrences seen xs) ≡ true → is_among x xs ≡ true
first_among seen [] x h = absurd cc
first_among seen (y ∷ ys) x h = go (is_among y seen) h (is_same_text x y) refl (first_among seen ys x) (first_among (y ∷ seen) ys x)
  where
    go : (r : Bool) → is_among x (if r then first_occurrences seen ys else y ∷ first_occurrences (y ∷ seen) ys) ≡ true → (e : Bool) → is_same_text x y ≡ e
        → (is_among x (first_occurrences seen ys) ≡ true → is_among x ys ≡ true) → (is_among x (first_occurrences (y ∷ seen) ys) ≡ true → is_among x ys ≡ true) → (is_same_text x y || is_among x ys) ≡ true
    go true k e q f g = or_right (is_same_text x y) (is_among x ys) (f k)
    go false k true q f g = ap (λ (b : Bool). b || is_among x ys) q
    go false k false q f g = or_right (is_same_text x y) (is_among x ys) (g (ap (λ (b : Bool). b || is_among x (first_occurrences (y ∷ seen) ys)) (sym q) ∙ k))

-- so the same names do
pub occurs_first : (xs : List (List ℕ)) (x : List ℕ) → is_among x (first_occurrences [] xs) ≡ is_among x xs
occurs_first xs x = go (is_among x xs) refl
  where
    go : (b : Bool) → is_among x xs ≡ b → is_among x (first_occurrences [] xs) ≡ b
    go true e = among_first [] xs x e refl
    go false e = never (is_among x (first_occurrences [] xs)) refl
      where
        never : (r : Bool) → is_among x (first_occurrences [] xs) ≡ r → r ≡ false
        never true q = sym (first_among [] xs x q) ∙ e
        never false q = refl
