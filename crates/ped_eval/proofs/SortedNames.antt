-- Names in byte order, each once, are the one list of them that rises.
use Rattle.std.proofs.Common.{◌≡◌, ℕ, List, [], ◌∷◌, Bool, true, false, cond, ◌||◌, refl, sym, ap, ◌∙◌, true≢false, IsPermutation}
use Rattle.std.specs.List.{list_any, AllByRecursion, dedup, dedup_from}
use Rattle.std.specs.List.Sorted.{IsStrictlySortedBy, IsSorted}
use Rattle.std.specs.Ordering.{nat_cmp, is_eq, is_lt, ordering_reverse, eq_by_cmp}
use Rattle.std.specs.declared.cmp.Ordering.{Ordering}
use Rattle.std.specs.declared.cmp.Ordering.TheVariants.{Less, Equal, Greater}
use Rattle.std.specs.Cmp.Lexicographic.{slice_cmp}
use Rattle.std.specs.Cmp.{IsTotalOrder}
use Rattle.std.proofs.lemmas.Cmp.{nat_list_cmp_total, tied_itself}
use Rattle.std.proofs.lemmas.Map.Lookups.{exact_bytes}
use Rattle.std.proofs.lemmas.Map.Keys.{sorted_head, sorted_tail}
use Rattle.std.proofs.lemmas.List.Sorted.{list_any-IsPermutation}
use Rattle.std.proofs.lemmas.List.Kept.{IsStrictlySortedBy-dedup}
use Rattle.ped_base.specs.Lists.{is_same_text}
use Rattle.ped_base.proofs.NameEquality.{same_is, same_itself}
use Rattle.ped_eval.specs.Loops.{with_name_by, with_sorted, sorted_once}

-- the order of bytes
abbrev C : List ℕ → List ℕ → Ordering
C = slice_cmp nat_cmp

-- a name is one of these
abbrev has : List ℕ → List (List ℕ) → Bool
has z xs = list_any (λ y. is_eq (C z y)) xs

total : IsTotalOrder C
total = nat_list_cmp_total

not_eq : (o : Ordering) → o ≡ Less → is_eq o ≡ false
not_eq o h = ap is_eq h

-- what comes behind all that is before it is none of them
none_behind : (x : List ℕ) (ys : List (List ℕ)) → AllByRecursion (λ y. C x y ≡ Less) ys → has x ys ≡ false
none_behind x [] h = refl
none_behind x (y ∷ ys) h = ap (λ o. is_eq o || has x ys) h.0 ∙ none_behind x ys h.1

-- what lies before a name lies before all behind that
before_all : (x y : List ℕ) (ys : List (List ℕ)) → C x y ≡ Less → AllByRecursion (λ z. C y z ≡ Less) ys → AllByRecursion (λ z. C x z ≡ Less) ys
before_all x y [] h k = tt
before_all x y (z ∷ zs) h k = (total.trans x y z h k.0, before_all x y zs h k.1)

-- a name more is before all where it and the others are
all_with : (w x : List ℕ) (ys : List (List ℕ)) → C w x ≡ Less → AllByRecursion (λ z. C w z ≡ Less) ys → AllByRecursion (λ z. C w z ≡ Less) (with_sorted x ys)
all_with w x [] h k = (h, tt)
all_with w x (y ∷ ys) h k = go (C x y) (all_with w x ys h k.1)
  where
    go : (o : Ordering) → AllByRecursion (λ z. C w z ≡ Less) (with_sorted x ys) → AllByRecursion (λ z. C w z ≡ Less) (with_name_by o x y ys (with_sorted x ys))
    go Less r = (h, k)
    go Equal r = k
    go Greater r = (k.0, r)

turned : (x y : List ℕ) → C x y ≡ Greater → C y x ≡ Less
turned x y h = total.antisymm y x ∙ ap ordering_reverse h

rises_with : (x : List ℕ) (ys : List (List ℕ)) → IsStrictlySortedBy C ys → IsStrictlySortedBy C (with_sorted x ys)
unfolding IsStrictlySortedBy
rises_with x [] h = (tt, tt)
rises_with x (y ∷ ys) h = go (C x y) refl (rises_with x ys h.1)
  where
    go : (o : Ordering) → C x y ≡ o → IsStrictlySortedBy C (with_sorted x ys) → IsStrictlySortedBy C (with_name_by o x y ys (with_sorted x ys))
    go Less e r = ((e, before_all x y ys e h.0), h)
    go Equal e r = h
    go Greater e r = (all_with y x ys (turned x y e) h.0, r)

rises : (xs : List (List ℕ)) → IsStrictlySortedBy C (sorted_once xs)
unfolding IsStrictlySortedBy
rises [] = tt
rises (x ∷ xs) = rises_with x (sorted_once xs) (rises xs)

twice : (a b : Bool) → a || b ≡ a || (a || b)
twice true b = refl
twice false b = refl

swapped : (a b c : Bool) → a || (b || c) ≡ b || (a || c)
swapped true true c = refl
swapped true false c = refl
swapped false b c = refl

-- a name more is one of them
has_with : (z x : List ℕ) (ys : List (List ℕ)) → has z (with_sorted x ys) ≡ is_eq (C z x) || has z ys
has_with z x [] = refl
has_with z x (y ∷ ys) = go (C x y) refl (has_with z x ys)
  where
    go : (o : Ordering) → C x y ≡ o → has z (with_sorted x ys) ≡ is_eq (C z x) || has z ys → has z (with_name_by o x y ys (with_sorted x ys)) ≡ is_eq (C z x) || (is_eq (C z y) || has z ys)
    go Less e r = refl
    go Equal e r = twice (is_eq (C z y)) (has z ys) ∙ ap (λ u. is_eq (C z u) || (is_eq (C z y) || has z ys)) (sym (exact_bytes x y e))
    go Greater e r = ap (λ b. is_eq (C z y) || b) r ∙ swapped (is_eq (C z y)) (is_eq (C z x)) (has z ys)

has_sorted : (z : List ℕ) (xs : List (List ℕ)) → has z (sorted_once xs) ≡ has z xs
has_sorted z [] = refl
has_sorted z (x ∷ xs) = has_with z x (sorted_once xs) ∙ ap (λ b. is_eq (C z x) || b) (has_sorted z xs)

-- names that stand twice count once
has_dedup : (z k : List ℕ) (xs : List (List ℕ)) → has z (dedup_from is_same_text k xs) ≡ is_eq (C z k) || has z xs
has_dedup z k [] = refl
has_dedup z k (x ∷ xs) = go (is_same_text x k) refl (has_dedup z k xs) (has_dedup z x xs)
  where
    go : (b : Bool) → is_same_text x k ≡ b → has z (dedup_from is_same_text k xs) ≡ is_eq (C z k) || has z xs → has z (dedup_from is_same_text x xs) ≡ is_eq (C z x) || has z xs
        → has z (cond b (dedup_from is_same_text k xs) (k ∷ dedup_from is_same_text x xs)) ≡ is_eq (C z k) || (is_eq (C z x) || has z xs)
    go true e r q = r ∙ twice (is_eq (C z k)) (has z xs) ∙ ap (λ u. is_eq (C z k) || (is_eq (C z u) || has z xs)) (sym (same_is x k e))
    go false e r q = ap (λ b. is_eq (C z k) || b) q

has_dedup_all : (z : List ℕ) (xs : List (List ℕ)) → has z (dedup is_same_text xs) ≡ has z xs
has_dedup_all z [] = refl
has_dedup_all z (x ∷ xs) = has_dedup z x xs

first_in : (x : List ℕ) (xs : List (List ℕ)) → has x (x ∷ xs) ≡ true
first_in x xs = ap (λ o. is_eq o || has x xs) (tied_itself total x)

is_equal : (o : Ordering) → is_eq o ≡ true → o ≡ Equal
is_equal Less h = absurd (true≢false (sym h))
is_equal Equal h = refl
is_equal Greater h = absurd (true≢false (sym h))

-- two lists that rise and have the same names are one
same_rising : (xs ys : List (List ℕ)) → IsStrictlySortedBy C xs → IsStrictlySortedBy C ys → ((z : List ℕ) → has z xs ≡ has z ys) → xs ≡ ys
unfolding IsStrictlySortedBy
same_rising [] [] h k e = refl
same_rising [] (y ∷ ys) h k e = absurd (true≢false (sym (e y ∙ first_in y ys)))
same_rising (x ∷ xs) [] h k e = absurd (true≢false (sym (first_in x xs) ∙ e x))
same_rising (x ∷ xs) (y ∷ ys) h k e = go (C x y) refl (λ f. same_rising xs ys h.1 k.1 f)
  where
    tails : x ≡ y → (z : List ℕ) (b : Bool) → is_eq (C z x) ≡ b → has z xs ≡ has z ys
    tails q z true r =
        let same : z ≡ x = exact_bytes z x (is_equal (C z x) r) in
        ap (λ u. has u xs) same ∙ none_behind x xs h.0 ∙ sym (ap (λ u. has u ys) (same ∙ q) ∙ none_behind y ys k.0)
    tails q z false r = sym (ap (λ b. b || has z xs) r) ∙ e z ∙ ap (λ b. b || has z ys) (ap (λ u. is_eq (C z u)) (sym q) ∙ r)

    go : (o : Ordering) → C x y ≡ o → (((z : List ℕ) → has z xs ≡ has z ys) → xs ≡ ys) → x ∷ xs ≡ y ∷ ys
    go Less p r = absurd (true≢false (sym (first_in x xs) ∙ e x ∙ ap (λ o. is_eq o || has x ys) p ∙ none_behind x ys (before_all x y ys p k.0)))
    go Greater p r =
        let q = turned x y p in
        absurd (true≢false (sym (first_in y ys) ∙ sym (e y) ∙ ap (λ o. is_eq o || has y xs) q ∙ none_behind y xs (before_all y x xs q h.0)))
    go Equal p r =
        let q : x ≡ y = exact_bytes x y p in
        let rest = r (λ z. tails q z (is_eq (C z x)) refl) in
        λ i. q i ∷ rest i

-- names are equal where neither comes first
ties : (x y : List ℕ) → is_same_text x y ≡ eq_by_cmp C x y
ties x y = go (is_same_text x y) (C x y) refl refl
  where
    level : is_same_text x y ≡ true → C x y ≡ Equal
    level h = ap (C x) (sym (same_is x y h)) ∙ tied_itself total x

    go : (b : Bool) (o : Ordering) → is_same_text x y ≡ b → C x y ≡ o → b ≡ is_eq o
    go true Less p q = absurd (true≢false (ap is_eq (sym (level p) ∙ q)))
    go true Equal p q = refl
    go true Greater p q = absurd (true≢false (ap is_eq (sym (level p) ∙ q)))
    go false Less p q = refl
    go false Equal p q = absurd (true≢false (sym (ap (is_same_text x) (sym (exact_bytes x y q)) ∙ same_itself x) ∙ p))
    go false Greater p q = refl

-- names that have been sorted, each once, are those in byte order
pub sorted_is : (names ordered : List (List ℕ)) → IsPermutation names ordered → IsSorted C ordered → dedup is_same_text ordered ≡ sorted_once names
sorted_is names ordered moved up =
    same_rising (dedup is_same_text ordered) (sorted_once names) (IsStrictlySortedBy-dedup total ties ordered up) (rises names)
    (λ z. has_dedup_all z ordered ∙ sym (list_any-IsPermutation (λ y. is_eq (C z y)) names ordered moved) ∙ sym (has_sorted z names))
