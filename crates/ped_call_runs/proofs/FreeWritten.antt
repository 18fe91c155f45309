-- The next new name isn't taken where it is a name: one with a number that is too great for that is too long.
use Rattle.std.proofs.Common.{◌≡◌, ℕ, zero, suc, ◌+◌, ◌*◌, ◌/◌, ◌%◌, ◌^◌, ◌≤◌, ◌<◌, nat_lt, nat_le, List, [], ◌∷◌, length, Bool, true, false, ◌==◌, eqb-true, leb-true, refl, sym, ap, ◌∙◌, subst, ◌⊎◌, inl, inr, arith, if◌then◌else◌}
use Rattle.std.specs.Fmt.{decimal, digits, digits_onto, digit_glyph}
use Rattle.std.proofs.lemmas.Bool.{and_parts, both_ways, ltb-true, ltb-false}
use Rattle.ped_base.specs.Letters as Letters
use Rattle.ped_base.specs.Lists.{is_among}
use Rattle.ped_tree.specs.Grammar.Words.{is_name}
use Rattle.ped_calls.specs.ped_units.specs.Expanding.{numbered_name, free_from, free_name}
use Rattle.ped_calls.proofs.NumberedNames.{free_is_free_wide}

-- powers of ten
abbrev tens : ℕ → ℕ
tens zero = 1
tens (suc k) = 10 * tens k

more_tens : (p : ℕ) → 1 ≤ p → 1 ≤ 10 * p
more_tens p h = omega (arith, h)

tens_some : (k : ℕ) → 1 ≤ tens k
tens_some zero = omega arith
tens_some (suc k) = more_tens (tens k) (tens_some k)

tenth : (p n : ℕ) → 10 * p ≤ n → p ≤ n / 10
tenth p n h = omega (arith, h)

-- digits come before others
onto_grows : (fuel n : ℕ) (acc : List ℕ) → length acc ≤ length (digits_onto fuel 10 false n acc)
onto_grows zero n acc = omega arith
onto_grows (suc fuel) n acc = go (n / 10 == 0) (onto_grows fuel (n / 10) (digit_glyph false (n % 10) ∷ acc))
  where
    go : (t : Bool) → suc (length acc) ≤ length (digits_onto fuel 10 false (n / 10) (digit_glyph false (n % 10) ∷ acc))
        → length acc ≤ length (if t then digit_glyph false (n % 10) ∷ acc else digits_onto fuel 10 false (n / 10) (digit_glyph false (n % 10) ∷ acc))
    go true m = omega arith
    go false m = omega (arith, m)

-- a great number has many digits
onto_long : (k fuel n : ℕ) (acc : List ℕ) → k < fuel → tens k ≤ n → suc k + length acc ≤ length (digits_onto fuel 10 false n acc)
onto_long k zero n acc h l = absurd (omega (arith, h))
onto_long zero (suc fuel) n acc h l = go (n / 10 == 0) (onto_grows fuel (n / 10) (digit_glyph false (n % 10) ∷ acc))
  where
    go : (t : Bool) → suc (length acc) ≤ length (digits_onto fuel 10 false (n / 10) (digit_glyph false (n % 10) ∷ acc))
        → 1 + length acc ≤ length (if t then digit_glyph false (n % 10) ∷ acc else digits_onto fuel 10 false (n / 10) (digit_glyph false (n % 10) ∷ acc))
    go true m = omega arith
    go false m = omega (arith, m)
onto_long (suc k) (suc fuel) n acc h l =
    subst (λ (t : Bool). suc (suc k) + length acc ≤ length (if t then digit_glyph false (n % 10) ∷ acc else digits_onto fuel 10 false (n / 10) (digit_glyph false (n % 10) ∷ acc))) (sym (some (n / 10 == 0) refl))
    (last (onto_long k fuel (n / 10) (digit_glyph false (n % 10) ∷ acc) (omega (arith, h)) (tenth (tens k) n l)))
  where
    some : (t : Bool) → (n / 10 == 0) ≡ t → (n / 10 == 0) ≡ false
    some false e = e
    some true e =
        let none : n / 10 ≡ 0 = eqb-true (n / 10) 0 e in
        let one = tens_some k in
        let less = tenth (tens k) n l in
        absurd (omega (arith, none, one, less))

    last : suc k + suc (length acc) ≤ length (digits_onto fuel 10 false (n / 10) (digit_glyph false (n % 10) ∷ acc)) → suc (suc k) + length acc ≤ length (digits_onto fuel 10 false (n / 10) (digit_glyph false (n % 10) ∷ acc))
    last m = omega (arith, m)

decimal_long : (n : ℕ) → tens 29 ≤ n → 30 ≤ length (decimal n)
unfolding digits
decimal_long n h = let m = onto_long 29 64 n [] (omega arith) h in omega (arith, m)

great_enough : (n : ℕ) → 10 ^ 64 ≤ n → tens 29 ≤ n
great_enough n h = omega (arith, h)

-- a numbered name with a great number is too long
long_no_name : (n : ℕ) → 10 ^ 64 ≤ n → is_name (numbered_name n) ≡ false
long_no_name n h = go (is_name (numbered_name n)) refl
  where
    go : (t : Bool) → is_name (numbered_name n) ≡ t → t ≡ false
    go false e = refl
    go true e =
        let short : length (numbered_name n) ≤ 31 = leb-true (length (numbered_name n)) 31 (and_parts (Letters.is_name (numbered_name n)) (nat_le (length (numbered_name n)) 31) e).1 in
        let long = decimal_long n (great_enough n h) in
        absurd (omega (arith, short, long))

next_number : (n tries : ℕ) → n + 1 + tries ≡ n + suc tries
next_number n tries = omega arith

-- a name that isn't taken, or the last that is tried
stops_at : (tries : ℕ) (taken : List (List ℕ)) (n : ℕ) → (is_among (free_from tries taken n) taken ≡ false) ⊎ (free_from tries taken n ≡ numbered_name (n + tries))
stops_at zero taken n = inr (ap numbered_name (omega arith))
stops_at (suc tries) taken n = go (is_among (numbered_name n) taken) refl (stops_at tries taken (n + 1))
  where
    go : (t : Bool) → is_among (numbered_name n) taken ≡ t → (is_among (free_from tries taken (n + 1)) taken ≡ false) ⊎ (free_from tries taken (n + 1) ≡ numbered_name (n + 1 + tries))
        → (is_among (if t then free_from tries taken (n + 1) else numbered_name n) taken ≡ false) ⊎ ((if t then free_from tries taken (n + 1) else numbered_name n) ≡ numbered_name (n + suc tries))
    go false e more = inl e
    go true e (inl h) = inl h
    go true e (inr h) = inr (h ∙ ap numbered_name (next_number n tries))

-- a next new name that is a name isn't taken
pub free_named : (taken : List (List ℕ)) → is_name (free_name taken) ≡ true → is_among (free_name taken) taken ≡ false
free_named taken h = go (nat_lt (length taken + 1) (10 ^ 64)) refl
  where
    last : (is_among (free_name taken) taken ≡ false) ⊎ (free_name taken ≡ numbered_name (1 + length taken)) → 10 ^ 64 ≤ 1 + length taken → is_among (free_name taken) taken ≡ false
    last (inl e) great = e
    last (inr e) great = absurd (both_ways (is_name (free_name taken)) (ap is_name e ∙ long_no_name (1 + length taken) great) h)

    go : (t : Bool) → nat_lt (length taken + 1) (10 ^ 64) ≡ t → is_among (free_name taken) taken ≡ false
    go true e = free_is_free_wide taken (ltb-true (length taken + 1) (10 ^ 64) e)
    go false e = let great = ltb-false (length taken + 1) (10 ^ 64) e in last (stops_at (length taken) taken 1) (omega (arith, great))
