-- Names that are numbered: each is a name, two with different numbers differ, and so one of them isn't taken.
use Rattle.std.proofs.Common.{◌≡◌, ℕ, zero, suc, ◌+◌, ◌-◌, ◌^◌, ◌<◌, ◌≤◌, Bool, true, false, ◌&&◌, ◌||◌, nat_eq, eqb-true, List, [], ◌∷◌, length, drop, Some, None, refl, sym, ap, ◌∙◌, arith, le-leb, if◌then◌else◌}
use Rattle.std.specs.List.{list_all}
use Rattle.std.specs.Fmt.{decimal}
use Rattle.std.specs.Str.Parse.{AllDigits, digits_value}
use Rattle.std.proofs.lemmas.Bool.{or_right, false_from_ne_true, eqb-false}
use Rattle.std.proofs.lemmas.Str.Parse.{digit_from_value}
use Rattle.std.proofs.lemmas.Fmt.{decimal_is_IsNumeral, decimal_is_IsNumeral_wide, length-decimal-le}
use Rattle.ped_base.specs.Letters.{is_letter, is_digit, is_alphanumeric, name_of}
use Rattle.ped_base.specs.Lists.{is_same_text, is_among}
use Rattle.ped_base.proofs.NameEquality.{same_is}
use Rattle.ped_links.specs.ped_units.specs.Expanding.{numbered_name, free_from, free_name}
use Rattle.ped_calls.proofs.FreeNames.{passed, stopped}

-- digits are letters or digits
digits_fit : (ds : List ℕ) → AllDigits 10 ds → list_all is_alphanumeric ds ≡ true
digits_fit [] all = refl
digits_fit (c ∷ cs) all =
    let within = digit_from_value c all.0 in
    let digit : is_digit c ≡ true = λ i. le-leb 48 c (omega (arith, within)) i && le-leb c 57 (omega (arith, within)) i in
    λ i. or_right (is_letter c) (is_digit c) digit i && digits_fit cs all.1 i

-- KX with a number is a name
pub numbered_is_name : (n : ℕ) → n < 2 ^ 64 → name_of (numbered_name n) ≡ Some (numbered_name n)
numbered_is_name n h = λ i. if digits i && le-leb (length (numbered_name n)) 31 (omega (arith, short)) i then Some (numbered_name n) else None
  where
    digits : list_all is_alphanumeric (decimal n) ≡ true
    digits = digits_fit (decimal n) (decimal_is_IsNumeral n h).0.1

    short : length (decimal n) ≤ 20
    short = length-decimal-le 20 n (omega arith) (omega (arith, h)) (omega (arith, h))

-- names with the same number
numbered_same : (m n : ℕ) → m < 10 ^ 64 → n < 10 ^ 64 → is_same_text (numbered_name m) (numbered_name n) ≡ true → m ≡ n
numbered_same m n p q h =
    sym (decimal_is_IsNumeral_wide m p).1 ∙ ap (λ (x : List ℕ). digits_value 10 (drop 2 x)) (same_is (numbered_name m) (numbered_name n) h) ∙ (decimal_is_IsNumeral_wide n q).1

-- names without the first that is this one
without : List ℕ → List (List ℕ) → List (List ℕ)
without x [] = []
without x (y ∷ ys) = if is_same_text x y then ys else y ∷ without x ys

shorter_by : (x y : List ℕ) (ys : List (List ℕ)) (b : Bool) → is_same_text x y ≡ b → (is_same_text x y ≡ false → length ys ≡ suc (length (without x ys))) → length (y ∷ ys) ≡ suc (length (without x (y ∷ ys)))
unfolding without
shorter_by x y ys true e more = ap (λ (b : Bool). suc (length (if b then ys else y ∷ without x ys))) (sym e)
shorter_by x y ys false e more = ap suc (more e) ∙ ap (λ (b : Bool). suc (length (if b then ys else y ∷ without x ys))) (sym e)

shorter : (x : List ℕ) (ys : List (List ℕ)) → is_among x ys ≡ true → length ys ≡ suc (length (without x ys))
shorter x [] h = absurd cc
shorter x (y ∷ ys) h = shorter_by x y ys (is_same_text x y) refl (λ e. shorter x ys (ap (λ (b : Bool). b || is_among x ys) (sym e) ∙ h))

-- another name stays
stays_by : (x z y : List ℕ) (ys : List (List ℕ)) (b c : Bool) → is_same_text x y ≡ b → is_same_text z y ≡ c → (is_same_text z x ≡ true → ⊥) → is_among z (y ∷ ys) ≡ true
    → (is_among z ys ≡ true → is_among z (without x ys) ≡ true) → is_among z (without x (y ∷ ys)) ≡ true
unfolding without
stays_by x z y ys true true e f n h more = absurd (n (ap (λ (w : List ℕ). is_same_text z w) (same_is x y e) ∙ f))
stays_by x z y ys true false e f n h more = ap (λ (b : Bool). is_among z (if b then ys else y ∷ without x ys)) e ∙ ap (λ (c : Bool). c || is_among z ys) (sym f) ∙ h
stays_by x z y ys false true e f n h more = ap (λ (b : Bool). is_among z (if b then ys else y ∷ without x ys)) e ∙ ap (λ (c : Bool). c || is_among z (without x ys)) f
stays_by x z y ys false false e f n h more =
    let rest : is_among z ys ≡ true = ap (λ (c : Bool). c || is_among z ys) (sym f) ∙ h in
    ap (λ (b : Bool). is_among z (if b then ys else y ∷ without x ys)) e ∙ ap (λ (c : Bool). c || is_among z (without x ys)) f ∙ more rest

stays : (x z : List ℕ) (ys : List (List ℕ)) → (is_same_text z x ≡ true → ⊥) → is_among z ys ≡ true → is_among z (without x ys) ≡ true
stays x z [] n h = absurd cc
stays x z (y ∷ ys) n h = stays_by x z y ys (is_same_text x y) (is_same_text z y) refl refl n h (stays x z ys n)

-- so many numbered names are taken that there are as many taken names
many_taken : (count : ℕ) (taken : List (List ℕ)) → count < 10 ^ 64 → ((k : ℕ) → 1 ≤ k → k ≤ count → is_among (numbered_name k) taken ≡ true) → count ≤ length taken
many_taken zero taken small all = omega arith
many_taken (suc count) taken small all =
    let x = numbered_name (suc count) in
    let other : (k : ℕ) → 1 ≤ k → k ≤ count → is_same_text (numbered_name k) x ≡ true → ⊥ =
    λ k p q e. let same = numbered_same k (suc count) (omega (arith, q, small)) small e in omega (arith, same, q) in
    let rest = many_taken count (without x taken) (omega (arith, small))
    (λ k p q. stays x (numbered_name k) taken (other k p q) (all k p (omega (arith, q)))) in
    omega (arith, rest, shorter x taken (all (suc count) (omega arith) (omega arith)))

-- all names up to one are taken where those before it and it are
upto : (taken : List (List ℕ)) (k n : ℕ) → 1 ≤ k → k ≤ n → is_among (numbered_name n) taken ≡ true → ((j : ℕ) → 1 ≤ j → j < n → is_among (numbered_name j) taken ≡ true) → is_among (numbered_name k) taken ≡ true
upto taken k n a b h all = by (nat_eq k n) refl
  where
    by : (c : Bool) → nat_eq k n ≡ c → is_among (numbered_name k) taken ≡ true
    by true e = ap (λ (m : ℕ). is_among (numbered_name m) taken) (eqb-true k n e) ∙ h
    by false e = all k a (omega (arith, b, eqb-false k n e))

pick_free : (tries : ℕ) (taken : List (List ℕ)) (n : ℕ) (b : Bool) → is_among (numbered_name n) taken ≡ b
    → (is_among (numbered_name n) taken ≡ true → is_among (free_from tries taken (n + 1)) taken ≡ false) → is_among (free_from (suc tries) taken n) taken ≡ false
pick_free tries taken n true h next = ap (λ (x : List ℕ). is_among x taken) (passed tries taken n h) ∙ next h
pick_free tries taken n false h next = ap (λ (x : List ℕ). is_among x taken) (stopped (suc tries) taken n h) ∙ h

-- where all names before are taken, one of so many more isn't
pub found_free : (tries : ℕ) (taken : List (List ℕ)) (n : ℕ) → length taken + 1 < 10 ^ 64 → n + tries ≡ length taken + 1 → 1 ≤ n
    → ((k : ℕ) → 1 ≤ k → k < n → is_among (numbered_name k) taken ≡ true) → is_among (free_from tries taken n) taken ≡ false
found_free zero taken n small e p all = false_from_ne_true (is_among (numbered_name n) taken) (λ h.
    let many = many_taken n taken (omega (arith, small, e)) (λ k a b. upto taken k n a b h all) in
    omega (arith, many, e))
found_free (suc tries) taken n small e p all =
    pick_free tries taken n (is_among (numbered_name n) taken) refl
    (λ h. found_free tries taken (n + 1) small (omega (arith, e)) (omega arith) (λ k a b. upto taken k n a (omega (arith, b)) h all))

-- the next new name isn't taken, where so few are
pub free_is_free_wide : (taken : List (List ℕ)) → length taken + 1 < 10 ^ 64 → is_among (free_name taken) taken ≡ false
free_is_free_wide taken small = found_free (length taken) taken 1 small (omega arith) (omega arith) (λ k a b. absurd (omega (arith, a, b)))

-- the next new name isn't taken
pub free_is_free : (taken : List (List ℕ)) → length taken + 1 < 2 ^ 64 → is_among (free_name taken) taken ≡ false
free_is_free taken small = free_is_free_wide taken (omega (arith, small))
