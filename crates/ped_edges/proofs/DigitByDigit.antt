-- The digits of a number, one by one.
use Rattle.std.proofs.Common.{◌≡◌, ◌+◌, ◌/◌, ◌%◌, ◌<◌, ◌≤◌, ◌^◌, ℕ, List, [], ◌∷◌, ◌++◌, codes, append_assoc, ap, sym, ◌∙◌, arith}
use Rattle.std.specs.Fmt.{decimal}
use Rattle.std.proofs.lemmas.Fmt.{decimal_digit, decimal_step}
use Rattle.ped_edges.specs.Rows.{place_text}

-- a number of one digit, which is added
pub one_digit : (n : ℕ) (old new : List ℕ) → n < 10 → new ≡ old ++ (48 + n) ∷ [] → new ≡ old ++ decimal n
one_digit n old new few e = e ∙ ap (λ (x : List ℕ). old ++ x) (sym (decimal_digit n few))

-- the last digit behind all others
pub last_digit : (n : ℕ) (old others new : List ℕ) → 10 ≤ n → n < 2 ^ 64 → others ≡ old ++ decimal (n / 10) → new ≡ others ++ (48 + n % 10) ∷ [] → new ≡ old ++ decimal n
last_digit n old others new many small a b =
    b ∙ ap (λ (x : List ℕ). x ++ (48 + n % 10) ∷ []) a
    ∙ append_assoc old (decimal (n / 10)) ((48 + n % 10) ∷ [])
    ∙ ap (λ (x : List ℕ). old ++ x) (sym (decimal_step n many small))

two_digits : (n : ℕ) → 10 ≤ n → n < 100 → (48 + n / 10) ∷ (48 + n % 10) ∷ [] ≡ decimal n
two_digits n many few =
    ap (λ (x : List ℕ). x ++ (48 + n % 10) ∷ []) (sym (decimal_digit (n / 10) (omega (arith, few)))) ∙ sym (decimal_step n many (omega (arith, few)))

three_digits : (n : ℕ) → 100 ≤ n → n < 1000 → (48 + n / 10 / 10) ∷ (48 + n / 10 % 10) ∷ (48 + n % 10) ∷ [] ≡ decimal n
three_digits n many few =
    ap (λ (x : List ℕ). x ++ (48 + n % 10) ∷ []) (two_digits (n / 10) (omega (arith, many)) (omega (arith, few)))
    ∙ sym (decimal_step n (omega (arith, many)) (omega (arith, few)))

-- a reference with a number of one digit, by the text of its statement
place_by : (s n : ℕ) (digits : List ℕ) → n < 10 → digits ≡ decimal s → (digits ++ codes "." ++ (48 + n) ∷ []) ++ 32 ∷ [] ≡ place_text (s, n) ++ 32 ∷ []
place_by s n digits few e = λ i. (e i ++ codes "." ++ sym (decimal_digit n few) i) ++ 32 ∷ []

-- a reference of a statement with one digit
pub one_digit_place : (s n a b : ℕ) → s < 10 → n < 10 → a ≡ 48 + s → b ≡ 48 + n → a ∷ 46 ∷ b ∷ 32 ∷ [] ≡ place_text (s, n) ++ 32 ∷ []
one_digit_place s n a b few small x y = (λ i. x i ∷ 46 ∷ y i ∷ 32 ∷ []) ∙ place_by s n ((48 + s) ∷ []) small (sym (decimal_digit s few))

-- of one with two digits
pub two_digits_place : (s n a b c : ℕ) → 10 ≤ s → s < 100 → n < 10 → a ≡ 48 + s / 10 → b ≡ 48 + s % 10 → c ≡ 48 + n
    → a ∷ b ∷ 46 ∷ c ∷ 32 ∷ [] ≡ place_text (s, n) ++ 32 ∷ []
two_digits_place s n a b c many few small x y z =
    (λ i. x i ∷ y i ∷ 46 ∷ z i ∷ 32 ∷ []) ∙ place_by s n ((48 + s / 10) ∷ (48 + s % 10) ∷ []) small (two_digits s many few)

-- of one with three digits
pub three_digits_place : (s n a b c d : ℕ) → 100 ≤ s → s < 1000 → n < 10 → a ≡ 48 + s / 10 / 10 → b ≡ 48 + s / 10 % 10 → c ≡ 48 + s % 10 → d ≡ 48 + n
    → a ∷ b ∷ c ∷ 46 ∷ d ∷ 32 ∷ [] ≡ place_text (s, n) ++ 32 ∷ []
three_digits_place s n a b c d many few small x y z w =
    (λ i. x i ∷ y i ∷ z i ∷ 46 ∷ w i ∷ 32 ∷ []) ∙ place_by s n ((48 + s / 10 / 10) ∷ (48 + s / 10 % 10) ∷ (48 + s % 10) ∷ []) small (three_digits s many few)
