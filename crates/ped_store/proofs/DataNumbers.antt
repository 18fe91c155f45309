-- Numbers that digits write.
use Rattle.std.proofs.Common.{◌≡◌, ℕ, zero, suc, ◌+◌, ◌-◌, ◌*◌, ◌<◌, Bool, true, List, [], ◌∷◌, length, take, get_or, min, arith}
use Rattle.std.specs.Char.{digit_value}
use Rattle.std.specs.List.{list_all}
use Rattle.std.specs.Str.Parse.{digits_value}
use Rattle.std.proofs.lemmas.Int.Digits.{digits_value_more}
use Rattle.ped_base.specs.Letters.{is_digit}

digit_is : (c : ℕ) → is_digit c ≡ true → digit_value c ≡ c - 48
digit_is c h = grind arith

all_at : (p : ℕ → Bool) (xs : List ℕ) (i : ℕ) → list_all p xs ≡ true → i < length xs → p (get_or xs i 0) ≡ true
all_at p [] i e h = absurd (omega arith)
all_at p (c ∷ cs) zero e h = grind arith
all_at p (c ∷ cs) (suc i) e h = all_at p cs i (grind arith) (omega arith)

-- one more digit, as an integer of 32 bits keeps it
pub saturated_more : (digits : List ℕ) (i : ℕ) → list_all is_digit digits ≡ true → i < length digits
    → min (min (min (digits_value 10 (take i digits)) 4294967295 * 10) 4294967295 + (get_or digits i 0 - 48)) 4294967295 ≡ min (digits_value 10 (take (i + 1) digits)) 4294967295
saturated_more digits i h l =
    let more = digits_value_more 10 digits i l in
    let d = digit_is (get_or digits i 0) (all_at is_digit digits i h l) in
    omega (arith, more, d)
