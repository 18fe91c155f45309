-- Labels of DO statements, as their digits are read.
use Rattle.std.proofs.Common.{◌≡◌, ◌≢◌, ℕ, ◌<◌, ◌≤◌, true, false, cond, List, [], ◌∷◌, length, Some, None, refl, ap, arith, eqb, leb}
use Rattle.std.specs.Char.{digit_value}
use Rattle.std.specs.List.{list_all}
use Rattle.std.specs.Str.Parse.{AllDigits}
use Rattle.std.proofs.lemmas.Str.Parse.{digits_value_short, numerals_by_value, tells_digits}
use Rattle.ped_base.specs.Letters.{is_digit}
use Rattle.ped_tree.specs.Grammar.StatementForms.{is_label}
use Rattle.ped_tree.specs.Grammar.Words.{numeral_value}
use Rattle.ped_expressions.specs.ExpressionReading.{saturated}
use Rattle.ped_statements.proofs.Several.{first_good, others_good}

digits_all : (ds : List ℕ) → list_all is_digit ds ≡ true → AllDigits 10 ds
digits_all [] h = tt
digits_all (c ∷ cs) h =
    let here = first_good (is_digit c) (list_all is_digit cs) h in
    let small : is_digit c ≡ true → digit_value c < 10 = λ e. grind arith in
    (small here, digits_all cs (others_good (is_digit c) (list_all is_digit cs) h))

-- five digits write a number below 100000
digits_small : (ds : List ℕ) → list_all is_digit ds ≡ true → length ds ≤ 5 → numeral_value ds < 100000
digits_small ds h l = digits_value_short (numerals_by_value (AllDigits 10) tells_digits) ds 5 (digits_all ds h) l

-- digits that are a label
pub label_is : (ds : List ℕ) (n : ℕ) → list_all is_digit ds ≡ true → length ds ≢ 0 → length ds ≤ 5 → n ≡ saturated (numeral_value ds) → n ≢ 0 → Some n ≡ cond (is_label ds) (Some (numeral_value ds)) None
label_is [] n h e l v z = absurd (e refl)
label_is (c ∷ cs) n h e l v z =
    let small = digits_small (c ∷ cs) h l in
    let same : n ≡ numeral_value (c ∷ cs) = omega arith in
    let long : leb (length (c ∷ cs)) 5 ≡ true = grind arith in
    let some : eqb (numeral_value (c ∷ cs)) 0 ≡ false = grind arith in
    rw (h, long, some) (ap Some same)
