-- Numbers that words write.
use Rattle.std.proofs.Common.{◌≡◌, ℕ, ◌^◌, ◌<◌, ◌≤◌, Bool, true, false, ◌&&◌, [], ◌∷◌, length, leb, Option, Some, IfSome, Result, refl, sym, ap, subst, ◌∙◌, arith, rules}
use Rattle.std.specs.List.{list_all}
use Rattle.std.specs.Result.{result_ok}
use Rattle.std.specs.Str.{IsUtf8}
use Rattle.std.specs.Str.Parse.{digits_value, ParsesUnsigned}
use Rattle.std.proofs.lemmas.Fmt.{IsAscii-from_digits}
use Rattle.std.proofs.lemmas.Str.{IsUtf8-from_ascii}
use Rattle.std.proofs.lemmas.Str.Parse.{IsNumeralModel, numerals_by_value, digits_value_short, parse_gives}
use Rattle.ped_base.specs.Letters.{is_digit}
use Rattle.ped_base.specs.Lists.{has_some}
use Rattle.ped_script.specs.Words.{Text, is_number, number_of}

pub numerals : IsNumeralModel (λ ds. list_all is_digit ds ≡ true) (digits_value 10)
numerals = numerals_by_value (λ ds. list_all is_digit ds ≡ true) (search rules)

middle : (a b c : Bool) → (a && b && c) ≡ true → b ≡ true
middle true true c e = refl
middle true false c e = absurd cc
middle false b c e = absurd cc

first : (a b c : Bool) → (a && b && c) ≡ true → a ≡ true
first true b c e = refl
first false b c e = absurd cc

all_digits : (word : Text) → is_number word ≡ true → list_all is_digit word ≡ true
all_digits word e = middle (has_some word) _ _ e

some_digit : (word : Text) → has_some word ≡ true → 0 < length word
some_digit [] e = absurd cc
some_digit (c ∷ cs) e = omega arith

-- a number is text
pub number_is_text : (word : Text) → is_number word ≡ true → IsUtf8 word
number_is_text word e = IsUtf8-from_ascii word (IsAscii-from_digits word (numerals.to word (all_digits word e)))

-- a number of so many digits is small
number_small : (word : Text) (most : ℕ) → is_number word ≡ true → length word ≤ most → digits_value 10 word < 10 ^ most
number_small word most e h = digits_value_short numerals word most (all_digits word e) h

-- what is parsed of a number of at most eighteen digits
parsed_number : {E : Type 0} → (word text : Text) (r : Result ℕ E) → is_number word ≡ true → length word ≤ 18 → text ≡ word → ParsesUnsigned 64 10 text r → result_ok r ≡ Some (digits_value 10 word)
parsed_number {E} word text r e h same p =
    let s = number_small word 18 e h in
    let q = subst (λ (t : Text). ParsesUnsigned {E = E} 64 10 t r) same p in
    ap result_ok (parse_gives numerals 64 word r q (all_digits word e) (some_digit word (first _ _ _ e)) (omega (arith, s)))

-- a word that is a number of at most so many digits writes it
pub number_is : (word : Text) (most : ℕ) → is_number word ≡ true → length word ≤ most → number_of most word ≡ Some (digits_value 10 word)
number_is word most e h = let l : leb (length word) most ≡ true = grind arith in rw (e, l) refl

-- what is parsed is what is written
pub parsed_is : {E : Type 0} → (word text : Text) (most : ℕ) (r : Result ℕ E) → is_number word ≡ true → length word ≤ most → most ≤ 18 → text ≡ word → ParsesUnsigned 64 10 text r → result_ok r ≡ number_of most word
parsed_is word text most r e h m same p = parsed_number word text r e (omega arith) same p ∙ sym (number_is word most e h)

-- and it is small
pub parsed_small : {E : Type 0} → (word text : Text) (most : ℕ) (r : Result ℕ E) → is_number word ≡ true → length word ≤ most → most ≤ 18 → text ≡ word → ParsesUnsigned 64 10 text r → IfSome (result_ok r) (λ n. n < 10 ^ most)
parsed_small word text most r e h m same p =
    subst (λ (o : Option ℕ). IfSome o (λ n. n < 10 ^ most)) (sym (parsed_number word text r e (omega arith) same p)) (number_small word most e h)
