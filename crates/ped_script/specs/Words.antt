-- The words of a line of a script, and the numbers and names that they write (this project).
use Rattle.std.specs.Prelude.{ℕ, ℤ, pos, neg_ℤ, List, [], ◌∷◌, map, filter, length, Bool, false, not, ◌&&◌, ◌||◌, ◌==◌, nat_le, Option, Some, None, option_map, option_and_then, if◌then◌else◌}
use Rattle.std.specs.Char.{to_ascii_uppercase}
use Rattle.std.specs.List.{list_all, slice_split}
use Rattle.std.specs.Str.Parse.{digits_value}
use Rattle.ped_base.specs.Letters
use Rattle.ped_base.specs.Letters.{is_digit}
use Rattle.ped_base.specs.Lists.{has_some}

-- a word, or a line: its bytes
abbrev pub Text : Type 0
Text = List ℕ

-- in a script a blank is a space or a tab
abbrev pub is_blank : ℕ → Bool
is_blank c = c == 32 || c == 9

-- the words of a line: what is between its blanks
abbrev pub words_of : Text → List Text
words_of line = filter has_some (slice_split is_blank line)

-- 0 is first, and not alone
abbrev pub has_leading_zero : Text → Bool
has_leading_zero [] = false
has_leading_zero (c ∷ cs) = c == 48 && has_some cs

-- a number is written by its digits, without zeros before them
abbrev pub is_number : Text → Bool
is_number word = has_some word && list_all is_digit word && not (has_leading_zero word)

-- the number that a word of at most this many digits writes
abbrev pub number_of : ℕ → Text → Option ℕ
number_of most word = if is_number word && nat_le (length word) most then Some (digits_value 10 word) else None

-- what the words write, where each of them writes something
abbrev pub all_of : {A : Type 0} → (Text → Option A) → List Text → Option (List A)
all_of read [] = Some []
all_of read (w ∷ ws) = option_and_then (λ x. option_map (λ xs. x ∷ xs) (all_of read ws)) (read w)

-- the numbers that the words write, each of at most this many digits
abbrev pub numbers_of : ℕ → List Text → Option (List ℕ)
numbers_of most words = all_of (number_of most) words

-- a number of at most nine digits, or one with a minus sign before it
abbrev pub factor_of : Text → Option ℤ
factor_of [] = None
factor_of (c ∷ cs) = if c == 45 then option_map (λ n. neg_ℤ (pos n)) (number_of 9 cs) else option_map pos (number_of 9 (c ∷ cs))

-- the name that a word writes, in capitals: a letter, and at most thirty letters and digits after it (ANSI X3.9-1978, section 2.2; this project)
abbrev pub name_of : Text → Option Text
name_of word =
    let capitals = map to_ascii_uppercase word in
    if Letters.is_name capitals && nat_le (length capitals) 31 then Some capitals else None

-- the names that the words write, in capitals
abbrev pub names_of : List Text → Option (List Text)
names_of words = all_of name_of words
