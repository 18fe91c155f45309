-- Data lines, and the values that READ takes from them. This form of input replaces the list-directed input of ANSI X3.9-1978, section 13.6: it has no repeat counts, no null values and no slash (this project).
use Rattle.std.specs.Prelude.{ℕ, ℤ, List, [], ◌∷◌, Bool, ◌==◌, ◌&&◌, ◌||◌, Result, Ok, Err, if◌then◌else◌}
use Rattle.std.specs.List.{list_all}
use Rattle.std.specs.Str.Parse.{without_leading_sign, signed_digits_value}
use Rattle.ped_base.specs.Letters.{is_digit}
use Rattle.ped_base.specs.Lists.{has_some}
use Rattle.ped_base.specs.Arithmetic.Faults.{◌>>=◌}
use Rattle.ped_store.specs.Stores.{bad_data, storable}

-- in data a blank is a space or a tab (this project)
abbrev pub is_data_blank : ℕ → Bool
is_data_blank c = c == 32 || c == 9

-- what ends a value on its line: a blank or a comma (this project)
abbrev pub ends_value : ℕ → Bool
ends_value c = is_data_blank c || c == 44

-- without the blanks at the front (this project)
abbrev pub behind_blanks : List ℕ → List ℕ
behind_blanks [] = []
behind_blanks (c ∷ cs) = if is_data_blank c then behind_blanks cs else c ∷ cs

-- the characters up to the next blank or comma (this project)
abbrev pub word_of : List ℕ → List ℕ
word_of [] = []
word_of (c ∷ cs) = if ends_value c then [] else c ∷ word_of cs

-- the part from the next blank or comma on (this project)
abbrev pub behind_word : List ℕ → List ℕ
behind_word [] = []
behind_word (c ∷ cs) = if ends_value c then c ∷ cs else behind_word cs

-- without a comma at the front (this project)
abbrev pub behind_comma : List ℕ → List ℕ
behind_comma [] = []
behind_comma (c ∷ cs) = if c == 44 then cs else c ∷ cs

-- what is left of a line after a value: the blanks go with it, and one comma where one comes; a comma that no value follows is thereby ignored (this project)
abbrev pub behind_value : List ℕ → List ℕ
behind_value text = behind_comma (behind_blanks (behind_word text))

-- a word is a value: one sign or none, and digits (this project)
abbrev pub is_value : List ℕ → Bool
is_value word = has_some (without_leading_sign word) && list_all is_digit (without_leading_sign word)

-- the number that a word is, where it is one that a scalar or an element can hold; else a fault (this project)
abbrev pub number_of : List ℕ → Result ℤ ℕ
number_of word = if is_value word then storable (signed_digits_value 10 word) else Err bad_data

-- data while a READ takes values: what is left of its present line, and the lines after that (this project)
pub record Data : Type 0 where
  pub rest : List ℕ
  pub lines : List (List ℕ)

-- data without a line begun (this project)
abbrev pub not_begun : List (List ℕ) → Data
not_begun lines = record { rest = []; lines = lines }

-- a READ begins at the next data line; what was left of the line before is dropped (this project)
abbrev pub begun : List (List ℕ) → Result Data ℕ
begun [] = Err bad_data
begun (line ∷ more) = Ok (record { rest = line; lines = more })

-- a value, and the data after it
pub record Taken : Type 0 where
  pub value : ℤ
  pub behind : Data

-- the value at the front of a text that these lines follow (this project)
abbrev pub taken_from : List ℕ → List (List ℕ) → Result Taken ℕ
taken_from text lines = number_of (word_of text) >>= λ n. Ok (record { value = n; behind = record { rest = behind_value text; lines = lines } })

-- the next value: on the present line, or, where nothing but blanks is left of that, on the next line that isn't blank (this project)
abbrev pub value_from : List ℕ → List (List ℕ) → Result Taken ℕ
value_from rest [] = if has_some (behind_blanks rest) then taken_from (behind_blanks rest) [] else Err bad_data
value_from rest (line ∷ more) = if has_some (behind_blanks rest) then taken_from (behind_blanks rest) (line ∷ more) else value_from line more

-- the next value of data (this project)
abbrev pub next_value_of : Data → Result Taken ℕ
next_value_of d = value_from d.rest d.lines
