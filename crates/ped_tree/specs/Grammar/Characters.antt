-- The characters of a statement: columns 7 to 72 of its lines, joined. What is between apostrophes is a character constant, and an apostrophe in a constant is written as two (ANSI X3.9-1978, section 3.1).
use Rattle.std.specs.Prelude.{ℕ, ◌%◌, List, [], ◌∷◌, ◌++◌, Bool, false, not, ◌&&◌, ◌||◌, ◌==◌, nat_le, codes, count_by, if◌then◌else◌}
use Rattle.std.specs.List.{list_any, list_all}
use Rattle.std.specs.Char.{is_ascii_alphabetic, to_ascii_uppercase}
use Rattle.ped_base.specs.Letters.{is_digit}
use Rattle.ped_base.specs.Lists.{has_some}
use Rattle.ped_tree.specs.Grammar.Columns.{is_blank}

-- what may occur outside constants: letters, digits, blanks, and the special characters of FORTRAN 77 (ANSI X3.9-1978, section 3.1; this project)
abbrev pub is_character : ℕ → Bool
is_character c = is_ascii_alphabetic c || is_digit c || list_any (λ x. x == c) (codes " =+-*/(),.'$:")

-- what may occur in a constant (this project)
abbrev pub is_printable : ℕ → Bool
is_printable c = nat_le 32 c && nat_le c 126

-- the next character is in a constant where an odd number of apostrophes is before it in its statement (ANSI X3.9-1978, section 4.8.1)
unfoldable pub is_quoted : List ℕ → Bool
is_quoted before = count_by (λ c. c == 39) before % 2 == 1

-- the character c may not follow these (this project)
unfoldable pub is_bad : List ℕ → ℕ → Bool
is_bad before c = not (if is_quoted before then is_printable c else is_character c)

-- some character is at a place where it may not occur (this project)
abbrev pub has_bad : List ℕ → List ℕ → Bool
has_bad before [] = false
has_bad before (c ∷ cs) = is_bad before c || has_bad (before ++ c ∷ []) cs

-- these characters end with an apostrophe and one blank or more (this project)
abbrev pub ends_apart : List ℕ → Bool
ends_apart [] = false
ends_apart (c ∷ cs) = (c == 39 && has_some cs && list_all is_blank cs) || ends_apart cs

-- in a constant a character is kept as it is; outside, blanks mean nothing and small letters are capitals, but a constant that begins after another and blanks is kept apart from it by one blank (ANSI X3.9-1978, sections 3.1.6, 4.8.1; this project)
unfoldable pub kept : List ℕ → ℕ → List ℕ
kept before c =
    if is_quoted before then c ∷ []
    else if is_blank c then []
    else if c == 39 && ends_apart before then 32 ∷ 39 ∷ []
    else to_ascii_uppercase c ∷ []

-- what is kept of characters that follow these (ANSI X3.9-1978, sections 3.1.6, 4.8.1; this project)
abbrev pub text_behind : List ℕ → List ℕ → List ℕ
text_behind before [] = []
text_behind before (c ∷ cs) = kept before c ++ text_behind (before ++ c ∷ []) cs

-- the text of a statement's characters (ANSI X3.9-1978, sections 3.1.6, 4.8.1; this project)
abbrev pub text_of : List ℕ → List ℕ
text_of characters = text_behind [] characters
