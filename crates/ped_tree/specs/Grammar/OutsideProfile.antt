-- Statements of FORTRAN 77 that the profile leaves out, by how their text begins (this project).
use Rattle.std.specs.Prelude.{◌≡◌, ℕ, ◌-◌, ◌+◌, List, [], ◌∷◌, ◌++◌, take, length, codes, Bool, true, false, ◌&&◌, ◌==◌, IsTrue, if◌then◌else◌}
use Rattle.std.specs.List.{list_any, list_all, join_by}
use Rattle.ped_tree.specs.Printing.{constant_text}
use Rattle.ped_base.specs.Lists.{has_some, is_same_text}
use Rattle.ped_tree.specs.Grammar.Words.{is_numeral}

-- the text begins with the word
abbrev pub begins_with : List ℕ → List ℕ → Bool
begins_with text word = is_same_text (take (length word) text) word

-- the words that begin a statement which is left out, or which has one form in the profile
abbrev pub words_outside : List (List ℕ)
words_outside =
    codes "REAL" ∷ codes "DOUBLEPRECISION" ∷ codes "COMPLEX" ∷ codes "LOGICAL" ∷ codes "CHARACTER"
    ∷ codes "COMMON" ∷ codes "EQUIVALENCE" ∷ codes "DATA" ∷ codes "ENTRY" ∷ codes "EXTERNAL" ∷ codes "INTRINSIC"
    ∷ codes "FUNCTION" ∷ codes "INTEGERFUNCTION" ∷ codes "INTEGER*" ∷ codes "SUBROUTINE" ∷ codes "BLOCKDATA"
    ∷ codes "IMPLICIT" ∷ codes "CALL" ∷ codes "RETURN" ∷ codes "GOTO" ∷ codes "ASSIGN" ∷ codes "PAUSE"
    ∷ codes "WRITE" ∷ codes "READ" ∷ codes "PRINT" ∷ codes "FORMAT" ∷ codes "OPEN" ∷ codes "CLOSE" ∷ codes "INQUIRE"
    ∷ codes "REWIND" ∷ codes "BACKSPACE" ∷ codes "ENDFILE" ∷ codes "DOWHILE"
    ∷ []

-- the parenthesis before the text stays open up to its end
abbrev pub is_enclosed : Bool → ℕ → List ℕ → Bool
is_enclosed quoted depth [] = if quoted then false else depth == 1
is_enclosed quoted depth (c ∷ cs) =
    if depth == 0 then false
    else if c == 39 then is_enclosed (if quoted then false else true) depth cs
    else if quoted then is_enclosed quoted depth cs
    else if c == 40 then is_enclosed quoted (depth + 1) cs
    else if c == 41 then is_enclosed quoted (depth - 1) cs
    else is_enclosed quoted depth cs

-- numerals with a comma between two, one or more
abbrev pub are_labels : List (List ℕ) → Bool
are_labels labels = has_some labels && list_all is_numeral labels

-- one of the words begins it; STOP with digits or a constant; an IF with labels
pub data IsOutside (text : List ℕ) : Type 0 where
  by_word : IsTrue (list_any (begins_with text) words_outside) → IsOutside text
  stop_with_digits : (digits : List ℕ) → IsTrue (is_numeral digits) → codes "STOP" ++ digits ≡ text → IsOutside text
  stop_with_constant : (constant : List ℕ) → codes "STOP" ++ constant_text constant ≡ text → IsOutside text
  if_with_labels : (inner : List ℕ) (labels : List (List ℕ)) → IsTrue (is_enclosed false 1 inner) → IsTrue (are_labels labels)
      → codes "IF(" ++ inner ++ codes ")" ++ join_by (λ x. x) (codes ",") labels ≡ text → IsOutside text
