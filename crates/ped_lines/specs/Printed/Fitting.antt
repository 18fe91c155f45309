-- Which statements are printed so that their lines can be read back (ANSI X3.9-1978, section 3.2; this project).
use Rattle.std.specs.Prelude.{◌≡◌, ℕ, ◌≤◌, List, [], ◌∷◌, length, Bool, true, false, not, ◌==◌}
use Rattle.std.specs.List.{AllByRecursion, list_all, list_any}
use Rattle.ped_base.specs.Letters.{is_alphanumeric}
use Rattle.ped_tree.specs.Grammar.Columns.{is_blank, is_directive}
use Rattle.ped_tree.specs.Grammar.Characters.{is_quoted, has_bad}
use Rattle.ped_tree.specs.Grammar.Grouping.{trimmed}
use Rattle.ped_lines.specs.Printed.Printed.{PrintedNote, a_comment, a_rejection, PrintedStatement, characters}

-- a comment fits in columns 2 to 72 of one line, has no blank or carriage return at its end, and doesn't begin as a directive does
pub record IsCommentText (text : List ℕ) : Type 0 where
  pub short : length text ≤ 71
  pub one_line : list_any (λ c. c == 10) text ≡ false
  pub ended : trimmed text ≡ text
  pub no_directive : is_directive (67 ∷ text) ≡ false

-- a rejected name has at most 31 characters, capitals and digits
pub record IsRejectedName (name : List ℕ) : Type 0 where
  pub short : length name ≤ 31
  pub letters : list_all is_alphanumeric name ≡ true

-- what is before a statement can be read back
abbrev pub NoteFits : PrintedNote → Type 0
NoteFits (a_comment text) = IsCommentText text
NoteFits (a_rejection name) = IsRejectedName name

-- the first character is no blank
abbrev pub begins_at_once : List ℕ → Bool
begins_at_once [] = false
begins_at_once (c ∷ cs) = not (is_blank c)

-- a statement's text begins at once, has no character at a place where it may not occur and no open constant, and fits with its indentation on an initial line and 19 continuation lines
pub record TextFits (depth : ℕ) (text : List ℕ) : Type 0 where
  pub begins : begins_at_once text ≡ true
  pub allowed : has_bad [] text ≡ false
  pub closed : is_quoted text ≡ false
  pub short : length (characters depth text) ≤ 1320

-- a statement can be read back
pub record StatementFits (s : PrintedStatement) : Type 0 where
  pub notes : AllByRecursion NoteFits s.notes
  pub text : TextFits s.depth s.text

-- and so can all of these
abbrev pub StatementsFit : List PrintedStatement → Type 0
StatementsFit ss = AllByRecursion StatementFits ss
