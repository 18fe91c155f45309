-- Reading the text of a statement that the profile leaves out. Only contracts of private functions use it.
use Rattle.std.specs.Prelude.{ℕ, ◌+◌, ◌-◌, List, [], ◌∷◌, codes, Option, Some, None, Bool, true, false, not, ◌||◌, ◌==◌, if◌then◌else◌}
use Rattle.std.specs.List.{list_any}
use Rattle.ped_base.specs.Letters.{is_digit}
use Rattle.ped_tree.specs.Grammar.Words.{is_numeral}
use Rattle.ped_tree.specs.Grammar.Items.{Reading, says, outside_profile, no_form}
use Rattle.ped_tree.specs.Grammar.OutsideProfile.{begins_with, words_outside}
use Rattle.ped_expressions.specs.Scanning.{Answer, ◌>>=◌, go_on, front, behind, first_is, after}
use Rattle.ped_statements.specs.Listing.{whole, several}
use Rattle.ped_statements.specs.StatementReading.{quoted_at, statement_of}

-- there is one
abbrev pub is_some : {A : Type 0} → Option A → Bool
is_some None = false
is_some (Some x) = true

-- a numeral
abbrev pub numeral_at : List ℕ → Answer (List ℕ)
numeral_at text = if first_is is_digit text then Some (front is_digit text, behind is_digit text) else None

-- a constant that is the whole text
abbrev pub is_constant : List ℕ → Bool
is_constant text = is_some (after (codes "'") text >>= λ q. whole (quoted_at false q))

-- STOP with digits or a constant
unfoldable pub stops_with_code : List ℕ → Bool
stops_with_code text = go_on (after (codes "STOP") text) false (λ r. is_numeral r || is_constant r)

-- what follows the parenthesis that closes the innermost of those that are open, where this many are open and a constant may be open
abbrev pub closing_at : Bool → ℕ → List ℕ → Option (List ℕ)
closing_at quoted depth [] = None
closing_at quoted depth (c ∷ cs) =
    if c == 39 then closing_at (not quoted) depth cs
    else if quoted then closing_at quoted depth cs
    else if c == 40 then closing_at quoted (depth + 1) cs
    else if c == 41 then (if depth == 1 then Some cs else closing_at quoted (depth - 1) cs)
    else closing_at quoted depth cs

-- an IF with labels
unfoldable pub branches_to_labels : List ℕ → Bool
branches_to_labels text = is_some (after (codes "IF(") text >>= λ q. closing_at false 1 q >>= λ r. whole (several numeral_at r))

-- a statement that the profile leaves out
unfoldable pub is_outside : List ℕ → Bool
is_outside text = list_any (begins_with text) words_outside || stops_with_code text || branches_to_labels text

-- what the text of a statement is
unfoldable pub reading_in : (ℕ → ℕ) → List ℕ → Reading
reading_in v text = go_on (statement_of v text) (if is_outside text then outside_profile else no_form) (λ i. says i)
