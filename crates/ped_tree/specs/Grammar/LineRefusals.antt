-- The refusals at the lines of a text, and which of them is the first. Lines count from 1 (this project).
use Rattle.std.specs.Prelude.{ℕ, ◌+◌, ◌-◌, List, [], ◌∷◌, ◌++◌, Option, Bool, true, false, ◌||◌, ◌==◌, if◌then◌else◌}
use Rattle.std.specs.List.{flat_map}
use Rattle.std.specs.Str.Lines.{lines}
use Rattle.ped_tree.specs.Grammar.Columns.{is_comment, is_continuation, has_tab, has_bad_label, has_label_field, statement_columns}
use Rattle.ped_tree.specs.Grammar.Characters.{is_quoted, has_bad}
use Rattle.ped_tree.specs.Grammar.Grouping.{NumberedLine, further_lines, joined_columns}
use Rattle.ped_tree.specs.Grammar.LimitNumbers.{most_continuations}
use Rattle.ped_tree.specs.Grammar.Refusal.{Finding, Tab, BadLabel, TooManyContinuations, ContinuationFirst, BadCharacter, OpenConstant, refused_if, first_of}

-- a line that is no comment begins a statement, or continues one that this many lines may still continue, or continues none (ANSI X3.9-1978, section 3.2)
pub data Role : Type 0 where
  Initial : Role
  Continuation : ℕ → Role
  Orphan : Role

-- an initial line has blanks or a label in columns 1 to 5, and a continuation line has blanks there (ANSI X3.9-1978, sections 3.2.2, 3.2.3, 3.4)
abbrev pub label_is_bad : Role → List ℕ → Bool
label_is_bad Initial line = has_bad_label line
label_is_bad (Continuation left) line = has_label_field line
label_is_bad Orphan line = has_label_field line

-- no further line may continue the statement (ANSI X3.9-1978, section 3.2.3)
abbrev pub is_too_many : Role → Bool
is_too_many (Continuation left) = left == 0
is_too_many role = false

-- no statement has begun
abbrev pub is_orphan : Role → Bool
is_orphan Orphan = true
is_orphan role = false

-- the refusals at line n, where these characters of its statement are before it
unfoldable pub at_line : ℕ → Role → List ℕ → List ℕ → List Finding
at_line n role before line =
    refused_if (has_tab line) Tab n
    ++ refused_if (label_is_bad role line) BadLabel n
    ++ refused_if (is_too_many role) TooManyContinuations n
    ++ refused_if (is_orphan role) ContinuationFirst n
    ++ refused_if (has_bad before (statement_columns line)) BadCharacter n

-- the refusals at the further lines of a statement, where this many may still come and these characters are before them
abbrev pub at_further : ℕ → List ℕ → List NumberedLine → List Finding
at_further left before [] = []
at_further left before (l ∷ ls) = at_line l.number (Continuation left) before l.bytes ++ at_further (left - 1) (before ++ statement_columns l.bytes) ls

-- the refusals in the rest of the statement that begins on line first, and at its end: a constant is open where the statement has an odd number of apostrophes
abbrev pub in_rest : ℕ → ℕ → List ℕ → List NumberedLine → List Finding
in_rest first left before further = at_further left before further ++ refused_if (is_quoted (before ++ joined_columns further)) OpenConstant first

-- the refusals in the statements that begin on line n or after it; a statement has at most 19 continuation lines
abbrev pub in_statements : ℕ → List (List ℕ) → List Finding
in_statements n [] = []
in_statements n (line ∷ more) =
    if is_comment line || is_continuation line then in_statements (n + 1) more
    else at_line n Initial [] line ++ in_rest n most_continuations (statement_columns line) (further_lines (n + 1) more) ++ in_statements (n + 1) more

-- the refusals at continuation lines before any initial line
abbrev pub at_orphans : List NumberedLine → List Finding
at_orphans orphans = flat_map (λ l. at_line l.number Orphan [] l.bytes) orphans

-- all refusals of the lines of a text
abbrev pub line_refusals : List ℕ → List Finding
line_refusals text = at_orphans (further_lines 1 (lines text)) ++ in_statements 1 (lines text)

-- the first of them
abbrev pub first_line_refusal : List ℕ → Option Finding
first_line_refusal text = first_of (line_refusals text)
