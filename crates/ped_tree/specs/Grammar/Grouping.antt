-- How lines are grouped into statements, with the comments and directives that go with each. Lines count from 1 (ANSI X3.9-1978, section 3.3).
use Rattle.std.specs.Prelude.{ℕ, ◌+◌, List, [], ◌∷◌, ◌++◌, ◌||◌, ◌==◌, not, map, filter, take, drop, length, if◌then◌else◌}
use Rattle.std.specs.List.{flat_map}
use Rattle.std.specs.Char.{to_ascii_uppercase}
use Rattle.std.specs.Str.Lines.{lines}
use Rattle.ped_tree.specs.Grammar.Columns.{is_blank, is_comment, is_directive, is_continuation, label_of, statement_columns}
use Rattle.ped_tree.specs.Grammar.Characters.{text_of}
use Rattle.ped_tree.specs.Grammar.Statement.{Note, Statement, Statements}

-- a line and its number (ANSI X3.9-1978, section 3.2.3)
pub record NumberedLine : Type 0 where
  pub number : ℕ
  pub bytes : List ℕ

-- the continuation lines from line n on, up to the next initial line (ANSI X3.9-1978, section 3.2.3)
abbrev pub further_lines : ℕ → List (List ℕ) → List NumberedLine
further_lines n [] = []
further_lines n (line ∷ more) =
    if is_comment line then further_lines (n + 1) more
    else if is_continuation line then record { number = n; bytes = line } ∷ further_lines (n + 1) more
    else []

-- columns 7 to 72 of lines, joined (ANSI X3.9-1978, section 3.2.3)
abbrev pub joined_columns : List NumberedLine → List ℕ
joined_columns further = flat_map (λ l. statement_columns l.bytes) further

-- a byte and what is kept of the bytes after it: nothing where it is a blank or a carriage return with nothing after it (this project)
abbrev pub with_rest : ℕ → List ℕ → List ℕ
with_rest c [] = if c == 32 || c == 13 then [] else c ∷ []
with_rest c (x ∷ xs) = c ∷ x ∷ xs

-- without the blanks and carriage returns at the end (this project)
abbrev pub trimmed : List ℕ → List ℕ
trimmed [] = []
trimmed (c ∷ cs) = with_rest c (trimmed cs)

-- a comment's text is its columns 2 to 72 (this project)
unfoldable pub comment_text : List ℕ → List ℕ
comment_text line = trimmed (take 71 (drop 1 line))

-- a directive's text is what follows $PED, without blanks and in capitals (this project)
unfoldable pub directive_text : List ℕ → List ℕ
directive_text line = map to_ascii_uppercase (filter (λ c. not (is_blank c)) (drop 4 (comment_text line)))

-- the comment on line n, where that is no directive (this project)
unfoldable pub comment_at : ℕ → List ℕ → List Note
comment_at n line = if is_directive line then [] else record { line = n; text = comment_text line } ∷ []

-- the directive on line n (this project)
unfoldable pub directive_at : ℕ → List ℕ → List Note
directive_at n line = if is_directive line then record { line = n; text = directive_text line } ∷ [] else []

-- the notes between the lines of a statement, from line n on, where these are between the statement's line before and line n (this project)
abbrev pub notes_within : (ℕ → List ℕ → List Note) → List Note → ℕ → List (List ℕ) → List Note
notes_within at before n [] = []
notes_within at before n (line ∷ more) =
    if is_comment line then notes_within at (before ++ at n line) (n + 1) more
    else if is_continuation line then (before ++ notes_within at [] (n + 1) more)
    else []

-- the notes after the last statement, from line n on, where these are directly before line n (this project)
abbrev pub notes_behind : (ℕ → List ℕ → List Note) → List Note → ℕ → List (List ℕ) → List Note
notes_behind at before n [] = before
notes_behind at before n (line ∷ more) =
    if is_comment line then notes_behind at (before ++ at n line) (n + 1) more
    else notes_behind at [] (n + 1) more

-- the statement that begins on line n, with the notes before it
unfoldable pub statement_at : List Note → List Note → ℕ → List ℕ → List (List ℕ) → Statement
statement_at comments directives n line more = record {
  line = n;
  label = label_of line;
  text = text_of (statement_columns line ++ joined_columns (further_lines (n + 1) more));
  comments = comments ++ notes_within comment_at [] (n + 1) more;
  directives = directives ++ notes_within directive_at [] (n + 1) more;
}

-- the statements that begin on line n or after it, where these notes are directly before line n
abbrev pub statements_from : List Note → List Note → ℕ → List (List ℕ) → List Statement
statements_from comments directives n [] = []
statements_from comments directives n (line ∷ more) =
    if is_comment line then statements_from (comments ++ comment_at n line) (directives ++ directive_at n line) (n + 1) more
    else if is_continuation line then statements_from [] [] (n + 1) more
    else statement_at comments directives n line more ∷ statements_from [] [] (n + 1) more

-- the statements of a text, with the notes after the last
abbrev pub statements_of : List ℕ → Statements
statements_of text = record {
  statements = statements_from [] [] 1 (lines text);
  comments = notes_behind comment_at [] 1 (lines text);
  directives = notes_behind directive_at [] 1 (lines text);
  lines = length (lines text);
}
