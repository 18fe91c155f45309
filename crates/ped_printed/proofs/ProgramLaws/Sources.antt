-- The statements that a text is cut into, where no line is refused: their texts can be printed, and so can their comments.
use Rattle.std.proofs.Common.{◌≡◌, ℕ, ◌+◌, Bool, true, false, cond, if◌then◌else◌, List, [], ◌∷◌, ◌++◌, length, take, ◌-◌, get_or, refl, eqb}
use Rattle.std.specs.Prelude.{◌||◌, None}
use Rattle.std.specs.List.{AllByRecursion, list_any, slice_split, onto_first}
use Rattle.std.specs.Str.Lines.{lines, lines_of_parts, strip_carriage_return}
use Rattle.std.proofs.lemmas.Bool.{or_from}
use Rattle.ped_lines.specs.ped_tree.specs.Grammar.Columns.{is_comment, is_directive, is_continuation, statement_columns}
use Rattle.ped_lines.specs.ped_tree.specs.Grammar.Statement.{Note, Statement}
use Rattle.ped_lines.specs.ped_tree.specs.Grammar.Grouping.{further_lines, comment_text, comment_at, directive_at, notes_within, statement_at, statements_from, statements_of}
use Rattle.ped_lines.specs.ped_tree.specs.Grammar.Refusal.{Finding}
use Rattle.ped_lines.specs.ped_tree.specs.Grammar.LineRefusals.{Initial, at_line, in_rest, in_statements, at_orphans, first_line_refusal}
use Rattle.ped_blocks.proofs.BlocksFound.{first_none, left_empty, right_empty}
use Rattle.ped_lines.proofs.PrintedLaws.Grouped.{all_joined}
use Rattle.ped_lines.specs.Printed.Fitting.{IsCommentText}
use Rattle.ped_printed.proofs.ProgramLaws.FitBodyLists.{CommentsFit}
use Rattle.ped_printed.proofs.ProgramLaws.FitBodyWhole.{StatementSourced}
use Rattle.ped_printed.proofs.ProgramLaws.SourcesText.{statement_printable}
use Rattle.ped_printed.proofs.ProgramLaws.SourcesComments.{none_taken, text_fits}

-- no newline among these bytes
pub record IsOneLine (line : List ℕ) : Type 0 where
  pub one : list_any (λ c. eqb c 10) line ≡ false

-- the parts of a text between its newlines

onto_one : (c : ℕ) (parts : List (List ℕ)) → eqb c 10 ≡ false → AllByRecursion IsOneLine parts → AllByRecursion IsOneLine (onto_first c parts)
onto_one c [] e h = (record { one = or_from (eqb c 10) false e refl }, tt)
onto_one c (part ∷ parts) e h = (record { one = or_from (eqb c 10) (list_any (λ c. eqb c 10) part) e h.0.one }, h.1)

parts_one : (text : List ℕ) → AllByRecursion IsOneLine (slice_split (λ c. eqb c 10) text)
parts_one [] = (record { one = refl }, tt)
parts_one (c ∷ cs) = go (eqb c 10) refl (slice_split (λ c. eqb c 10) cs) (parts_one cs) where
  go : (b : Bool) → eqb c 10 ≡ b → (parts : List (List ℕ)) → AllByRecursion IsOneLine parts → AllByRecursion IsOneLine (cond b ([] ∷ parts) (onto_first c parts))
  go true e parts h = (record { one = refl }, h)
  go false e parts h = onto_one c parts e h

stripped_one : (line : List ℕ) → IsOneLine line → IsOneLine (strip_carriage_return line)
stripped_one line h = go (eqb (get_or line (length line - 1) 0) 13) where
  go : (b : Bool) → IsOneLine (if b then take (length line - 1) line else line)
  go true = record { one = none_taken (λ c. eqb c 10) (length line - 1) line h.one }
  go false = h

lines_one_each : (parts : List (List ℕ)) → AllByRecursion IsOneLine parts → AllByRecursion IsOneLine (lines_of_parts parts)
lines_one_each [] h = tt
lines_one_each (part ∷ []) h = go (eqb (length part) 0) where
  go : (b : Bool) → AllByRecursion IsOneLine (if b then [] else part ∷ [])
  go true = tt
  go false = (h.0, tt)
lines_one_each (part ∷ next ∷ parts) h = (stripped_one part h.0, lines_one_each (next ∷ parts) h.1)

pub lines_one : (text : List ℕ) → AllByRecursion IsOneLine (lines text)
lines_one text = lines_one_each (slice_split (λ c. eqb c 10) text) (parts_one text)

-- comments

comment_fits : (n : ℕ) (line : List ℕ) → IsOneLine line → CommentsFit (comment_at n line)
unfolding comment_at
comment_fits n line h = go (is_directive line) refl where
  go : (b : Bool) → is_directive line ≡ b → CommentsFit (if b then [] else record { line = n; text = comment_text line } ∷ [])
  go true e = tt
  go false e = (text_fits line h.one e, tt)

joined_fit : (xs ys : List Note) → CommentsFit xs → CommentsFit ys → CommentsFit (xs ++ ys)
joined_fit xs ys h k = all_joined (λ (n : Note). IsCommentText n.text) xs ys h k

-- a line is a comment, continues the statement, or does neither
by_line : (a b : Bool) (xs ys : List Note) → CommentsFit xs → CommentsFit ys → CommentsFit (if a then xs else if b then ys else [])
by_line true b xs ys f g = f
by_line false true xs ys f g = g
by_line false false xs ys f g = tt

within_fit : (before : List Note) (n : ℕ) (ls : List (List ℕ)) → CommentsFit before → AllByRecursion IsOneLine ls → CommentsFit (notes_within comment_at before n ls)
within_fit before n [] f h = tt
within_fit before n (line ∷ more) f h =
    let longer = within_fit (before ++ comment_at n line) (n + 1) more (joined_fit before (comment_at n line) f (comment_fits n line h.0)) h.1 in
    let others = joined_fit before (notes_within comment_at [] (n + 1) more) f (within_fit [] (n + 1) more tt h.1) in
    by_line (is_comment line) (is_continuation line) _ _ longer others

-- statements

begun_sourced : (comments directives : List Note) (n : ℕ) (line : List ℕ) (more : List (List ℕ)) → CommentsFit comments → AllByRecursion IsOneLine more
    → at_line n Initial [] line ≡ [] → in_rest n 19 (statement_columns line) (further_lines (n + 1) more) ≡ [] → StatementSourced (statement_at comments directives n line more)
unfolding statement_at
begun_sourced comments directives n line more f h here rest = record {
  printable = statement_printable n line (further_lines (n + 1) more) here rest;
  comments = joined_fit comments (notes_within comment_at [] (n + 1) more) f (within_fit [] (n + 1) more tt h);
}

-- from a line on, whether it is a comment, continues a statement or begins one
found_by_line : (a b : Bool) (here behind : List Finding) (s : Statement) (xs ys : List Statement) → (if a || b then behind else here ++ behind) ≡ []
    → (here ≡ [] → StatementSourced s) → (behind ≡ [] → AllByRecursion StatementSourced xs) → (behind ≡ [] → AllByRecursion StatementSourced ys)
    → AllByRecursion StatementSourced (if a then xs else if b then ys else s ∷ ys)
found_by_line true b here behind s xs ys ok begun noted later = noted ok
found_by_line false true here behind s xs ys ok begun noted later = later ok
found_by_line false false here behind s xs ys ok begun noted later = (begun (left_empty here behind ok), later (right_empty here behind ok))

from_sourced : (comments directives : List Note) (n : ℕ) (ls : List (List ℕ)) → CommentsFit comments → AllByRecursion IsOneLine ls → in_statements n ls ≡ [] → AllByRecursion StatementSourced (statements_from comments directives n ls)
from_sourced comments directives n [] f h ok = tt
from_sourced comments directives n (line ∷ more) f h ok =
    let line_found = at_line n Initial [] line in
    let rest_found = in_rest n 19 (statement_columns line) (further_lines (n + 1) more) in
    let noted = from_sourced (comments ++ comment_at n line) (directives ++ directive_at n line) (n + 1) more (joined_fit comments (comment_at n line) f (comment_fits n line h.0)) h.1 in
    found_by_line (is_comment line) (is_continuation line) (line_found ++ rest_found) (in_statements (n + 1) more) (statement_at comments directives n line more) _ (statements_from [] [] (n + 1) more) ok
    (λ none. begun_sourced comments directives n line more f h.1 (left_empty line_found rest_found none) (right_empty line_found rest_found none))
    noted (from_sourced [] [] (n + 1) more tt h.1)

-- what is known of the statements of a text
pub statements_sourced : (text : List ℕ) → first_line_refusal text ≡ None → AllByRecursion StatementSourced (statements_of text).statements
statements_sourced text none =
    let nothing = first_none (at_orphans (further_lines 1 (lines text)) ++ in_statements 1 (lines text)) none in
    from_sourced [] [] 1 (lines text) tt (lines_one text) (right_empty (at_orphans (further_lines 1 (lines text))) (in_statements 1 (lines text)) nothing)
