-- What is still to come from a text that has been read up to a line. Only contracts of private functions use it.
use Rattle.std.specs.Prelude.{◌≡◌, ℕ, ◌+◌, List, [], ◌∷◌, ◌++◌, Option, Some, None, map}
use Rattle.ped_tree.specs.Grammar.Statement as whole
use Rattle.ped_tree.specs.Grammar.Statement.{Note}
use Rattle.ped_tree.specs.Grammar.Refusal.{Finding, OpenConstant, refused_if, earliest}
use Rattle.ped_tree.specs.Grammar.Characters.{has_bad, text_behind}
use Rattle.ped_tree.specs.Grammar.Grouping.{further_lines, joined_columns, comment_at, directive_at, notes_within, notes_behind, statements_from}
use Rattle.ped_tree.specs.Grammar.LineRefusals as lines
use Rattle.ped_tree.specs.Grammar.LineRefusals.{at_orphans, in_rest, in_statements}
use Rattle.ped_tree.specs.Grammar.StatementViews.{note_of, statement_of}
use Rattle.ped_tree.specs.Grammar.RefusalViews.{found_of}
use Rattle.ped_lines.specs.Quoting.{is_inside, quoting_of, front_of}
use Rattle.ped_lines.specs.declared.characters.OpenText.{OpenText}
use Rattle.ped_lines.specs.declared.refusals.Role.{Role}
use Rattle.ped_lines.specs.declared.refusals.Role.TheVariants as role
use Rattle.ped_lines.specs.declared.cutting.OpenStatement.{OpenStatement}
use Rattle.ped_lines.specs.declared.cutting.Cutting.{Cutting}

-- the role of a line in statements
abbrev pub role_of : Role → lines.Role
role_of role.Initial = lines.Initial
role_of (role.Continuation left) = lines.Continuation left
role_of role.Orphan = lines.Orphan

-- the text with the columns of one more line, whatever is before them
pub record WithColumns (old : OpenText) (columns : List ℕ) (new : OpenText) : Type 0 where
  pub text : (before : List ℕ) → quoting_of before ≡ old.quoting → new.bytes.items ≡ old.bytes.items ++ text_behind before columns
  pub quoting : (before : List ℕ) → quoting_of before ≡ old.quoting → quoting_of (before ++ columns) ≡ new.quoting
  pub bad : (before : List ℕ) → quoting_of before ≡ old.quoting → has_bad before columns ≡ new.bad

-- the refusals where the statement that was begun before has no further line
abbrev pub left_open : Option OpenStatement → List Finding
left_open None = []
left_open (Some o) = refused_if (is_inside o.text.quoting) OpenConstant o.line

-- the refusals from line n on, where a statement may have begun before
abbrev pub refusals_left : Option OpenStatement → ℕ → List (List ℕ) → List Finding
refusals_left None n rest = at_orphans (further_lines n rest) ++ in_statements n rest
refusals_left (Some o) n rest = in_rest o.line o.left (front_of o.text.quoting) (further_lines n rest) ++ in_statements n rest

-- the statement that was begun, where no further line comes
abbrev pub ended_statement : OpenStatement → whole.Statement
ended_statement o = record {
  line = o.line;
  label = o.label;
  text = o.text.bytes.items;
  comments = map note_of o.comments.items;
  directives = map note_of o.directives.items;
}

-- the same, where one was begun
abbrev pub ended : Option OpenStatement → List whole.Statement
ended None = []
ended (Some o) = ended_statement o ∷ []

-- the statement that was begun, with the lines from line n on, where these comments and directives are before line n
abbrev pub begun : Option OpenStatement → List Note → List Note → ℕ → List (List ℕ) → List whole.Statement
begun None comments directives n rest = []
begun (Some o) comments directives n rest = record {
  line = o.line;
  label = o.label;
  text = o.text.bytes.items ++ text_behind (front_of o.text.quoting) (joined_columns (further_lines n rest));
  comments = map note_of o.comments.items ++ notes_within comment_at comments n rest;
  directives = map note_of o.directives.items ++ notes_within directive_at directives n rest;
} ∷ []

-- all statements, where the text goes on with these lines from line n on
abbrev pub statements_with : Cutting → ℕ → List (List ℕ) → List whole.Statement
statements_with c n rest =
    let comments = map note_of c.comments.items in
    let directives = map note_of c.directives.items in
    map statement_of c.done.items ++ begun c.current comments directives n rest ++ statements_from comments directives n rest

-- the statements and the notes after the last, where these lines follow and the text has this many lines in all
abbrev pub cut_with : Cutting → ℕ → List (List ℕ) → ℕ → whole.Statements
cut_with c n rest count = record {
  statements = statements_with c n rest;
  comments = notes_behind comment_at (map note_of c.comments.items) n rest;
  directives = notes_behind directive_at (map note_of c.directives.items) n rest;
  lines = count;
}

-- the line n has been read: whatever follows, the first refusal and what is cut stay the same
pub record WithLine (old : Cutting) (n : ℕ) (line : List ℕ) (new : Cutting) : Type 0 where
  pub refusals : (rest : List (List ℕ)) → earliest (found_of new.found) (refusals_left new.current (n + 1) rest) ≡ earliest (found_of old.found) (refusals_left old.current n (line ∷ rest))
  pub cut : (rest : List (List ℕ)) (count : ℕ) → cut_with new (n + 1) rest count ≡ cut_with old n (line ∷ rest) count
