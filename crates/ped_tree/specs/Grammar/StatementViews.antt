-- What statements and notes of the code stand for (this project).
use Rattle.std.specs.Prelude.{map}
use Rattle.ped_tree.specs.Grammar.Statement as whole
use Rattle.ped_tree.specs.Grammar.Statement.{Note}
use Rattle.ped_tree.specs.declared.grammar.statements.NoteLine.{NoteLine}
use Rattle.ped_tree.specs.declared.grammar.statements.Statement.{Statement}
use Rattle.ped_tree.specs.declared.grammar.statements.Statements.{Statements}

-- a comment or a directive with its line
abbrev pub note_of : NoteLine → Note
note_of n = record { line = n.line; text = n.text }

-- a statement
abbrev pub statement_of : Statement → whole.Statement
statement_of s = record {
  line = s.line;
  label = s.label;
  text = s.text;
  comments = map note_of s.comments;
  directives = map note_of s.directives;
}

-- all statements of a text
abbrev pub statements_view : Statements → whole.Statements
statements_view s = record {
  statements = map statement_of s.statements;
  comments = map note_of s.comments;
  directives = map note_of s.directives;
  lines = s.lines;
}
