-- The statements that are read back from the lines of printed ones (ANSI X3.9-1978, section 3.2).
use Rattle.std.specs.Prelude.{ℕ, ◌+◌, List, [], ◌∷◌, ◌++◌, length, codes, None}
use Rattle.ped_tree.specs.Grammar.Characters.{text_of}
use Rattle.ped_tree.specs.Grammar.Statement.{Note, Statement, Statements}
use Rattle.ped_lines.specs.Printed.Printed.{PrintedNote, a_comment, a_rejection, PrintedStatement, printed_lines, all_printed_lines}

-- the comments among notes that are from line n on
abbrev pub comments_at : ℕ → List PrintedNote → List Note
comments_at n [] = []
comments_at n (a_comment text ∷ more) = record { line = n; text = text } ∷ comments_at (n + 1) more
comments_at n (a_rejection name ∷ more) = comments_at (n + 1) more

-- the directives among them
abbrev pub directives_at : ℕ → List PrintedNote → List Note
directives_at n [] = []
directives_at n (a_comment text ∷ more) = directives_at (n + 1) more
directives_at n (a_rejection name ∷ more) = record { line = n; text = codes "REJECT" ++ name } ∷ directives_at (n + 1) more

-- the statement whose lines, with the notes before it, begin at line n
abbrev pub cut_at : ℕ → PrintedStatement → Statement
cut_at n s = record {
  line = n + length s.notes;
  label = None;
  text = text_of s.text;
  comments = comments_at n s.notes;
  directives = directives_at n s.notes;
}

-- the statements whose lines begin at line n
abbrev pub cut_from : ℕ → List PrintedStatement → List Statement
cut_from n [] = []
cut_from n (s ∷ ss) = cut_at n s ∷ cut_from (n + length (printed_lines s)) ss

-- what a text of these statements is cut into: nothing follows the last one
abbrev pub cut : List PrintedStatement → Statements
cut ss = record {
  statements = cut_from 1 ss;
  comments = [];
  directives = [];
  lines = length (all_printed_lines ss);
}
