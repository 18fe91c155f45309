-- The printed lines that lines of the code stand for. Only contracts of private functions use it.
use Rattle.std.specs.Prelude.{ℕ, List, ◌∷◌, ◌++◌, Option}
use Rattle.ped_tree.specs.Printing as plain
use Rattle.ped_tree.specs.Printing.{blanks, piece, continuation_lines}
use Rattle.ped_print.specs.declared.lines.Line.{Line}

-- the line as a plain record
abbrev pub line_of : Line → plain.Line
line_of l = record { statement = l.statement; text = l.text }

-- the lines of a statement's text, its indentation included: an initial line and continuation lines
abbrev pub cut : Option ℕ → List ℕ → List plain.Line
cut statement text = record { statement = statement; text = blanks 6 ++ piece text 0 } ∷ continuation_lines text
