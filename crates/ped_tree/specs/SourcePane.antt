-- The source pane: the printed lines, each after its line number and the number of the statement that begins on it (ParaScope; this project).
use Rattle.std.specs.Prelude.{ℕ, suc, ◌-◌, List, [], ◌∷◌, ◌++◌, length, codes, Option, Some, None}
use Rattle.std.specs.Fmt.{decimal}
use Rattle.ped_tree.specs.Tree.{ProgramTree}
use Rattle.ped_tree.specs.Printing.{Line, blanks, program_lines}

-- a number in this many places, or as many as it has digits (plain words)
abbrev pub right_aligned : ℕ → List ℕ → List ℕ
right_aligned places digits = blanks (places - length digits) ++ digits

-- a line number, in five places or more
abbrev pub line_number_column : ℕ → List ℕ
line_number_column n = right_aligned 5 (decimal n)

-- a statement number, in four places; blanks where no numbered statement begins
abbrev pub statement_number_column : Option ℕ → List ℕ
statement_number_column None = blanks 4
statement_number_column (Some n) = right_aligned 4 (decimal n)

-- a row of the pane
abbrev pub source_row : ℕ → Line → List ℕ
source_row n line = line_number_column n ++ codes " " ++ statement_number_column line.statement ++ codes " " ++ line.text ++ 10 ∷ []

-- the rows from line number n on
abbrev pub source_rows : ℕ → List Line → List ℕ
source_rows n [] = []
source_rows n (l ∷ ls) = source_row n l ++ source_rows (suc n) ls

-- `source` and the number of lines, and a row for each line
abbrev pub source_pane_of : List Line → List ℕ
source_pane_of lines = codes "source " ++ decimal (length lines) ++ 10 ∷ source_rows 1 lines

-- the source pane of a program
abbrev pub source_pane : ProgramTree → List ℕ
source_pane t = source_pane_of (program_lines t)
