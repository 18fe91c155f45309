-- Printed statements and their lines (ANSI X3.9-1978, section 3.2; this project).
use Rattle.std.specs.Prelude.{ℕ, ◌-◌, List, [], ◌∷◌, ◌++◌, map, codes}
use Rattle.std.specs.List.{flat_map, range_with_len}
use Rattle.ped_tree.specs.Printing.{blanks, indentation, piece, piece_count}

-- what is printed before a statement: a comment by its text, or the directive that rejects a name
pub data PrintedNote : Type 0 where
  a_comment : List ℕ → PrintedNote
  a_rejection : List ℕ → PrintedNote

-- a printed statement, which has no label: the comments and directives before it, by how many loops and IFs it is indented, and its text
pub record PrintedStatement : Type 0 where
  pub notes : List PrintedNote
  pub depth : ℕ
  pub text : List ℕ

-- the line of a comment or a directive
abbrev pub note_line : PrintedNote → List ℕ
note_line (a_comment text) = codes "C" ++ text
note_line (a_rejection name) = codes "C$PED REJECT " ++ name

-- the characters that are cut into the lines of a statement
abbrev pub characters : ℕ → List ℕ → List ℕ
characters depth text = indentation depth ++ text

-- a statement's initial line, blank in columns 1 to 6, and its continuation lines, with 66 of these characters on each
abbrev pub cut_lines : List ℕ → List (List ℕ)
cut_lines cs = (blanks 6 ++ piece cs 0) ∷ map (λ k. codes "     &" ++ piece cs k) (range_with_len 1 (piece_count cs - 1))

-- the lines of a statement, with the comments and directives before it
abbrev pub printed_lines : PrintedStatement → List (List ℕ)
printed_lines s = map note_line s.notes ++ cut_lines (characters s.depth s.text)

-- the lines of statements
abbrev pub all_printed_lines : List PrintedStatement → List (List ℕ)
all_printed_lines ss = flat_map printed_lines ss

-- the text of statements: each line with a newline after it
abbrev pub printed_text : List PrintedStatement → List ℕ
printed_text ss = flat_map (λ line. line ++ 10 ∷ []) (all_printed_lines ss)
