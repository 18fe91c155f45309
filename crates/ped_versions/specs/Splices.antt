-- A source with lines put in the place of others, and the statements that are kept then (this project).
use Rattle.std.specs.Prelude.{ℕ, ◌+◌, ◌-◌, min, List, [], ◌∷◌, ◌++◌, map, take, drop, length, Bool, ◌&&◌, nat_le}
use Rattle.std.specs.List.{flat_map, range_with_len}
use Rattle.std.specs.Str.Lines.{lines}
use Rattle.ped_tree.specs.Tree.{ProgramTree}
use Rattle.ped_tree.specs.Numbering.{statements_count}
use Rattle.ped_tree.specs.Printing.{begun_in, program_lines}

-- lines as a text: each with its line feed
abbrev pub text_of_lines : List (List ℕ) → List ℕ
text_of_lines ls = flat_map (λ l. l ++ 10 ∷ []) ls

-- a text with new lines after as many of its first lines as are kept, in the place of as many lines as go
abbrev pub spliced : List ℕ → ℕ → ℕ → List (List ℕ) → List ℕ
spliced text kept gone new = text_of_lines (take kept (lines text) ++ new ++ drop (kept + gone) (lines text))

-- how many lines a text has
abbrev pub line_count : List ℕ → ℕ
line_count text = length (lines text)

-- these are the numbers of a first and a last line of the text, which count from 1
abbrev pub are_lines : List ℕ → ℕ → ℕ → Bool
are_lines text first last = nat_le 1 first && nat_le first last && nat_le last (line_count text)

-- this is the number of a line of the text, or 0 for its front
abbrev pub is_place : List ℕ → ℕ → Bool
is_place text after = nat_le after (line_count text)

-- how many statements an edit keeps at the front: those that begin before the first line that it touches, where this many lines are kept, as far as the new program has as many
abbrev pub kept_front : ProgramTree → ProgramTree → ℕ → ℕ
kept_front old new kept = min (begun_in (take kept (program_lines old))) (statements_count new.body)

-- how many it keeps at the back: those that begin after the last line that it touches, as far as the new program has as many after those at the front
abbrev pub kept_back : ProgramTree → ProgramTree → ℕ → ℕ → ℕ
kept_back old new kept gone = min (begun_in (drop (kept + gone) (program_lines old))) (statements_count new.body - kept_front old new kept)

-- of two programs with these numbers of statements, as many at the front as given keep their numbers, and as many at the back as given count from the end
abbrev pub kept_ends : ℕ → ℕ → ℕ → ℕ → List (ℕ × ℕ)
kept_ends before behind front back =
    map (λ i. (i, i)) (range_with_len 1 front) ++ map (λ j. (before - back + j, behind - back + j)) (range_with_len 1 back)

-- the statements that an edit of the first program keeps in the second, where as many of its lines as given are kept at the front and as many as given go: the number of each before the edit and after it
abbrev pub edit_keep : ProgramTree → ProgramTree → ℕ → ℕ → List (ℕ × ℕ)
edit_keep old new kept gone =
    kept_ends (statements_count old.body) (statements_count new.body) (kept_front old new kept) (kept_back old new kept gone)
