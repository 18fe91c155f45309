-- Lines of fixed form by their columns: column n of a line is its n-th byte, and a short line counts as filled with blanks (ANSI X3.9-1978, section 3.2).
use Rattle.std.specs.Prelude.{ℕ, ◌+◌, ◌-◌, ◌*◌, List, ◌++◌, Bool, not, ◌&&◌, ◌||◌, ◌==◌, Option, Some, None, length, take, drop, replicate, slice_index_or, if◌then◌else◌}
use Rattle.std.specs.List.{list_all, list_any}
use Rattle.std.specs.Char.{to_ascii_uppercase}
use Rattle.ped_base.specs.Letters.{is_digit}

-- the byte in column n, where column 1 comes first
abbrev pub column : ℕ → List ℕ → ℕ
column n line = slice_index_or line (n - 1) 32

-- a blank is the space alone (ANSI X3.9-1978, section 3.1.6)
abbrev pub is_blank : ℕ → Bool
is_blank c = c == 32

-- C, c or * in column 1 (ANSI X3.9-1978, section 3.2.1; this project)
abbrev pub has_comment_mark : List ℕ → Bool
has_comment_mark line = column 1 line == 67 || column 1 line == 99 || column 1 line == 42

-- a comment has such a mark, or blanks alone in columns 1 to 72 (ANSI X3.9-1978, section 3.2.1)
unfoldable pub is_comment : List ℕ → Bool
is_comment line = has_comment_mark line || list_all is_blank (take 72 line)

-- a comment with $PED in columns 2 to 5, in any case, is a directive (this project)
unfoldable pub is_directive : List ℕ → Bool
is_directive line = column 2 line == 36 && to_ascii_uppercase (column 3 line) == 80 && to_ascii_uppercase (column 4 line) == 69 && to_ascii_uppercase (column 5 line) == 68

-- another line continues a statement where column 6 is neither blank nor 0 nor a tab; else it begins one (ANSI X3.9-1978, sections 3.2.2, 3.2.3; this project)
unfoldable pub is_continuation : List ℕ → Bool
is_continuation line = not (column 6 line == 32 || column 6 line == 48 || column 6 line == 9)

-- the number n with the digit c after it; any other byte means nothing (ANSI X3.9-1978, section 3.4)
unfoldable pub with_digit : ℕ → ℕ → ℕ
with_digit n c = if is_digit c then n * 10 + (c - 48) else n

-- the number that the digits in columns 1 to 5 write (ANSI X3.9-1978, section 3.4)
unfoldable pub label_number : List ℕ → ℕ
label_number line = with_digit (with_digit (with_digit (with_digit (with_digit 0 (column 1 line)) (column 2 line)) (column 3 line)) (column 4 line)) (column 5 line)

-- the label of an initial line, where it has one (ANSI X3.9-1978, section 3.4)
unfoldable pub label_of : List ℕ → Option ℕ
label_of line = if label_number line == 0 then None else Some (label_number line)

-- an initial line has digits and blanks alone in columns 1 to 5, and not all digits 0 (ANSI X3.9-1978, sections 3.2.2, 3.4)
unfoldable pub has_bad_label : List ℕ → Bool
has_bad_label line = not (list_all (λ c. is_blank c || is_digit c) (take 5 line)) || (list_any is_digit (take 5 line) && label_number line == 0)

-- a continuation line has blanks in columns 1 to 5 (ANSI X3.9-1978, section 3.2.3)
unfoldable pub has_label_field : List ℕ → Bool
has_label_field line = not (list_all is_blank (take 5 line))

-- a tab in columns 1 to 72 (this project)
unfoldable pub has_tab : List ℕ → Bool
has_tab line = list_any (λ c. c == 9) (take 72 line)

-- columns 7 to 72 (ANSI X3.9-1978, section 3.2.2)
unfoldable pub statement_columns : List ℕ → List ℕ
statement_columns line = take 66 (drop 6 line) ++ replicate (66 - length (take 66 (drop 6 line))) 32
