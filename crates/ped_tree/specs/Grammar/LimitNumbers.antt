-- The limits of the language as numbers; passing one is refused (this project).
use Rattle.std.specs.Prelude.{ℕ}

-- the most characters of a name
abbrev pub most_name : ℕ
most_name = 31

-- the greatest literal
abbrev pub greatest_literal : ℕ
greatest_literal = 2147483647

-- the most dimensions of an array (ANSI X3.9-1978, section 5.1.1)
abbrev pub most_dimensions : ℕ
most_dimensions = 7

-- the most numbered statements of a program
abbrev pub most_statements : ℕ
most_statements = 4000

-- the most DO loops in one another
abbrev pub most_loops_nested : ℕ
most_loops_nested = 6

-- the most loops and IFs in one another, each ELSE IF an IF more
abbrev pub most_blocks_nested : ℕ
most_blocks_nested = 100

-- the most references of one statement
abbrev pub most_references : ℕ
most_references = 64

-- the most characters of one printed statement, without its indentation
abbrev pub most_characters : ℕ
most_characters = 1300

-- the most continuation lines of a statement (ANSI X3.9-1978, section 3.2.3)
abbrev pub most_continuations : ℕ
most_continuations = 19
