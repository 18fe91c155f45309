-- Names that don't occur in a program, for the arrays and variables that steps bring (this project).
use Rattle.std.specs.Prelude.{ℕ, List, [], ◌∷◌, ◌++◌, map, Bool, ◌||◌, Option, Some, None, if◌then◌else◌}
use Rattle.std.specs.List.{flat_map, range_with_len}
use Rattle.std.specs.Fmt.{decimal}
use Rattle.ped_base.specs.Lists.{is_among}
use Rattle.ped_tree.specs.Tree.{DeclTree, Program, Implicit, Integer, Dimension, Parameter, Save, Remark, ProgramTree}
use Rattle.ped_loop_runs.specs.ped_symbols.specs.Kinds.{names_of}

-- the name that a PROGRAM statement gives the program (ANSI X3.9-1978, section 14.1)
abbrev pub program_name : DeclTree → List (List ℕ)
program_name (Program x) = x ∷ []
program_name Implicit = []
program_name (Integer ds) = []
program_name (Dimension ds) = []
program_name (Parameter values) = []
program_name (Save names) = []
program_name (Remark text) = []

-- the name occurs in the program, as that of the program or of anything else; what is in comments doesn't count (this project)
abbrev pub occurs : ProgramTree → List ℕ → Bool
occurs t x = is_among x (names_of t) || is_among x (flat_map program_name t.decls)

-- the first of these names that doesn't occur in the program (this project)
abbrev pub first_free : ProgramTree → List (List ℕ) → Option (List ℕ)
first_free t [] = None
first_free t (x ∷ xs) = if occurs t x then first_free t xs else Some x

-- these letters with numbers after them, from this number on and as many as given (this project)
abbrev pub numbered_names : List ℕ → ℕ → ℕ → List (List ℕ)
numbered_names letters n count = map (λ k. letters ++ decimal k) (range_with_len n count)

-- the greatest number that a name of 31 characters has after two letters (this project)
unfoldable pub most_numbered : ℕ
most_numbered = 99999999999999999999999999999

-- a new name with two letters: the first with 1, 2 and so on after them that doesn't occur in the program; none where it would have more than 31 characters (this project)
abbrev pub fresh_name : List ℕ → ProgramTree → Option (List ℕ)
fresh_name letters t = first_free t (numbered_names letters 1 most_numbered)
