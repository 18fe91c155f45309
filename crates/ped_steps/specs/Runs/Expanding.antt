-- An array with one dimension, declared in a program, and the values of a DO's variable between constant bounds (Allen and Kennedy, section 5.3; this project).
use Rattle.std.specs.Prelude.{ℕ, ℤ, pos, ◌-ℤ◌, int_le, int_lt, int_rem, List, [], ◌∷◌, ◌++◌, Bool, if◌then◌else◌}
use Rattle.ped_base.specs.Dimensions.{Dimensions}
use Rattle.ped_tree.specs.Tree.{StmtTrees, DeclTree, Integer, ProgramTree}
use Rattle.ped_symbolic.specs.Arithmetic.{literal}

-- the declaration of an array with one dimension (ANSI X3.9-1978, section 5.1)
abbrev pub array_decl : List ℕ → ℤ → ℤ → DeclTree
array_decl array lo hi = Integer ((record { name = array; bounds = (record { lower = literal lo; upper = literal hi }) ∷ [] }) ∷ [])

-- the bounds that it gives the array (ANSI X3.9-1978, section 5.1)
abbrev pub array_bounds : ℤ → ℤ → Dimensions
array_bounds lo hi = record { lower = lo ∷ []; upper = hi ∷ [] }

-- a program with other statements, and the declaration of an array after its others (this project)
abbrev pub with_array : ProgramTree → StmtTrees → List ℕ → ℤ → ℤ → ProgramTree
with_array t body array lo hi = record { decls = t.decls ++ array_decl array lo hi ∷ []; body = body }

-- from the first value in steps of the increment there is a value up to the limit (ANSI X3.9-1978, section 11.10.3)
abbrev pub has_iteration : ℤ → ℤ → ℤ → Bool
has_iteration m1 m2 m3 = if int_lt (pos 0) m3 then int_le m1 m2 else int_le m2 m1

-- the value in the last iteration (ANSI X3.9-1978, section 11.10.3)
abbrev pub last_value : ℤ → ℤ → ℤ → ℤ
last_value m1 m2 m3 = m2 -ℤ int_rem (m2 -ℤ m1) m3
