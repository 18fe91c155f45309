-- An array that stands for a scalar in a DO, with an element for each value of the DO's variable (Allen and Kennedy, section 5.3).
use Rattle.std.specs.Prelude.{ℕ, List, [], ◌∷◌}
use Rattle.std.specs.Int.{int_min, int_max}
use Rattle.ped_tree.specs.Tree.{ExprTree, Element, no_exprs, more_exprs, DeclTree, Integer}
use Rattle.ped_loop_runs.specs.ped_symbolic.specs.Arithmetic.{literal}
use Rattle.ped_rules.specs.Spans.{Span}

-- an array with one subscript (ANSI X3.9-1978, section 5.3)
abbrev pub element : List ℕ → ExprTree → ExprTree
element array e = Element array (more_exprs e no_exprs)

-- the declaration of the array, from the least to the greatest value of the DO's variable (ANSI X3.9-1978, section 5.1)
abbrev pub declaration : List ℕ → Span → DeclTree
declaration array v = Integer ((record { name = array; bounds = (record { lower = literal (int_min v.first v.last); upper = literal (int_max v.first v.last) }) ∷ [] }) ∷ [])
