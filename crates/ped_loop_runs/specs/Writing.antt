-- Which names statements write, known by their shape alone: so it doesn't count which numbers they have, nor which DO loops are around them (this project).
use Rattle.std.specs.Prelude.{ℕ, List, ◌∷◌, codes, Bool, false, ◌&&◌, ◌||◌, if◌then◌else◌}
use Rattle.std.specs.List.{list_any}
use Rattle.ped_bodies.specs.ped_flow.specs.ped_base.specs.Lists.{is_same_text, is_among}
use Rattle.ped_bodies.specs.ped_flow.specs.ped_tree.specs.Tree.{ExprTree, Int, Var, Element, Neg, Add, Sub, Mul, Div, Pow, Call, StmtTree, StmtTrees, Assign, If, Do, Print, Read, Stop, Comment, no_stmts, more_stmts}
use Rattle.ped_bodies.specs.ped_flow.specs.ped_tree.specs.NamesIn.{all_loop_variables}

-- a write of the name y is one of the name w, where y is no constant (ANSI X3.9-1978, section 8.6)
abbrev pub writes_name : List (List ℕ) → List ℕ → List ℕ → Bool
writes_name constants w y = if is_among y constants then false else is_same_text w y

-- a left side, or an item of a READ, is w, or is an element of it (ANSI X3.9-1978, sections 10.1, 12.8)
abbrev pub writes_left : List (List ℕ) → List ℕ → ExprTree → Bool
writes_left constants w (Var y) = writes_name constants w y
writes_left constants w (Element y es) = writes_name constants w y
writes_left constants w (Int n) = false
writes_left constants w (Neg a) = false
writes_left constants w (Add a b) = false
writes_left constants w (Sub a b) = false
writes_left constants w (Mul a b) = false
writes_left constants w (Div a b) = false
writes_left constants w (Pow a b) = false
writes_left constants w (Call f es) = false

-- the statement by itself writes the name: a DO each of its PRIVATE names, a PRINT the output, a READ the data, too (ANSI X3.9-1978, sections 10.1, 12.8; ParaScope)
abbrev pub writes_itself : List (List ℕ) → List ℕ → StmtTree → Bool
writes_itself constants w (Assign left right) = writes_left constants w left
writes_itself constants w (If c a b) = false
writes_itself constants w (Do h body) = list_any (writes_name constants w) h.private
writes_itself constants w (Print items) = is_same_text w (codes "(OUT)")
writes_itself constants w (Read items) = is_same_text w (codes "(IN)") || list_any (writes_left constants w) items
writes_itself constants w Stop = false
writes_itself constants w (Comment text) = false

-- the statement or one in its parts writes the name (Allen and Kennedy, section 2.2.1)
abbrev mutual
  pub writes : List (List ℕ) → List ℕ → StmtTree → Bool
  writes constants w (Assign left right) = writes_itself constants w (Assign left right)
  writes constants w (If c a b) = all_write constants w a || all_write constants w b
  writes constants w (Do h body) = writes_itself constants w (Do h body) || all_write constants w body
  writes constants w (Print items) = writes_itself constants w (Print items)
  writes constants w (Read items) = writes_itself constants w (Read items)
  writes constants w Stop = false
  writes constants w (Comment text) = false

  -- one of the statements, or one in their parts, writes the name (Allen and Kennedy, section 2.2.1)
  pub all_write : List (List ℕ) → List ℕ → StmtTrees → Bool
  all_write constants w no_stmts = false
  all_write constants w (more_stmts s rest) = writes constants w s || all_write constants w rest

-- a PARALLEL DO, the statement or one in its parts, has in its body a write of its own variable or of that of a DO in it (ParaScope; this project)
abbrev mutual
  pub writes_index : List (List ℕ) → StmtTree → Bool
  writes_index constants (Assign left right) = false
  writes_index constants (If c a b) = some_write_index constants a || some_write_index constants b
  writes_index constants (Do h body) = (h.parallel && list_any (λ w. all_write constants w body) (h.variable ∷ all_loop_variables body)) || some_write_index constants body
  writes_index constants (Print items) = false
  writes_index constants (Read items) = false
  writes_index constants Stop = false
  writes_index constants (Comment text) = false

  -- the same of statements (ParaScope; this project)
  pub some_write_index : List (List ℕ) → StmtTrees → Bool
  some_write_index constants no_stmts = false
  some_write_index constants (more_stmts s rest) = writes_index constants s || some_write_index constants rest
