-- What a statement and its parts assign, and the variables of the DO loops in it (ANSI X3.9-1978, sections 10.1, 11.10, 12.8).
use Rattle.std.specs.Prelude.{ℕ, List, [], ◌∷◌, ◌++◌}
use Rattle.std.specs.List.{flat_map}
use Rattle.ped_tree.specs.Tree.{ExprTree, Int, Var, Element, Neg, Add, Sub, Mul, Div, Pow, Call, StmtTree, StmtTrees, Assign, If, Do, Print, Read, Stop, Comment, no_stmts, more_stmts}

-- the variable or array that a left side, or an item of a READ, assigns (ANSI X3.9-1978, sections 10.1, 12.8)
abbrev pub assigned_left : ExprTree → List (List ℕ)
assigned_left (Var x) = x ∷ []
assigned_left (Element x subscripts) = x ∷ []
assigned_left (Int n) = []
assigned_left (Neg a) = []
assigned_left (Add a b) = []
assigned_left (Sub a b) = []
assigned_left (Mul a b) = []
assigned_left (Div a b) = []
assigned_left (Pow a b) = []
assigned_left (Call f arguments) = []

-- what a statement and its parts assign: by an assignment, by a READ, as the variable of a DO, or by a PRIVATE list (ANSI X3.9-1978, sections 10.1, 11.10, 12.8; this project)
abbrev mutual
  pub assigned_in : StmtTree → List (List ℕ)
  assigned_in (Assign left right) = assigned_left left
  assigned_in (If condition then_part else_part) = assigned_in_all then_part ++ assigned_in_all else_part
  assigned_in (Do h body) = h.variable ∷ (h.private ++ assigned_in_all body)
  assigned_in (Print items) = []
  assigned_in (Read items) = flat_map assigned_left items
  assigned_in Stop = []
  assigned_in (Comment text) = []

  -- what statements assign, one after another (this project)
  pub assigned_in_all : StmtTrees → List (List ℕ)
  assigned_in_all no_stmts = []
  assigned_in_all (more_stmts s rest) = assigned_in s ++ assigned_in_all rest
