-- The names that occur in a tree, in text order. An intrinsic function's name is none of them (this project).
use Rattle.std.specs.Prelude.{ℕ, List, [], ◌∷◌, ◌++◌, if◌then◌else◌}
use Rattle.std.specs.List.{flat_map}
use Rattle.ped_base.specs.Lists.{is_among}
use Rattle.ped_tree.specs.Tree.{ExprTree, ExprTrees, Int, Var, Element, Neg, Add, Sub, Mul, Div, Pow, Call, no_exprs, more_exprs, CondTree, Rel, Not, And, Or, ItemTree, Value, Text, Head, StmtTree, StmtTrees, Assign, If, Do, Print, Read, Stop, Comment, no_stmts, more_stmts, DeclaratorTree, DeclTree, Program, Implicit, Integer, Dimension, Parameter, Save, Remark}

-- the names in an expression
abbrev mutual
  pub expr_names : ExprTree → List (List ℕ)
  expr_names (Int n) = []
  expr_names (Var x) = x ∷ []
  expr_names (Element x subscripts) = x ∷ exprs_names subscripts
  expr_names (Neg a) = expr_names a
  expr_names (Add a b) = expr_names a ++ expr_names b
  expr_names (Sub a b) = expr_names a ++ expr_names b
  expr_names (Mul a b) = expr_names a ++ expr_names b
  expr_names (Div a b) = expr_names a ++ expr_names b
  expr_names (Pow a b) = expr_names a ++ expr_names b
  expr_names (Call f arguments) = exprs_names arguments

  pub exprs_names : ExprTrees → List (List ℕ)
  exprs_names no_exprs = []
  exprs_names (more_exprs e rest) = expr_names e ++ exprs_names rest

-- the names in a condition
abbrev pub cond_names : CondTree → List (List ℕ)
cond_names (Rel r a b) = expr_names a ++ expr_names b
cond_names (Not a) = cond_names a
cond_names (And a b) = cond_names a ++ cond_names b
cond_names (Or a b) = cond_names a ++ cond_names b

-- the names in an item of a PRINT
abbrev pub item_names : ItemTree → List (List ℕ)
item_names (Value e) = expr_names e
item_names (Text t) = []

-- the names in the header of a DO: rejected names, the variable, the bounds and the increment, private names
abbrev pub head_names : Head → List (List ℕ)
head_names h = h.rejected ++ h.variable ∷ (expr_names h.first ++ expr_names h.last ++ expr_names h.step ++ h.private)

-- the names in a statement, its left side first
abbrev mutual
  pub stmt_names : StmtTree → List (List ℕ)
  stmt_names (Assign left right) = expr_names left ++ expr_names right
  stmt_names (If condition then_part else_part) = cond_names condition ++ stmts_names then_part ++ stmts_names else_part
  stmt_names (Do h body) = head_names h ++ stmts_names body
  stmt_names (Print items) = flat_map item_names items
  stmt_names (Read items) = flat_map expr_names items
  stmt_names Stop = []
  stmt_names (Comment text) = []

  pub stmts_names : StmtTrees → List (List ℕ)
  stmts_names no_stmts = []
  stmts_names (more_stmts s rest) = stmt_names s ++ stmts_names rest

-- the names in a declarator: its own and those in its bounds
abbrev pub declarator_names : DeclaratorTree → List (List ℕ)
declarator_names d = d.name ∷ flat_map (λ b. expr_names b.lower ++ expr_names b.upper) d.bounds

-- the names in a declaration; the program's name counts nowhere
abbrev pub decl_names : DeclTree → List (List ℕ)
decl_names (Program x) = []
decl_names Implicit = []
decl_names (Integer ds) = flat_map declarator_names ds
decl_names (Dimension ds) = flat_map declarator_names ds
decl_names (Parameter values) = flat_map (λ v. v.0 ∷ expr_names v.1) values
decl_names (Save names) = names
decl_names (Remark text) = []

-- each name once, where it occurs first, without those seen before (ANSI X3.9-1978, section 8.9; this project)
abbrev pub first_occurrences : List (List ℕ) → List (List ℕ) → List (List ℕ)
first_occurrences seen [] = []
first_occurrences seen (x ∷ xs) = if is_among x seen then first_occurrences seen xs else x ∷ first_occurrences (x ∷ seen) xs

-- the variables of the DO loops in a statement and in its parts, in text order (ANSI X3.9-1978, section 11.10)
abbrev mutual
  pub loop_variables : StmtTree → List (List ℕ)
  loop_variables (Assign left right) = []
  loop_variables (If condition then_part else_part) = all_loop_variables then_part ++ all_loop_variables else_part
  loop_variables (Do h body) = h.variable ∷ all_loop_variables body
  loop_variables (Print items) = []
  loop_variables (Read items) = []
  loop_variables Stop = []
  loop_variables (Comment text) = []

  -- the variables of the DO loops in statements (ANSI X3.9-1978, section 11.10)
  pub all_loop_variables : StmtTrees → List (List ℕ)
  all_loop_variables no_stmts = []
  all_loop_variables (more_stmts s rest) = loop_variables s ++ all_loop_variables rest

-- the PRIVATE names of the DO loops in a statement and in its parts, in text order (ParaScope)
abbrev mutual
  pub private_names_in : StmtTree → List (List ℕ)
  private_names_in (Assign left right) = []
  private_names_in (If condition then_part else_part) = all_private_names_in then_part ++ all_private_names_in else_part
  private_names_in (Do h body) = h.private ++ all_private_names_in body
  private_names_in (Print items) = []
  private_names_in (Read items) = []
  private_names_in Stop = []
  private_names_in (Comment text) = []

  -- the PRIVATE names of the DO loops in statements (ParaScope)
  pub all_private_names_in : StmtTrees → List (List ℕ)
  all_private_names_in no_stmts = []
  all_private_names_in (more_stmts s rest) = private_names_in s ++ all_private_names_in rest

-- the names that a declaration saves (ANSI X3.9-1978, section 8.9)
abbrev pub saved_in : DeclTree → List (List ℕ)
saved_in (Program x) = []
saved_in Implicit = []
saved_in (Integer ds) = []
saved_in (Dimension ds) = []
saved_in (Parameter values) = []
saved_in (Save names) = names
saved_in (Remark text) = []
