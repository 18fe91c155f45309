-- What a statement by itself reads and writes, in order: the occurrences of variables that are references (Allen and Kennedy, section 2.2.1).
use Rattle.std.specs.Prelude.{ℕ, List, [], ◌∷◌, ◌++◌, map, codes, Bool, true, false, if◌then◌else◌}
use Rattle.std.specs.List.{flat_map}
use Rattle.ped_base.specs.Lists.{is_among}
use Rattle.ped_tree.specs.Tree.{ExprTree, ExprTrees, Int, Var, Element, Neg, Add, Sub, Mul, Div, Pow, Call, no_exprs, more_exprs, CondTree, Rel, Not, And, Or, ItemTree, Value, Text, StmtTree, Assign, If, Do, Print, Read, Stop, Comment, DeclTree, Program, Implicit, Integer, Dimension, Parameter, Save, Remark}

-- a variable that is read or written, with its subscripts, none for a scalar
pub record Access : Type 0 where
  pub name : List ℕ
  pub writes : Bool
  pub subscripts : List ExprTree

-- expressions as a list (plain words)
abbrev pub listed : ExprTrees → List ExprTree
listed no_exprs = []
listed (more_exprs e rest) = e ∷ listed rest

-- a read of a variable with these subscripts
abbrev pub read_of : List ℕ → List ExprTree → Access
read_of x subscripts = record { name = x; writes = false; subscripts = subscripts }

-- a write of a variable with these subscripts
abbrev pub write_of : List ℕ → List ExprTree → Access
write_of x subscripts = record { name = x; writes = true; subscripts = subscripts }

-- a named constant is no variable, wherever it is (ANSI X3.9-1978, section 8.6)
abbrev pub unless_constant : List (List ℕ) → Access → List Access
unless_constant constants a = if is_among a.name constants then [] else a ∷ []

-- what an expression reads, left to right, an element after its subscripts, by the named constants and the variables of the DO loops around it; in the body of a DO a read of its variable is no reference (Allen and Kennedy, section 2.2.1; this project)
abbrev mutual
  pub expr_reads : List (List ℕ) → List (List ℕ) → ExprTree → List Access
  expr_reads constants indices (Int n) = []
  expr_reads constants indices (Var x) = if is_among x indices then [] else unless_constant constants (read_of x [])
  expr_reads constants indices (Element x subscripts) = exprs_reads constants indices subscripts ++ unless_constant constants (read_of x (listed subscripts))
  expr_reads constants indices (Neg a) = expr_reads constants indices a
  expr_reads constants indices (Add a b) = expr_reads constants indices a ++ expr_reads constants indices b
  expr_reads constants indices (Sub a b) = expr_reads constants indices a ++ expr_reads constants indices b
  expr_reads constants indices (Mul a b) = expr_reads constants indices a ++ expr_reads constants indices b
  expr_reads constants indices (Div a b) = expr_reads constants indices a ++ expr_reads constants indices b
  expr_reads constants indices (Pow a b) = expr_reads constants indices a ++ expr_reads constants indices b
  expr_reads constants indices (Call f arguments) = exprs_reads constants indices arguments

  -- what expressions read, one after another (Allen and Kennedy, section 2.2.1; this project)
  pub exprs_reads : List (List ℕ) → List (List ℕ) → ExprTrees → List Access
  exprs_reads constants indices no_exprs = []
  exprs_reads constants indices (more_exprs e rest) = expr_reads constants indices e ++ exprs_reads constants indices rest

-- what a condition reads, left to right (Allen and Kennedy, section 2.2.1; this project)
abbrev pub cond_reads : List (List ℕ) → List (List ℕ) → CondTree → List Access
cond_reads constants indices (Rel r a b) = expr_reads constants indices a ++ expr_reads constants indices b
cond_reads constants indices (Not a) = cond_reads constants indices a
cond_reads constants indices (And a b) = cond_reads constants indices a ++ cond_reads constants indices b
cond_reads constants indices (Or a b) = cond_reads constants indices a ++ cond_reads constants indices b

-- what a left side, or an item of a READ, reads and then writes (ANSI X3.9-1978, sections 10.1, 12.8)
abbrev pub left_accesses : List (List ℕ) → List (List ℕ) → ExprTree → List Access
left_accesses constants indices (Var x) = unless_constant constants (write_of x [])
left_accesses constants indices (Element x subscripts) = exprs_reads constants indices subscripts ++ unless_constant constants (write_of x (listed subscripts))
left_accesses constants indices (Int n) = []
left_accesses constants indices (Neg a) = []
left_accesses constants indices (Add a b) = []
left_accesses constants indices (Sub a b) = []
left_accesses constants indices (Mul a b) = []
left_accesses constants indices (Div a b) = []
left_accesses constants indices (Pow a b) = []
left_accesses constants indices (Call f arguments) = []

-- what an item of a PRINT reads (Allen and Kennedy, section 2.2.1; this project)
abbrev pub item_reads : List (List ℕ) → List (List ℕ) → ItemTree → List Access
item_reads constants indices (Value e) = expr_reads constants indices e
item_reads constants indices (Text t) = []

-- a write of each private name (this project)
abbrev pub private_writes : List (List ℕ) → List (List ℕ) → List Access
private_writes constants names = flat_map (λ x. unless_constant constants (write_of x [])) names

-- the accesses of a statement by itself: the right side and then the left; a DO's bounds and a write of each private name; the items of a PRINT and then the output; the data of a READ and then its items (this project)
abbrev pub own_accesses : List (List ℕ) → List (List ℕ) → StmtTree → List Access
own_accesses constants indices (Assign left right) = expr_reads constants indices right ++ left_accesses constants indices left
own_accesses constants indices (If condition then_part else_part) = cond_reads constants indices condition
own_accesses constants indices (Do h body) = expr_reads constants indices h.first ++ expr_reads constants indices h.last ++ private_writes constants h.private
own_accesses constants indices (Print items) = flat_map (item_reads constants indices) items ++ write_of (codes "(OUT)") [] ∷ []
own_accesses constants indices (Read items) = write_of (codes "(IN)") [] ∷ flat_map (left_accesses constants indices) items
own_accesses constants indices Stop = []
own_accesses constants indices (Comment text) = []

-- the names that a declaration makes constants (ANSI X3.9-1978, section 8.6)
abbrev pub constants_in : DeclTree → List (List ℕ)
constants_in (Program x) = []
constants_in Implicit = []
constants_in (Integer ds) = []
constants_in (Dimension ds) = []
constants_in (Parameter values) = map (λ v. v.0) values
constants_in (Save names) = []
constants_in (Remark text) = []

-- the named constants (ANSI X3.9-1978, section 8.6)
abbrev pub constant_names : List DeclTree → List (List ℕ)
constant_names decls = flat_map constants_in decls
