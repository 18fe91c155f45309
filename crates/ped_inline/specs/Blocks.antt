-- Marked blocks: a block IF that a CALL was expanded to, with the CALL in a comment (ParaScope; this project).
use Rattle.std.specs.Prelude.{◌≡◌, ℕ, ◌==◌, List, take, codes, Bool, true, false, ◌&&◌, Option, Some, None, if◌then◌else◌}
use Rattle.ped_base.specs.Lists.{is_same_text}
use Rattle.ped_tree.specs.Tree.{ExprTree, Int, Var, Element, Neg, Add, Sub, Mul, Div, Pow, Call, CondTree, Rel, Not, And, Or, StmtTree, StmtTrees, Assign, If, Do, Print, Read, Stop, Comment, no_stmts, more_stmts, ProgramTree}
use Rattle.ped_tree.specs.Numbering.{statement_with}
use Rattle.ped_tree.specs.declared.conditions.Relation.{Relation}
use Rattle.ped_tree.specs.declared.conditions.Relation.TheVariants.{Lt, Le, Eq, Ne, Gt, Ge}

-- the text of a comment names a CALL: it begins with `$CALL ` (this project)
abbrev pub names_call : List ℕ → Bool
names_call text = is_same_text (take 6 text) (codes "$CALL ")

-- the relation is .EQ. (ANSI X3.9-1978, section 6.3)
abbrev pub is_equality : Relation → Bool
is_equality Eq = true
is_equality Lt = false
is_equality Le = false
is_equality Ne = false
is_equality Gt = false
is_equality Ge = false

-- the expression is the literal 0 (ANSI X3.9-1978, section 4.3)
abbrev pub is_zero : ExprTree → Bool
is_zero (Int n) = n == 0
is_zero (Var x) = false
is_zero (Element x subscripts) = false
is_zero (Neg a) = false
is_zero (Add a b) = false
is_zero (Sub a b) = false
is_zero (Mul a b) = false
is_zero (Div a b) = false
is_zero (Pow a b) = false
is_zero (Call f arguments) = false

-- the condition is 0.EQ.0 (ANSI X3.9-1978, section 6.3)
abbrev pub is_always : CondTree → Bool
is_always (Rel r a b) = is_equality r && (is_zero a && is_zero b)
is_always (Not a) = false
is_always (And a b) = false
is_always (Or a b) = false

-- the statement is a comment that names a CALL (this project)
abbrev pub is_mark : StmtTree → Bool
is_mark (Comment text) = names_call text
is_mark (Assign left right) = false
is_mark (If condition then_part else_part) = false
is_mark (Do h body) = false
is_mark (Print items) = false
is_mark (Read items) = false
is_mark Stop = false

-- the statements after a comment that names a CALL, where such a comment comes first (this project)
abbrev pub behind_call : StmtTrees → Option StmtTrees
behind_call no_stmts = None
behind_call (more_stmts s rest) = if is_mark s then Some rest else None

-- the body of a marked block without the comment: of an IF with the condition 0.EQ.0, without ELSE, whose first statement is a comment that names a CALL (this project)
abbrev pub block_body : StmtTree → Option StmtTrees
block_body (If condition then_part no_stmts) = if is_always condition then behind_call then_part else None
block_body (If condition then_part (more_stmts s rest)) = None
block_body (Assign left right) = None
block_body (Do h body) = None
block_body (Print items) = None
block_body (Read items) = None
block_body Stop = None
block_body (Comment text) = None

-- the statement with this number is a marked block with this body (this project)
pub record IsBlock (t : ProgramTree) (s : ℕ) (body : StmtTrees) : Type 0 where
  pub statement : StmtTree
  pub is : statement_with s t ≡ Some statement
  pub opens : block_body statement ≡ Some body
