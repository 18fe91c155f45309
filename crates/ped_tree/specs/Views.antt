-- The plain tree that a tree of the code stands for (this project).
use Rattle.std.specs.Prelude.{ℕ, List, [], ◌∷◌, Bool, map}
use Rattle.ped_tree.specs.Tree as plain
use Rattle.ped_tree.specs.Tree.{ExprTree, ExprTrees, no_exprs, more_exprs, CondTree, ItemTree, Head, StmtTree, StmtTrees, no_stmts, more_stmts, BoundTree, DeclaratorTree, DeclTree, ProgramTree}
use Rattle.ped_tree.specs.declared.expressions.Expr.{Expr}
use Rattle.ped_tree.specs.declared.expressions.Expr.TheOpen as open_expr
use Rattle.ped_tree.specs.declared.expressions.Expr.TheFolds.{fold-Expr}
use Rattle.ped_tree.specs.declared.conditions.Cond.{Cond}
use Rattle.ped_tree.specs.declared.conditions.Cond.TheOpen as open_cond
use Rattle.ped_tree.specs.declared.conditions.Cond.TheFolds.{fold-Cond}
use Rattle.ped_tree.specs.declared.statements.PrintItem.{PrintItem}
use Rattle.ped_tree.specs.declared.statements.PrintItem.TheVariants as item
use Rattle.ped_tree.specs.declared.statements.Stmt.{Stmt}
use Rattle.ped_tree.specs.declared.statements.Stmt.TheOpen as open_stmt
use Rattle.ped_tree.specs.declared.statements.Stmt.TheFolds.{fold-Stmt}
use Rattle.ped_tree.specs.declared.statements.Do.{Do}
use Rattle.ped_tree.specs.declared.declarations.Bound.{Bound}
use Rattle.ped_tree.specs.declared.declarations.Declarator.{Declarator}
use Rattle.ped_tree.specs.declared.declarations.Decl.{Decl}
use Rattle.ped_tree.specs.declared.declarations.Decl.TheVariants as decl
use Rattle.ped_tree.specs.declared.declarations.Program.{Program}

-- expressions of a list, packed for a tree
abbrev pub pack_exprs : List ExprTree → ExprTrees
pack_exprs [] = no_exprs
pack_exprs (e ∷ es) = more_exprs e (pack_exprs es)

-- one level of an expression, with the tree of each part in its place
abbrev pub expr_level : open_expr.Expr-F ExprTree → ExprTree
expr_level (open_expr.Int n) = plain.Int n
expr_level (open_expr.Var x) = plain.Var x
expr_level (open_expr.Element x subscripts) = plain.Element x (pack_exprs subscripts.items)
expr_level (open_expr.Neg a) = plain.Neg a.value
expr_level (open_expr.Add a b) = plain.Add a.value b.value
expr_level (open_expr.Sub a b) = plain.Sub a.value b.value
expr_level (open_expr.Mul a b) = plain.Mul a.value b.value
expr_level (open_expr.Div a b) = plain.Div a.value b.value
expr_level (open_expr.Pow a b) = plain.Pow a.value b.value
expr_level (open_expr.Call f arguments) = plain.Call f (pack_exprs arguments.items)

-- the plain tree of an expression
abbrev pub expr_tree : Expr → ExprTree
expr_tree = fold-Expr ExprTree expr_level

-- one level of a condition
abbrev pub cond_level : open_cond.Cond-F CondTree → CondTree
cond_level (open_cond.Rel r a b) = plain.Rel r (expr_tree a) (expr_tree b)
cond_level (open_cond.Not a) = plain.Not a.value
cond_level (open_cond.And a b) = plain.And a.value b.value
cond_level (open_cond.Or a b) = plain.Or a.value b.value

-- the plain tree of a condition
abbrev pub cond_tree : Cond → CondTree
cond_tree = fold-Cond CondTree cond_level

-- the plain tree of an item of a PRINT
abbrev pub item_tree : PrintItem → ItemTree
item_tree (item.Value e) = plain.Value (expr_tree e)
item_tree (item.Text t) = plain.Text t

-- statements of a list, packed for a tree
abbrev pub pack_stmts : List StmtTree → StmtTrees
pack_stmts [] = no_stmts
pack_stmts (s ∷ ss) = more_stmts s (pack_stmts ss)

-- one level of a statement
abbrev pub stmt_level : open_stmt.Stmt-F StmtTree StmtTree → StmtTree
stmt_level (open_stmt.Assign left right) = plain.Assign (expr_tree left) (expr_tree right)
stmt_level (open_stmt.If condition then_part else_part) = plain.If (cond_tree condition) (pack_stmts then_part.items) (pack_stmts else_part.items)
stmt_level (open_stmt.Do d) = d
stmt_level (open_stmt.Print items) = plain.Print (map item_tree items.items)
stmt_level (open_stmt.Read items) = plain.Read (map expr_tree items.items)
stmt_level open_stmt.Stop = plain.Stop
stmt_level (open_stmt.Comment text) = plain.Comment text

-- the head of a DO
abbrev pub head : List ℕ → Expr → Expr → Expr → Bool → List (List ℕ) → List (List ℕ) → Head
head variable first last step parallel private rejected = record {
  variable = variable;
  first = expr_tree first;
  last = expr_tree last;
  step = expr_tree step;
  parallel = parallel;
  private = private;
  rejected = rejected;
}

-- the plain head of a DO
abbrev pub head_of : Do → Head
head_of d = head d.variable d.first d.last d.step d.parallel d.private d.rejected

-- one level of a DO
abbrev pub do_level : open_stmt.Do-F StmtTree StmtTree → StmtTree
do_level d = plain.Do (head d.variable d.first d.last d.step d.parallel d.private d.rejected) (pack_stmts d.body.items)

-- the plain tree of a statement
abbrev pub stmt_tree : Stmt → StmtTree
stmt_tree = fold-Stmt StmtTree StmtTree stmt_level do_level

-- the plain trees of statements
abbrev pub stmt_trees : List Stmt → StmtTrees
stmt_trees ss = pack_stmts (map stmt_tree ss)

-- the plain tree of a DO
abbrev pub do_tree : Do → StmtTree
do_tree d = plain.Do (head d.variable d.first d.last d.step d.parallel d.private d.rejected) (stmt_trees d.body.items)

-- the plain tree of a dimension
abbrev pub bound_tree : Bound → BoundTree
bound_tree b = record { lower = expr_tree b.lower; upper = expr_tree b.upper }

-- the plain tree of a declared name
abbrev pub declarator_tree : Declarator → DeclaratorTree
declarator_tree d = record { name = d.name; bounds = map bound_tree d.bounds.items }

-- a named constant with the plain tree of its value
abbrev pub value_tree : List ℕ × Expr → List ℕ × ExprTree
value_tree v = (v.0, expr_tree v.1)

-- the plain tree of a declaration
abbrev pub decl_tree : Decl → DeclTree
decl_tree (decl.Program x) = plain.Program x
decl_tree decl.Implicit = plain.Implicit
decl_tree (decl.Integer ds) = plain.Integer (map declarator_tree ds.items)
decl_tree (decl.Dimension ds) = plain.Dimension (map declarator_tree ds.items)
decl_tree (decl.Parameter values) = plain.Parameter (map value_tree values.items)
decl_tree (decl.Save names) = plain.Save names
decl_tree (decl.Comment text) = plain.Remark text

-- the plain tree of a program; the lines that it was read from are no part of it
abbrev pub program_tree : Program → ProgramTree
program_tree p = record { decls = map decl_tree p.decls.items; body = stmt_trees p.body.items }
