-- What the values of the readers of statements stand for. Only contracts of private functions use it.
use Rattle.std.specs.Prelude.{ℕ, List, Option, Some, None, Bool, map}
use Rattle.std.specs.Borrow.{Bor}
use Rattle.std.specs.Global.{Vec}
use Rattle.ped_tree.specs.Tree.{ExprTree, Head, ItemTree, StmtTree, BoundTree, DeclaratorTree}
use Rattle.ped_tree.specs.Views.{expr_tree, stmt_tree, item_tree, bound_tree, declarator_tree, value_tree}
use Rattle.ped_tree.specs.declared.expressions.Expr.{Expr}
use Rattle.ped_tree.specs.declared.statements.PrintItem.{PrintItem}
use Rattle.ped_tree.specs.declared.statements.Stmt.{Stmt}
use Rattle.ped_tree.specs.declared.declarations.Bound.{Bound}
use Rattle.ped_tree.specs.declared.declarations.Declarator.{Declarator}
use Rattle.ped_statements.specs.declared.loops.Control.{Control}
use Rattle.ped_statements.specs.StatementReading.{head}

-- a value and the text after it
abbrev pub value_and_rest : {A : Type 0} → A × Bor (List ℕ) → A × List ℕ
value_and_rest x = (x.0, x.1.now)

-- a dimension and the text after it
abbrev pub bound_and_rest : Bound × Bor (List ℕ) → BoundTree × List ℕ
bound_and_rest x = (bound_tree x.0, x.1.now)

-- dimensions and the text after them
abbrev pub bounds_and_rest : Vec Bound × Bor (List ℕ) → List BoundTree × List ℕ
bounds_and_rest x = (map bound_tree x.0.items, x.1.now)

-- a declared name and the text after it
abbrev pub declarator_and_rest : Declarator × Bor (List ℕ) → DeclaratorTree × List ℕ
declarator_and_rest x = (declarator_tree x.0, x.1.now)

-- declared names and the text after them
abbrev pub declarators_and_rest : Vec Declarator × Bor (List ℕ) → List DeclaratorTree × List ℕ
declarators_and_rest x = (map declarator_tree x.0.items, x.1.now)

-- a named constant and the text after it
abbrev pub constant_and_rest : (List ℕ × Expr) × Bor (List ℕ) → (List ℕ × ExprTree) × List ℕ
constant_and_rest x = (value_tree x.0, x.1.now)

-- named constants and the text after them
abbrev pub constants_and_rest : Vec (List ℕ × Expr) × Bor (List ℕ) → List (List ℕ × ExprTree) × List ℕ
constants_and_rest x = (map value_tree x.0.items, x.1.now)

-- an item of a PRINT and the text after it
abbrev pub item_and_rest : PrintItem × Bor (List ℕ) → ItemTree × List ℕ
item_and_rest x = (item_tree x.0, x.1.now)

-- the items of a PRINT
abbrev pub item_trees : Vec PrintItem → List ItemTree
item_trees items = map item_tree items.items

-- the items of a READ
abbrev pub reference_trees : Vec Expr → List ExprTree
reference_trees items = map expr_tree items.items

-- a simple statement, none for CONTINUE
abbrev pub simple_tree : Option Stmt → Option StmtTree
simple_tree None = None
simple_tree (Some s) = Some (stmt_tree s)

-- the control of a DO
abbrev pub head_of : Bool → Control → Head
head_of parallel c = head parallel c.variable (expr_tree c.first) (expr_tree c.last) (expr_tree c.step)

-- the control of a DO and the text after it
abbrev pub control_and_rest : Bool → Control × Bor (List ℕ) → Head × List ℕ
control_and_rest parallel x = (head_of parallel x.0, x.1.now)
