-- The plain tree of a statement, from its parts.
use Rattle.std.proofs.Common.{◌≡◌, List, ℕ, map, sym, ap, ◌∙◌, rules}
use Rattle.std.specs.Global.{Vec}
use Rattle.ped_tree.specs.Tree as plain
use Rattle.ped_tree.specs.Tree.{StmtTree}
use Rattle.ped_tree.specs.Views.{expr_tree, cond_tree, item_tree, stmt_tree, stmt_trees, do_tree, stmt_level, do_level}
use Rattle.ped_tree.specs.declared.conditions.Cond.{Cond}
use Rattle.ped_tree.specs.declared.expressions.Expr.{Expr}
use Rattle.ped_tree.specs.declared.statements.PrintItem.{PrintItem}
use Rattle.ped_tree.specs.declared.statements.Do as loop
use Rattle.ped_tree.specs.declared.statements.Stmt.{Stmt, the_lemmas}
use Rattle.ped_tree.specs.declared.statements.Stmt.TheOpen as open_stmt
use Rattle.ped_tree.specs.declared.statements.Stmt.TheVariants as variant
use Rattle.ped_tree.specs.declared.statements.Stmt.TheFolds.{fold-roll-Stmt}

pub tree-Assign : (left right : Expr) → stmt_tree (variant.Assign left right) ≡ plain.Assign (expr_tree left) (expr_tree right)
tree-Assign left right = ap stmt_tree (sym (variant.rolls-Assign left right)) ∙ fold-roll-Stmt StmtTree StmtTree stmt_level do_level (open_stmt.Assign left right)

pub tree-If : (c : Cond) (t e : Vec Stmt) → stmt_tree (variant.If c t e) ≡ plain.If (cond_tree c) (stmt_trees t.items) (stmt_trees e.items)
tree-If c t e = search (rules, the_lemmas)

pub tree-Do : (d : loop.Do) → stmt_tree (variant.Do d) ≡ do_tree d
tree-Do d = search (rules, the_lemmas)

pub tree-Stop : stmt_tree variant.Stop ≡ plain.Stop
tree-Stop = ap stmt_tree (sym variant.rolls-Stop) ∙ fold-roll-Stmt StmtTree StmtTree stmt_level do_level open_stmt.Stop

pub tree-Comment : (text : List ℕ) → stmt_tree (variant.Comment text) ≡ plain.Comment text
tree-Comment text = ap stmt_tree (sym (variant.rolls-Comment text)) ∙ fold-roll-Stmt StmtTree StmtTree stmt_level do_level (open_stmt.Comment text)

pub tree-Print : (items : Vec PrintItem) → stmt_tree (variant.Print items) ≡ plain.Print (map item_tree items.items)
tree-Print items = ap stmt_tree (sym (variant.rolls-Print items)) ∙ fold-roll-Stmt StmtTree StmtTree stmt_level do_level (open_stmt.Print items)

pub tree-Read : (items : Vec Expr) → stmt_tree (variant.Read items) ≡ plain.Read (map expr_tree items.items)
tree-Read items = ap stmt_tree (sym (variant.rolls-Read items)) ∙ fold-roll-Stmt StmtTree StmtTree stmt_level do_level (open_stmt.Read items)
