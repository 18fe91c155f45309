-- The plain tree of a block IF, from its parts.
use Rattle.std.proofs.Common.{◌≡◌, sym, ap, ◌∙◌}
use Rattle.std.specs.Global.{Vec}
use Rattle.ped_tree.specs.Tree.{StmtTree, If}
use Rattle.ped_tree.specs.Views.{stmt_tree, stmt_trees, cond_tree, stmt_level, do_level}
use Rattle.ped_tree.specs.declared.conditions.Cond.{Cond}
use Rattle.ped_tree.specs.declared.statements.Stmt.{Stmt}
use Rattle.ped_tree.specs.declared.statements.Stmt.TheOpen as open_stmt
use Rattle.ped_tree.specs.declared.statements.Stmt.TheVariants as variant
use Rattle.ped_tree.specs.declared.statements.Stmt.TheFolds.{fold-roll-Stmt}

pub stmt_tree-If : (condition : Cond) (then_part else_part : Vec Stmt) → stmt_tree (variant.If condition then_part else_part) ≡ If (cond_tree condition) (stmt_trees then_part.items) (stmt_trees else_part.items)
stmt_tree-If condition then_part else_part =
    ap stmt_tree (sym (variant.rolls-If condition then_part else_part)) ∙ fold-roll-Stmt StmtTree StmtTree stmt_level do_level (open_stmt.If condition then_part else_part)
