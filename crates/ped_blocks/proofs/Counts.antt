-- How many numbered statements a statement with parts has.
use Rattle.std.proofs.Common.{◌≡◌, ◌+◌, ap, rules}
use Rattle.ped_tree.specs.Tree as plain
use Rattle.ped_tree.specs.Numbering.{statement_count, statements_count}
use Rattle.ped_tree.specs.Views.{cond_tree, stmt_tree, stmt_trees, do_tree}
use Rattle.ped_tree.specs.declared.statements.Stmt.{the_lemmas}
use Rattle.ped_tree.specs.declared.statements.Stmt as variant
use Rattle.ped_tree.specs.declared.statements.Do as loop

stmt_tree-If : (c : _) (t : _) (e : _) → stmt_tree (variant.If c t e) ≡ plain.If (cond_tree c) (stmt_trees t.items) (stmt_trees e.items)
stmt_tree-If c t e = search (rules, the_lemmas)

stmt_tree-Do : (d : loop.Do) → stmt_tree (variant.Do d) ≡ do_tree d
stmt_tree-Do d = search (rules, the_lemmas)

pub count_of_if : (c : _) (t : _) (e : _) → statement_count (stmt_tree (variant.If c t e)) ≡ statements_count (stmt_trees t.items) + statements_count (stmt_trees e.items) + 1
count_of_if c t e = ap statement_count (stmt_tree-If c t e)

pub count_of_loop : (d : loop.Do) → statement_count (stmt_tree (variant.Do d)) ≡ statements_count (stmt_trees d.body.items) + 1
count_of_loop d = ap statement_count (stmt_tree-Do d)
