use Rattle.std.proofs.Common.{◌≡◌, ◌++◌, map}
use Rattle.std.specs.Vec.Iter.{into_iter_items}
use Rattle.ped_tree.specs.Views.{decl_tree, stmt_trees}
use Rattle.ped_rules.specs.Settling as Spec
use Rattle.ped_rules.specs.CodeSettling.{decls_of, body_of}
use Rattle.ped_rules.proofs.settling.behind_comments.Given as goal

abbrev pub invariant-loop-statement : goal.invariant-loop-statement
invariant-loop-statement l = record {
  decls : decls_of (map decl_tree l.decls.items) (stmt_trees l.body.items) (stmt_trees (into_iter_items l.statement-iterator)) ≡ map decl_tree l.fn.decls.items ++ Spec.front_comments (stmt_trees l.fn.statements.items);
  body : body_of (stmt_trees l.body.items) (stmt_trees (into_iter_items l.statement-iterator)) ≡ Spec.behind_comments (stmt_trees l.fn.statements.items);
}
