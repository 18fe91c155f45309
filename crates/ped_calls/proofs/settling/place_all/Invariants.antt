use Rattle.std.proofs.Common.{◌≡◌, map}
use Rattle.std.specs.Vec.Iter.{into_iter_items}
use Rattle.ped_tree.specs.Views.{decl_tree, stmt_tree, stmt_trees}
use Rattle.ped_calls.specs.Opening.{placed}
use Rattle.ped_calls.proofs.settling.place_all.Given as goal

abbrev pub invariant-loop-statement : goal.invariant-loop-statement
invariant-loop-statement l =
    placed (map decl_tree l.decls.items) (map stmt_tree l.rest.items) (stmt_trees (into_iter_items l.statement-iterator))
    ≡ placed (map decl_tree l.initial.decls.items) (map stmt_tree l.initial.rest.items) (stmt_trees (into_iter_items l.initial.statement-iterator))
