use Rattle.std.proofs.Common.{◌≡◌, drop}
use Rattle.std.specs.List.{list_any}
use Rattle.ped_tree.specs.Views.{program_tree, stmt_trees}
use Rattle.ped_reduce.specs.Reducing.{is_unsummable}
use Rattle.ped_reduce.proofs.rules.is_some_unsummable.Given as goal

abbrev pub invariant-loop-name : goal.invariant-loop-name
invariant-loop-name g l =
    list_any (is_unsummable (program_tree l.scene.tree.now) l.number (stmt_trees l.d.body.items)) (drop l.name-index l.names)
    ≡ list_any (is_unsummable (program_tree l.scene.tree.now) l.number (stmt_trees l.d.body.items)) l.names
