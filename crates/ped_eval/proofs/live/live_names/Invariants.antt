use Rattle.std.proofs.Common.{◌≡◌, ◌++◌, drop, map}
use Rattle.std.specs.List.{flat_map}
use Rattle.ped_tree.specs.Views.{decl_tree}
use Rattle.ped_tree.specs.NamesIn.{saved_in}
use Rattle.ped_eval.proofs.live.live_names.Given as goal

abbrev pub invariant-loop-decl : goal.invariant-loop-decl
invariant-loop-decl l =
    l.names ++ flat_map saved_in (map decl_tree (drop l.decl-index l.decls)) ≡ flat_map saved_in (map decl_tree l.decls)
