use Rattle.std.proofs.Common.{◌≡◌, [], map, drop}
use Rattle.ped_tree.specs.Views.{decl_tree}
use Rattle.ped_tree.specs.Names.Collecting.{with_names}
use Rattle.ped_units.specs.Refusals.{dimensioned}
use Rattle.ped_units.proofs.naming.dimensioned.Given as goal

abbrev pub invariant-loop-decl : goal.invariant-loop-decl
invariant-loop-decl l = with_names l.arrays (dimensioned (map decl_tree (drop l.decl-index l.decls))) ≡ with_names [] (dimensioned (map decl_tree l.decls))
