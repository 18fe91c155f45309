use Rattle.std.proofs.Common.{◌≡◌, ◌++◌, map, take}
use Rattle.ped_tree.specs.Views.{decl_tree}
use Rattle.ped_units.specs.Refusals.{save_of_formals}
use Rattle.ped_units.proofs.naming.declared.Given as goal

abbrev pub invariant-loop-decl : goal.invariant-loop-decl
invariant-loop-decl l = map decl_tree l.decls.items ≡ save_of_formals l.unit.formals ++ map decl_tree (take l.decl-index l.unit.program.decls.items)
