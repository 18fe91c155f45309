use Rattle.std.proofs.Common.{◌≡◌, map, drop}
use Rattle.ped_base.specs.Lists.{is_among}
use Rattle.ped_tree.specs.Accesses.{constant_names}
use Rattle.ped_tree.specs.Views.{decl_tree}
use Rattle.ped_flow.proofs.decls.is_constant.Given as goal

abbrev pub invariant-loop-decl : goal.invariant-loop-decl
invariant-loop-decl l = is_among l.name (constant_names (map decl_tree (drop l.decl-index l.decls))) ≡ is_among l.name (constant_names (map decl_tree l.decls))
