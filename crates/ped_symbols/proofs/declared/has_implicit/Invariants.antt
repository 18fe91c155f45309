use Rattle.std.proofs.Common.{◌≡◌, map, drop}
use Rattle.std.specs.List.{list_any}
use Rattle.ped_tree.specs.Views.{decl_tree}
use Rattle.ped_symbols.specs.Declarations.{is_implicit}
use Rattle.ped_symbols.proofs.declared.has_implicit.Given as goal

abbrev pub invariant-loop-decl : goal.invariant-loop-decl
invariant-loop-decl l = list_any is_implicit (map decl_tree (drop l.decl-index l.decls)) ≡ list_any is_implicit (map decl_tree l.decls)
