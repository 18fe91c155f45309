use Rattle.std.proofs.Common.{◌≡◌, ◌++◌, map, drop}
use Rattle.std.specs.List.{flat_map}
use Rattle.ped_tree.specs.Views.{decl_tree}
use Rattle.ped_symbols.specs.Uses.{decl_uses}
use Rattle.ped_symbols.proofs.uses.push_decls.Given as goal

abbrev pub invariant-loop-decl : goal.invariant-loop-decl
invariant-loop-decl l = l.uses.items ++ flat_map decl_uses (map decl_tree (drop l.decl-index l.decls)) ≡ l.initial.uses.items ++ flat_map decl_uses (map decl_tree l.decls)
