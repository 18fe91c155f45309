use Rattle.std.proofs.Common.{◌≡◌, map, drop}
use Rattle.std.specs.List.{flat_map}
use Rattle.ped_tree.specs.Names.Collecting.{with_names}
use Rattle.ped_tree.specs.Views.{decl_tree}
use Rattle.ped_links.specs.ped_symbols.specs.Declarations.{program_name}
use Rattle.ped_calls.proofs.opening.add_program_names.Given as goal

abbrev pub invariant-loop-decl : goal.invariant-loop-decl
invariant-loop-decl l = with_names l.taken (flat_map program_name (map decl_tree (drop l.decl-index l.decls))) ≡ with_names l.initial.taken (flat_map program_name (map decl_tree l.decls))
