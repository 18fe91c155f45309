use Rattle.std.proofs.Common.{map, take}
use Rattle.std.specs.List.{flat_map}
use Rattle.ped_tree.specs.Views.{decl_tree}
use Rattle.ped_symbols.specs.Declarations.{program_name}
use Rattle.ped_symbols.specs.Passes.{HaveSame}
use Rattle.ped_symbols.proofs.declared.program_names.Given as goal

abbrev pub invariant-loop-decl : goal.invariant-loop-decl
invariant-loop-decl l = HaveSame l.names (flat_map program_name (map decl_tree (take l.decl-index l.decls)))
