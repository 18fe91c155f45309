use Rattle.std.proofs.Common.{◌≡◌, ◌++◌, map, drop}
use Rattle.std.specs.List.{flat_map}
use Rattle.ped_tree.specs.Printing.{decl_lines}
use Rattle.ped_tree.specs.Views.{decl_tree}
use Rattle.ped_print.specs.PrintedLines.{line_of}
use Rattle.ped_print.proofs.programs.push_decls.Given as goal

abbrev pub invariant-loop-decl : goal.invariant-loop-decl
invariant-loop-decl l =
    map line_of l.lines.items ++ flat_map decl_lines (map decl_tree (drop l.decl-index l.all)) ≡ map line_of l.initial.lines.items ++ flat_map decl_lines (map decl_tree l.all)
