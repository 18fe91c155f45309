use Rattle.std.proofs.Common.{◌≡◌, map, drop, length}
use Rattle.std.specs.List.{flat_map}
use Rattle.ped_tree.specs.Views.{decl_tree}
use Rattle.ped_units.specs.ped_valid.specs.ped_symbols.specs.Sites.{decl_sites}
use Rattle.ped_links.proofs.placing.Walk.pass_declarations.Given as goal

abbrev pub invariant-loop-decl : goal.invariant-loop-decl
invariant-loop-decl l = record {
  lines : drop (length (flat_map decl_sites (map decl_tree (drop l.decl-index l.decls)))) l.self.lines.now ≡ drop (length (flat_map decl_sites (map decl_tree l.decls))) l.initial.self.lines.now;
  found : l.self.found ≡ l.initial.self.found;
}
