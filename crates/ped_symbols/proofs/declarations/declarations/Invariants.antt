use Rattle.std.proofs.Common.{◌≡◌, List, ◌++◌, map, take}
use Rattle.std.specs.List.{flat_map}
use Rattle.ped_tree.specs.Views.{decl_tree}
use Rattle.ped_refs.specs.References.{Reference}
use Rattle.ped_symbols.specs.Sites.{Site, decl_sites}
use Rattle.ped_symbols.specs.Declarations as Plain
use Rattle.ped_symbols.specs.NameRefusals.{Before, behind_sites}
use Rattle.ped_symbols.specs.Passes.{Knows, Holds, first_with}
use Rattle.ped_symbols.proofs.declarations.declarations.Given as goal

abbrev pub invariant-loop-decl : goal.invariant-loop-decl
invariant-loop-decl l = record {
  first : (d : Plain.Declared) → Knows l.declared d → (refs : List Reference) → (b : Before) → Holds l.initial.held b →
      Holds l.held (behind_sites b (flat_map decl_sites (map decl_tree (take l.decl-index l.decls))))
      × ((more : List Site) → first_with d refs (behind_sites b (flat_map decl_sites (map decl_tree (take l.decl-index l.decls)))) l.next more
      ≡ first_with d refs b l.fn.found (flat_map decl_sites (map decl_tree (take l.decl-index l.decls)) ++ more));
  until : l.next.until_many_pairs ≡ l.fn.found.until_many_pairs;
}
