use Rattle.std.proofs.Common.{◌++◌, map, ◌∙◌}
use Rattle.std.specs.List.{flat_map}
use Rattle.ped_tree.specs.Views.{decl_tree}
use Rattle.ped_symbols.specs.Uses.{decl_uses}
use Rattle.ped_symbols.proofs.symbols.over_program.Goals as goal

pub over_uses-requires-clause-uses : goal.over_uses-requires-clause-uses
over_uses-requires-clause-uses c =
    c.deref-2.ensures.value ∙ c.in_ok-push_decls.ensures ∙ (λ i. c.new-uses.ensures.items i ++ flat_map decl_uses (map decl_tree (c.deref.ensures.value i)))
