use Rattle.std.proofs.Common.{◌≡◌, ◌+◌, ◌^◌, ◌<◌, map, drop}
use Rattle.std.specs.Prelude.{◌||◌}
use Rattle.std.specs.List.{flat_map}
use Rattle.ped_tree.specs.Views.{declarator_tree}
use Rattle.ped_symbols.specs.Arrays.{arrays_of}
use Rattle.ped_symbols.specs.Passes.{capped}
use Rattle.ped_symbols.specs.StorageLimits.{has_large, elements_of}
use Rattle.ped_symbols.proofs.storage.Elements.with_all.Given as goal

abbrev pub invariant-loop-declarator : goal.invariant-loop-declarator
invariant-loop-declarator l = record {
  small : l.elements.together < 2 ^ 64;
  together : capped (l.elements.together + elements_of (flat_map (arrays_of l.consts) (map declarator_tree (drop l.declarator-index l.declarators)))) ≡ capped (l.fn.self.together + elements_of (flat_map (arrays_of l.consts) (map declarator_tree l.declarators)));
  large : (l.elements.has_large || has_large (flat_map (arrays_of l.consts) (map declarator_tree (drop l.declarator-index l.declarators)))) ≡ (l.fn.self.has_large || has_large (flat_map (arrays_of l.consts) (map declarator_tree l.declarators)));
}
