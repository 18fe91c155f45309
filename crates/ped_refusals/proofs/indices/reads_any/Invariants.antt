use Rattle.std.proofs.Common.{◌≡◌, map, drop}
use Rattle.std.specs.List.{flat_map}
use Rattle.ped_tree.specs.Views.{expr_tree}
use Rattle.ped_tree.specs.Grammar.ProgramRefusals.{meets, scalar_of}
use Rattle.ped_refusals.proofs.indices.reads_any.Given as goal

abbrev pub invariant-loop-item : goal.invariant-loop-item
invariant-loop-item l = meets (flat_map scalar_of (map expr_tree (drop l.item-index l.items))) l.variables ≡ meets (flat_map scalar_of (map expr_tree l.items)) l.variables
