use Rattle.std.proofs.Common.{◌≡◌, map, drop}
use Rattle.std.specs.List.{flat_map}
use Rattle.ped_tree.specs.NamesIn.{declarator_names}
use Rattle.ped_tree.specs.Views.{declarator_tree}
use Rattle.ped_tree.specs.Names.Collecting.{with_names}
use Rattle.ped_refusals.proofs.occurrences.add_declarators.Given as goal

abbrev pub invariant-loop-declarator : goal.invariant-loop-declarator
invariant-loop-declarator l = with_names l.names (flat_map declarator_names (map declarator_tree (drop l.declarator-index l.declarators))) ≡ with_names l.initial.names (flat_map declarator_names (map declarator_tree l.declarators))
