use Rattle.std.proofs.Common.{◌≡◌, ◌++◌, map, drop}
use Rattle.std.specs.List.{flat_map}
use Rattle.ped_tree.specs.Accesses.{item_reads}
use Rattle.ped_tree.specs.Views.{item_tree}
use Rattle.ped_refs.specs.Listing.{accesses_of, constants_round, indices_round}
use Rattle.ped_refs.proofs.accesses.add_items.Given as goal

abbrev pub invariant-loop-item : goal.invariant-loop-item
invariant-loop-item l =
    accesses_of l.found.items ++ flat_map (item_reads (constants_round l.around) (indices_round l.around)) (map item_tree (drop l.item-index l.items))
    ≡ accesses_of l.fn.found.items ++ flat_map (item_reads (constants_round l.around) (indices_round l.around)) (map item_tree l.items)
