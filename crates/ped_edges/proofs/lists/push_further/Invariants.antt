use Rattle.std.proofs.Common.{◌≡◌, ◌++◌, codes, drop}
use Rattle.std.specs.List.{flat_map}
use Rattle.ped_edges.proofs.lists.push_further.Given as goal

-- the items so far and those that are left are all items
abbrev pub invariant-loop-item : goal.invariant-loop-item
invariant-loop-item g l = l.out ++ flat_map (λ item. codes "," ++ g.T.Shown.text item) (drop l.item-index l.items) ≡ l.initial.out ++ flat_map (λ item. codes "," ++ g.T.Shown.text item) l.items
