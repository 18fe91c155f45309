use Rattle.std.proofs.Common.{◌≡◌}
use Rattle.ped_flow.proofs.collecting.place_items.Given as goal

abbrev pub invariant-loop-item : goal.invariant-loop-item
invariant-loop-item l = l.places.decls.now ≡ l.initial.places.decls.now
