use Rattle.std.proofs.Common.{◌≡◌}
use Rattle.ped_flow.proofs.collecting.place_names.Given as goal

abbrev pub invariant-loop-name : goal.invariant-loop-name
invariant-loop-name l = l.places.decls.now ≡ l.initial.places.decls.now
