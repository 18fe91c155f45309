use Rattle.std.proofs.Common.{◌≡◌}
use Rattle.ped_flow.proofs.collecting.+expression_names.Given as goal

abbrev pub invariant-place_expressions-loop-e : goal.invariant-place_expressions-loop-e
invariant-place_expressions-loop-e l = l.places.decls.now ≡ l.initial.places.decls.now
