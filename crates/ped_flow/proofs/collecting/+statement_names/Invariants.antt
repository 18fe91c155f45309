use Rattle.std.proofs.Common.{◌≡◌}
use Rattle.ped_flow.proofs.collecting.+statement_names.Given as goal

abbrev pub invariant-place_statements-loop-s : goal.invariant-place_statements-loop-s
invariant-place_statements-loop-s l = l.places.decls.now ≡ l.initial.places.decls.now
