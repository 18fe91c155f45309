use Rattle.std.proofs.Common.{◌≡◌, map, take}
use Rattle.ped_laws.specs.ped_eval.specs.AccessViews.{turn_view}
use Rattle.ped_order.specs.Keys.{iteration_of}
use Rattle.ped_order.proofs.keys.iterations.Given as goal

abbrev pub invariant-loop-turn : goal.invariant-loop-turn
invariant-loop-turn l = l.iterations.items ≡ map iteration_of (map turn_view (take l.turn-index l.turns))
