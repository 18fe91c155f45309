use Rattle.std.proofs.Common.{◌≡◌, map, take}
use Rattle.ped_laws.specs.ped_eval.specs.AccessViews.{turn_view}
use Rattle.ped_order.specs.Paths.{level_view}
use Rattle.ped_order.proofs.paths.Path.turns.Given as goal

abbrev pub invariant-loop-level : goal.invariant-loop-level
invariant-loop-level l = map turn_view l.turns.items ≡ map level_view (take l.level-index l.levels)
