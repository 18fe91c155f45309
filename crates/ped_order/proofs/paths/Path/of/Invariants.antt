use Rattle.std.proofs.Common.{◌≡◌, map, take}
use Rattle.ped_order.specs.Paths.{level_of}
use Rattle.ped_order.proofs.paths.Path.of.Given as goal

abbrev pub invariant-loop-turn : goal.invariant-loop-turn
invariant-loop-turn l = l.path ≡ map level_of (take l.turn-index l.turn-items)
