use Rattle.std.proofs.Common.{◌≡◌, take}
use Rattle.ped_order.proofs.paths.Path.front.Given as goal

abbrev pub invariant-loop-level : goal.invariant-loop-level
invariant-loop-level l = l.path ≡ take l.level-index l.levels
