use Rattle.std.proofs.Common.{◌≡◌, map, take}
use Rattle.ped_eval.specs.ScopeViews.{frame_iteration}
use Rattle.ped_eval.proofs.scopes.iterations_of.Given as goal

abbrev pub invariant-loop-frame : goal.invariant-loop-frame
invariant-loop-frame l = l.iterations ≡ map frame_iteration (take l.frame-index l.frames)
