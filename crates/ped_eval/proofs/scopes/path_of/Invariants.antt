use Rattle.std.proofs.Common.{◌≡◌, map, take}
use Rattle.ped_eval.specs.Scopes.{turns_of}
use Rattle.ped_eval.specs.ScopeViews.{scope_view}
use Rattle.ped_eval.specs.AccessViews.{turn_view}
use Rattle.ped_eval.proofs.scopes.path_of.Given as goal

abbrev pub invariant-loop-frame : goal.invariant-loop-frame
invariant-loop-frame l = map turn_view l.path ≡ turns_of (scope_view (take l.frame-index l.frames))
