use Rattle.std.proofs.Common.{◌≡◌, map, take, length}
use Rattle.ped_eval.specs.ScopeViews.{frame_view}
use Rattle.ped_eval.proofs.scopes.copy_frames.Given as goal

abbrev pub invariant-loop-frame : goal.invariant-loop-frame
invariant-loop-frame l = map frame_view l.copy.items ≡ map frame_view (take l.frame-index l.frames)
