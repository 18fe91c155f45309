use Rattle.std.proofs.Common.{◌≡◌, length}
use Rattle.ped_eval.specs.Scopes.{cell_of}
use Rattle.ped_eval.specs.ScopeViews.{scope_view}
use Rattle.ped_eval.proofs.scopes.has_copy_in.Given as goal

abbrev pub invariant-loop-innermost : goal.invariant-loop-innermost
invariant-loop-innermost l = cell_of (scope_view l.left) l.name ≡ cell_of (scope_view l.frames) l.name

abbrev pub decreases-loop-innermost : goal.decreases-loop-innermost
decreases-loop-innermost l = length l.left
