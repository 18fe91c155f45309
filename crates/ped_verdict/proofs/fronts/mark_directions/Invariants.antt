use Rattle.std.proofs.Common.{[]}
use Rattle.ped_verdict.specs.Marked.{AreAdded}
use Rattle.ped_verdict.proofs.ByDirection.{ChosenBefore}
use Rattle.ped_verdict.proofs.fronts.mark_directions.Given as goal

-- the vectors with the fronts so far are marked that one of the answers is for
abbrev pub invariant-loop-front : goal.invariant-loop-front
invariant-loop-front l = AreAdded l.loops [] (ChosenBefore l.place l.before l.same l.after l.front) l.fn.row l.row
