use Rattle.ped_verdict.proofs.Sighted.{FirstParts}
use Rattle.ped_verdict.proofs.sights.all_parts.Given as goal

-- what the loops so far add
abbrev pub invariant-loop-place : goal.invariant-loop-place
invariant-loop-place l = FirstParts l.place l.view.loops l.position.source.common l.position.sink.common l.parts.items
