use Rattle.std.proofs.Common.{◌≡◌, take}
use Rattle.ped_verdict.specs.Marked.{place_of}
use Rattle.ped_verdict.proofs.places.place_of.Given as goal

abbrev pub invariant-loop-direction : goal.invariant-loop-direction
invariant-loop-direction l = l.place ≡ place_of (take l.direction-index l.vector)
