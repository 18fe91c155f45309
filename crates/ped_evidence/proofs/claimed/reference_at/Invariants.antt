use Rattle.std.proofs.Common.{◌≡◌, drop}
use Rattle.ped_refs.specs.Occurrences.{references_of}
use Rattle.ped_evidence.specs.Claims.{reference_at}
use Rattle.ped_evidence.specs.Lines.{place}
use Rattle.ped_evidence.proofs.claimed.reference_at.Given as goal

abbrev pub invariant-loop-occurrence : goal.invariant-loop-occurrence
invariant-loop-occurrence l = reference_at (references_of (drop l.occurrence-index l.found)) (place l.place) ≡ reference_at (references_of l.found) (place l.place)
