use Rattle.std.proofs.Common.{length}
use Rattle.ped_links.specs.Reaching.{AreBelow}
use Rattle.ped_links.proofs.ranking.places_of_zeros.Given as goal

abbrev pub invariant-loop-place : goal.invariant-loop-place
invariant-loop-place l = AreBelow (length l.numbers) l.places.items
