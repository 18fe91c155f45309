use Rattle.std.proofs.Common.{take}
use Rattle.ped_links.specs.Numbers.{ArePlaces}
use Rattle.ped_links.proofs.numbering.places.Given as goal

abbrev pub invariant-loop-place : goal.invariant-loop-place
invariant-loop-place l = ArePlaces (take l.place l.names) l.places.entries
