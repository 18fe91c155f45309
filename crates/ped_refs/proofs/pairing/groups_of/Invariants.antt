use Rattle.std.proofs.Common.{take}
use Rattle.ped_refs.specs.Occurrences.{references_of}
use Rattle.ped_refs.specs.Grouping.{AreGrouped}
use Rattle.ped_refs.proofs.pairing.groups_of.Given as goal

abbrev pub invariant-loop-place : goal.invariant-loop-place
invariant-loop-place l = AreGrouped (references_of (take l.place l.found)) l.groups
