use Rattle.ped_laws.proofs.ConflictLaws.CoveringRaces.{races_carried}
use Rattle.ped_laws.proofs.conflicts.covering.races_are_covered.Goals as goal

pub returns : goal.returns
returns c = λ t data_bytes a b edges valid. races_carried c.accesses_are_made.ensures c.accesses_in_sequence.ensures c.directions_are_possible.ensures t data_bytes valid a b edges
