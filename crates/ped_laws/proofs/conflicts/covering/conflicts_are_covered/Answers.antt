use Rattle.ped_laws.proofs.ConflictLaws.CoveringRuns.{conflicts_covered}
use Rattle.ped_laws.proofs.conflicts.covering.conflicts_are_covered.Goals as goal

pub returns : goal.returns
returns c = conflicts_covered c.accesses_are_made.ensures c.accesses_in_sequence.ensures c.directions_are_possible.ensures
