use Rattle.ped_laws.proofs.ConflictLaws.PossibleDirections.{directions_possible}
use Rattle.ped_laws.proofs.conflicts.possible.directions_are_possible.Goals as goal

pub returns : goal.returns
returns c = λ t first a b source sink at_source at_sink u v vector valid. directions_possible t first a b source sink at_source at_sink u v vector
