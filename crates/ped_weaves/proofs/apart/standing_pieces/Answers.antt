use Rattle.ped_weaves.proofs.WeaveLaws.AgreedApart.{both_stand, stands_with}
use Rattle.ped_weaves.proofs.apart.standing_pieces.Goals as goal

pub returns-clause-joined : goal.returns-clause-joined
returns-clause-joined c = both_stand

pub returns-clause-sets : goal.returns-clause-sets
returns-clause-sets c = stands_with
