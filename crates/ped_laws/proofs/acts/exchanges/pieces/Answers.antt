use Rattle.ped_laws.proofs.ActLaws.Exchanging.{pieces_fit, pieces_leave}
use Rattle.ped_laws.proofs.acts.exchanges.pieces.Goals as goal

pub returns-clause-fits : goal.returns-clause-fits
returns-clause-fits c = pieces_fit

pub returns-clause-leaves : goal.returns-clause-leaves
returns-clause-leaves c = pieces_leave
