use Rattle.ped_laws.proofs.ActLaws.Exchanging.{parts_fit, parts_leave}
use Rattle.ped_laws.proofs.acts.exchanges.wanted_parts.Goals as goal

pub returns-clause-fits : goal.returns-clause-fits
returns-clause-fits c = parts_fit

pub returns-clause-leaves : goal.returns-clause-leaves
returns-clause-leaves c = parts_leave
