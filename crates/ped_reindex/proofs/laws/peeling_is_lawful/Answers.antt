use Rattle.ped_reindex.proofs.PeelLawful.{lawful_peel}
use Rattle.ped_reindex.proofs.laws.peeling_is_lawful.Goals as goal

pub returns : goal.returns
returns c = lawful_peel c.stays_trusted.ensures c.private_names_cleared.ensures
