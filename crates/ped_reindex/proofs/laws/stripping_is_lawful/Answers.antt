use Rattle.ped_reindex.proofs.StripsLawful.{lawful_strip}
use Rattle.ped_reindex.proofs.laws.stripping_is_lawful.Goals as goal

pub returns : goal.returns
returns c = lawful_strip c.stays_trusted.ensures c.private_names_cleared.ensures
