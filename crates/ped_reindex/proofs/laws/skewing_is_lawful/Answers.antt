use Rattle.ped_reindex.proofs.SkewLawful.{lawful_skew}
use Rattle.ped_reindex.proofs.laws.skewing_is_lawful.Goals as goal

pub returns : goal.returns
returns c = lawful_skew c.stays_trusted.ensures c.private_names_cleared.ensures
