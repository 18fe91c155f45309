use Rattle.ped_rules.proofs.HeadLaws.ParallelLawful.{lawful_parallel}
use Rattle.ped_rules.proofs.laws.parallel_is_lawful.Goals as goal

pub returns : goal.returns
returns c =
    lawful_parallel c.one_for_one.ensures.always c.stays_trusted.ensures c.private_names_cleared.ensures c.one_for_one.ensures.on_data c.indices_unwritten.ensures c.none_rejected.ensures.edges c.none_rejected.ensures.true_on
