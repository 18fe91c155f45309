use Rattle.ped_loops.proofs.ReversalLawful.{lawful_reversal}
use Rattle.ped_loops.proofs.laws.reversal_is_lawful.Goals as goal

pub returns : goal.returns
returns c = lawful_reversal c.one_for_one.ensures.always c.one_for_one.ensures.on_data c.stays_trusted.ensures c.private_names_cleared.ensures c.none_rejected.ensures.true_on
