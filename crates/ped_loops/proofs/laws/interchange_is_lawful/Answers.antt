use Rattle.ped_loops.proofs.InterchangeLawful.{lawful_interchange}
use Rattle.ped_loops.proofs.laws.interchange_is_lawful.Goals as goal

pub returns : goal.returns
returns c = lawful_interchange c.accesses_are_made.ensures c.accesses_in_sequence.ensures c.stays_trusted.ensures c.private_names_cleared.ensures c.none_rejected.ensures.true_on
