use Rattle.ped_loops.proofs.SerialLawful.{lawful_serial}
use Rattle.ped_loops.proofs.laws.serial_is_lawful.Goals as goal

pub returns : goal.returns
returns c = lawful_serial c.one_for_one.ensures.always c.stays_trusted.ensures c.private_names_cleared.ensures
