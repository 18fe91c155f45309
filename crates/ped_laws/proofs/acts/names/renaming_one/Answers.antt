use Rattle.ped_laws.proofs.ActLaws.Renamings.{one_fits, one_moves, one_leaves, one_keeps}
use Rattle.ped_laws.proofs.acts.names.renaming_one.Goals as goal

pub returns-clause-fits : goal.returns-clause-fits
returns-clause-fits c = one_fits

pub returns-clause-moves : goal.returns-clause-moves
returns-clause-moves c = one_moves

pub returns-clause-leaves : goal.returns-clause-leaves
returns-clause-leaves c = one_leaves

pub returns-clause-keeps : goal.returns-clause-keeps
returns-clause-keeps c = one_keeps
