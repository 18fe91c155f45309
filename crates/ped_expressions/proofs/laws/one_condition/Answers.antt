use Rattle.ped_expressions.proofs.CondWhole
use Rattle.ped_expressions.proofs.laws.one_condition.Goals as goal

pub returns : goal.returns
returns c = CondWhole.one_cond
