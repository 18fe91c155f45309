use Rattle.ped_symbols.proofs.RightUseLaws.Whole.{constants_valued, others_unvalued}
use Rattle.ped_symbols.proofs.right_uses.laws.constants_have_values.Goals as goal

pub returns-clause-named : goal.returns-clause-named
returns-clause-named c = constants_valued

pub returns-clause-others : goal.returns-clause-others
returns-clause-others c = others_unvalued
