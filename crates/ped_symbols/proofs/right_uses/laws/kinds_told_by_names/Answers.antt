use Rattle.ped_symbols.proofs.RightUseLaws.Whole.{same_values, same_kinds, names_occur}
use Rattle.ped_symbols.proofs.right_uses.laws.kinds_told_by_names.Goals as goal

pub returns-clause-values : goal.returns-clause-values
returns-clause-values c = same_values

pub returns-clause-kinds : goal.returns-clause-kinds
returns-clause-kinds c = same_kinds

pub returns-clause-names : goal.returns-clause-names
returns-clause-names c = names_occur
