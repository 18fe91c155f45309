use Rattle.ped_expressions.proofs.Whole
use Rattle.ped_expressions.proofs.laws.one_expression.Goals as goal

pub returns : goal.returns
returns c = Whole.one_expr
