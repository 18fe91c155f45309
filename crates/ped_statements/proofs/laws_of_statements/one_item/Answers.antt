use Rattle.ped_statements.proofs.OneStatement
use Rattle.ped_statements.proofs.laws_of_statements.one_item.Goals as goal

pub returns : goal.returns
returns c = OneStatement.one_item
