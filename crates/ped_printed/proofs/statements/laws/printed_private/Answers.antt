use Rattle.ped_printed.proofs.StatementLaws.Statements.{private_prints}
use Rattle.ped_printed.proofs.statements.laws.printed_private.Goals as goal

pub returns : goal.returns
returns c = private_prints
