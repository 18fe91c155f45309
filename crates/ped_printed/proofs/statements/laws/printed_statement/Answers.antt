use Rattle.ped_printed.proofs.StatementLaws.Statements.{statement_prints}
use Rattle.ped_printed.proofs.statements.laws.printed_statement.Goals as goal

pub returns : goal.returns
returns c = statement_prints
