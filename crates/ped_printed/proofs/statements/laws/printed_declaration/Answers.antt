use Rattle.ped_printed.proofs.StatementLaws.Declarations.{declaration_prints}
use Rattle.ped_printed.proofs.statements.laws.printed_declaration.Goals as goal

pub returns : goal.returns
returns c = declaration_prints
