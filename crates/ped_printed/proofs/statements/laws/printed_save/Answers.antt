use Rattle.ped_printed.proofs.StatementLaws.Declarations.{save_prints}
use Rattle.ped_printed.proofs.statements.laws.printed_save.Goals as goal

pub returns : goal.returns
returns c = save_prints
