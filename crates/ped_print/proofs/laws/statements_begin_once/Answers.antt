use Rattle.ped_print.proofs.Begins.{of_program}
use Rattle.ped_print.proofs.laws.statements_begin_once.Goals as goal

pub returns : goal.returns
returns c = of_program
