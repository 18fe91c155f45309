use Rattle.ped_printed.proofs.ProgramLaws.PrintedProgram.{fitting_prints}
use Rattle.ped_printed.proofs.programs.laws.printed_program.Goals as goal

pub returns : goal.returns
returns c = fitting_prints
