use Rattle.ped_printed.proofs.ProgramLaws.PrintedProgram.{fits_where_read}
use Rattle.ped_printed.proofs.programs.laws.fits_where_read.Goals as goal

pub returns : goal.returns
returns c = fits_where_read
