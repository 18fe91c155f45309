use Rattle.ped_script.proofs.Written.{read_again}
use Rattle.ped_script.proofs.laws.rows_are_commands.Goals as goal

pub returns : goal.returns
returns c = read_again
