use Rattle.ped_script.proofs.OneCommand.{command_found, command_fits, same_command}
use Rattle.ped_script.proofs.laws.one_command.Goals as goal

pub returns-clause-one : goal.returns-clause-one
returns-clause-one c = same_command

pub returns-clause-found : goal.returns-clause-found
returns-clause-found c = λ words command. (command_found words command, command_fits words command)
