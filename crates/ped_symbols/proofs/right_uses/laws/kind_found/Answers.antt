use Rattle.ped_symbols.proofs.RightUseLaws.Found.{found_in_program}
use Rattle.ped_symbols.proofs.right_uses.laws.kind_found.Goals as goal

pub returns : goal.returns
returns c = found_in_program
