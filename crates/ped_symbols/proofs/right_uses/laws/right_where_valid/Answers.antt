use Rattle.ped_symbols.proofs.RightUseLaws.Whole.{right_program}
use Rattle.ped_symbols.proofs.right_uses.laws.right_where_valid.Goals as goal

pub returns : goal.returns
returns c = right_program
