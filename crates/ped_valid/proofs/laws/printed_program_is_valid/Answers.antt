use Rattle.ped_valid.proofs.OneVerdict.{valid_prints}
use Rattle.ped_valid.proofs.laws.printed_program_is_valid.Goals as goal

pub returns : goal.returns
returns c = valid_prints
