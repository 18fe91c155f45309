use Rattle.ped_parse.proofs.OneOfBoth.{one_of_both}
use Rattle.ped_parse.proofs.laws_of_reading.one_tree_or_one_refusal.Goals as goal

pub returns : goal.returns
returns c = one_of_both
