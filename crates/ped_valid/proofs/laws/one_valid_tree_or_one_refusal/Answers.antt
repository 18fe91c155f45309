use Rattle.ped_valid.proofs.OneVerdict.{one_of_both}
use Rattle.ped_valid.proofs.laws.one_valid_tree_or_one_refusal.Goals as goal

pub returns : goal.returns
returns c = one_of_both
