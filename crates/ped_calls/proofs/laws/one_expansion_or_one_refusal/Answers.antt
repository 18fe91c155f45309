use Rattle.ped_calls.proofs.OneVerdict.{one_of_both}
use Rattle.ped_calls.proofs.laws.one_expansion_or_one_refusal.Goals as goal

pub returns : goal.returns
returns c = one_of_both
