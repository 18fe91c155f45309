use Rattle.std.proofs.Common.{sym, ◌∙◌}
use Rattle.ped_eval.proofs.one_outcome.Goals as goal

pub returns : goal.returns
returns c t data_bytes o p h k = h ∙ sym k
