use Rattle.std.proofs.Common.{rules}
use Rattle.std.proofs.lemmas.Fn.{filter_same}
use Rattle.ped_loops.proofs.openness.keep_open_after.Goals as goal

pub returns : goal.returns
returns c = λ t judged. filter_same _ _ _ (λ x b f k. search rules) _ _ c.retain.ensures.filtered
