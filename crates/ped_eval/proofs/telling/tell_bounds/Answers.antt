use Rattle.std.proofs.Common.{refl}
use Rattle.ped_eval.specs.Noting.{noted_by}
use Rattle.ped_eval.proofs.telling.tell_bounds.Goals as goal

pub returns-clause-told : goal.returns-clause-told
returns-clause-told g c = c.in_ok-tell.ensures (noted_by c.args.notes.now) (λ kept. refl)
