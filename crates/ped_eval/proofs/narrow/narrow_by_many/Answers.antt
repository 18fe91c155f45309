use Rattle.ped_eval.proofs.Notings.{still_unkept}
use Rattle.ped_eval.proofs.narrow.narrow_by_many.Goals as goal

pub returns-clause-kept : goal.returns-clause-kept
returns-clause-kept c = still_unkept c.args.notes.now c.element_by_many.new.notes _ c.requires c.element_by_many.ensures.noted
