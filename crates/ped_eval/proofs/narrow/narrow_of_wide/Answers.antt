use Rattle.ped_eval.proofs.Notings.{still_unkept}
use Rattle.ped_eval.proofs.narrow.narrow_of_wide.Goals as goal

pub returns-clause-kept : goal.returns-clause-kept
returns-clause-kept c = still_unkept c.args.notes.now c.value_of.new.notes _ c.requires c.value_of.ensures.noted
