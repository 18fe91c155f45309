use Rattle.ped_loop_runs.proofs.PastingLaws.TheirCopies.{theirs, theirs_unneeded}
use Rattle.ped_loop_runs.proofs.copies.copies_inside.Goals as goal

pub returns-clause-theirs : goal.returns-clause-theirs
returns-clause-theirs c = λ p t data_lines l count scope front acts behind u c x copy. theirs p scope l count c copy t data_lines front acts behind u x

pub returns-clause-unneeded : goal.returns-clause-unneeded
returns-clause-unneeded c = λ p scope l count c ts n inside u copy. theirs_unneeded p scope l count c copy ts n inside u
