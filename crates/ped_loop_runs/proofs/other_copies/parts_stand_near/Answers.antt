use Rattle.ped_loop_runs.proofs.PastingLaws.ExitsStand.{exit_stands}
use Rattle.ped_loop_runs.proofs.PastingLaws.StandingParts.{all_stand_near}
use Rattle.ped_loop_runs.proofs.other_copies.parts_stand_near.Goals as goal

pub returns-clause-exit : goal.returns-clause-exit
returns-clause-exit c = λ shown agreed names apart p t start l suit asked. exit_stands shown agreed suit names apart p t start l asked

pub returns-clause-parts : goal.returns-clause-parts
returns-clause-parts c = λ shown agreed names apart p t start l count piece fresh suit. all_stand_near shown agreed suit names apart p t start l count piece fresh
