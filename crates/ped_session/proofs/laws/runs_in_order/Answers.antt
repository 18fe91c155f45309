use Rattle.ped_session.proofs.RunsInOrder.{in_order, plain_order}
use Rattle.ped_session.proofs.laws.runs_in_order.Goals as goal

pub returns-clause-lowered : goal.returns-clause-lowered
returns-clause-lowered c = λ d s next reply shows. in_order c.without_choices.ensures d s next reply shows

pub returns-clause-plain : goal.returns-clause-plain
returns-clause-plain c = λ d s next reply shows none. plain_order c.without_choices.ensures d s next reply shows none
