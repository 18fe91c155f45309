use Rattle.ped_flow.proofs.TreeSummaries.{summed, all_summed, all_behind-summed, all_before-summed}
use Rattle.ped_flow.proofs.laws.paths_are_summed.Goals as goal

pub returns-clause-statement : goal.returns-clause-statement
returns-clause-statement c = summed

pub returns-clause-statements : goal.returns-clause-statements
returns-clause-statements c = all_summed

pub returns-clause-behind : goal.returns-clause-behind
returns-clause-behind c = all_behind-summed

pub returns-clause-before : goal.returns-clause-before
returns-clause-before c = all_before-summed
