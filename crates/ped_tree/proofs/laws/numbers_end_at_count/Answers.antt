use Rattle.ped_tree.proofs.Numbers.{length-numbered, length-all_numbered, statement_with-none}
use Rattle.ped_tree.proofs.laws.numbers_end_at_count.Goals as goal

pub returns-clause-statement : goal.returns-clause-statement
returns-clause-statement c = length-numbered

pub returns-clause-statements : goal.returns-clause-statements
returns-clause-statements c = length-all_numbered

pub returns-clause-none : goal.returns-clause-none
returns-clause-none c = statement_with-none
