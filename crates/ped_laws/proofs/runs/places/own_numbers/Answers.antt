use Rattle.ped_laws.proofs.RunLaws.Numbers.{run_same, all_same}
use Rattle.ped_laws.proofs.runs.places.own_numbers.Goals as goal

pub returns-clause-statement : goal.returns-clause-statement
returns-clause-statement c = λ p q t n m scope bounds constants. run_same p q bounds constants t n m scope

pub returns-clause-statements : goal.returns-clause-statements
returns-clause-statements c = λ p q ts n m scope bounds constants. all_same p q bounds constants ts n m scope
