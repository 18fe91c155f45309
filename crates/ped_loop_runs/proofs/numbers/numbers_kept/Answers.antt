use Rattle.ped_loop_runs.proofs.PastingLaws.CountedNumbers.{told_back, each_counts, inside_counts, count_alike}
use Rattle.ped_loop_runs.proofs.numbers.numbers_kept.Goals as goal

pub returns-clause-back : goal.returns-clause-back
returns-clause-back c = told_back

pub returns-clause-each : goal.returns-clause-each
returns-clause-each c = each_counts

pub returns-clause-inside : goal.returns-clause-inside
returns-clause-inside c = inside_counts

pub returns-clause-alike : goal.returns-clause-alike
returns-clause-alike c = count_alike
