use Rattle.ped_answer.proofs.MadePrograms.{is_bare}
use Rattle.ped_answer.proofs.NoLists.{has_no_list}
use Rattle.ped_answer.proofs.generating.made_programs_have_no_list.Goals as goal

pub returns-clause-none : goal.returns-clause-none
returns-clause-none c = λ n t reads. has_no_list t (is_bare n t reads.reads)

pub returns-clause-runs : goal.returns-clause-runs
returns-clause-runs c = λ n t choices d o reads. c.without_lists.ensures.none choices d t o (has_no_list t (is_bare n t reads.reads))
