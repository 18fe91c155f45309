use Rattle.ped_answer.proofs.MadePrograms.{is_bare}
use Rattle.ped_answer.proofs.SerialPrograms.{is_trusted, has_no_race}
use Rattle.ped_answer.proofs.generating.made_programs_are_trusted.Goals as goal

pub returns-clause-trusted : goal.returns-clause-trusted
returns-clause-trusted c = λ n t reads. is_trusted t (is_bare n t reads.reads)

pub returns-clause-race_free : goal.returns-clause-race_free
returns-clause-race_free c = λ n t d reads ends. (ends, has_no_race c.races_are_covered.ensures c.dependences_exist.ensures t d reads.valid (is_bare n t reads.reads))
