use Rattle.ped_laws.proofs.PlainLaws.SmallWrites.{run_small, run_all_small, small_after}
use Rattle.ped_laws.proofs.plain.sizes.scalars_are_small.Goals as goal

pub returns-clause-statement : goal.returns-clause-statement
returns-clause-statement c = λ p x t n scope s d h named. run_small p x d named t n scope s h

pub returns-clause-statements : goal.returns-clause-statements
returns-clause-statements c = λ p x ts n scope s d h named. run_all_small p x d named ts n scope s h

pub returns-clause-kept : goal.returns-clause-kept
returns-clause-kept c = small_after
