use Rattle.ped_lines.proofs.PrintedLaws.Whole
use Rattle.ped_lines.proofs.printed.laws.printed_statements_are_cut.Goals as goal

pub returns-clause-not_refused : goal.returns-clause-not_refused
returns-clause-not_refused c = Whole.not_refused

pub returns-clause-statements : goal.returns-clause-statements
returns-clause-statements c = Whole.are_cut
