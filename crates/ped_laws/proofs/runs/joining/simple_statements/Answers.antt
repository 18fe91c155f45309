use Rattle.ped_laws.proofs.RunLaws.Joined.{assignment_does, assignment_fault, print_does, print_fault, stop_does, comment_does}
use Rattle.ped_laws.proofs.runs.joining.simple_statements.Goals as goal

pub returns-clause-assignment : goal.returns-clause-assignment
returns-clause-assignment c = assignment_does

pub returns-clause-assignment_fault : goal.returns-clause-assignment_fault
returns-clause-assignment_fault c = assignment_fault

pub returns-clause-print : goal.returns-clause-print
returns-clause-print c = print_does

pub returns-clause-print_fault : goal.returns-clause-print_fault
returns-clause-print_fault c = print_fault

pub returns-clause-stop : goal.returns-clause-stop
returns-clause-stop c = stop_does

pub returns-clause-comment : goal.returns-clause-comment
returns-clause-comment c = comment_does
