use Rattle.std.proofs.Common.{◌+◌, ◌∷◌}
use Rattle.ped_eval.specs.Turns.{body_run}
use Rattle.ped_laws.proofs.RunLaws.StatementsTold.{run_told, all_told, turns_told, parallel_told}
use Rattle.ped_laws.proofs.runs.pieces.told_by_acts.Goals as goal

pub returns-clause-statement : goal.returns-clause-statement
returns-clause-statement c = run_told

pub returns-clause-statements : goal.returns-clause-statements
returns-clause-statements c = all_told

pub returns-clause-turns : goal.returns-clause-turns
returns-clause-turns c = λ p body n left k scope e at. turns_told e scope at (body_run p body n scope) (λ f. all_told p body (n + 1) (f ∷ scope)) left k

pub returns-clause-parallel_turns : goal.returns-clause-parallel_turns
returns-clause-parallel_turns c = λ p body n left k scope e. parallel_told e (body_run p body n scope) (λ f. all_told p body (n + 1) (f ∷ scope)) left k
