use Rattle.ped_loop_runs.proofs.TidyLaws.UnrejectedEdges.{edges_unrejected, pairs_unrejected, unrejected_true}
use Rattle.ped_loop_runs.proofs.rejections.none_rejected.Goals as goal

pub returns-clause-edges : goal.returns-clause-edges
returns-clause-edges c = edges_unrejected

pub returns-clause-of_pairs : goal.returns-clause-of_pairs
returns-clause-of_pairs c = pairs_unrejected

pub returns-clause-true_on : goal.returns-clause-true_on
returns-clause-true_on c = unrejected_true
