use Rattle.ped_splits.proofs.CoverRuns.{cross_covered}
use Rattle.ped_splits.proofs.laws.fused_conflicts_are_covered.Goals as goal

pub returns : goal.returns
returns c t s m valid either none data_bytes ends a b cross edges are = cross_covered c.accesses_are_made.ensures t s m valid either none data_bytes ends a b cross edges are
