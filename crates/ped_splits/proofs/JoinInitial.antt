-- The second of two DO loops of one variable has the initial value of the first one, in each execution.
use Rattle.std.proofs.Common.{ap, ℕ}
use Rattle.ped_rules.specs.ped_eval.specs.Loops.{Limits}
use Rattle.ped_tree.specs.Tree.{ProgramTree}
use Rattle.ped_splits.proofs.CoverFacts.{MayFuse}
use Rattle.ped_splits.proofs.CoverMeets.{SameInitial}
use Rattle.ped_splits.proofs.FuseFacts.{renamed}
use Rattle.ped_splits.proofs.JoinBounds.{limits_alike}
use Rattle.ped_splits.proofs.JoinedFacts.{are_joined}
use Rattle.ped_splits.specs.Fusing.{Match}
use Rattle.ped_splits.specs.Neighbours.{fused}

pub initial_alike : (t : ProgramTree) (s : ℕ) (m : Match t s) → MayFuse t s m → SameInitial m.neighbour
initial_alike t s m f data_bytes ends scope front behind v executed goes one other =
    ap (λ (l : Limits). l.first) (limits_alike (renamed m.neighbour) (fused m.neighbour) s (are_joined t s m f) data_bytes scope front behind v executed goes one other)
