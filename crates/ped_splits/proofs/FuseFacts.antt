-- Two DO loops that may become one: what the step shows of them, and the program between, in which the second one has the variable of the first.
use Rattle.std.proofs.Common.{◌≡◌, ℕ, List, [], false}
use Rattle.std.proofs.Common.{All}
use Rattle.ped_tree.specs.Tree.{ExprTree, ProgramTree}
use Rattle.ped_rules.specs.Rules.{IsBoundOf}
use Rattle.ped_rules.specs.ped_steps.specs.Tidy.{IsTidy}
use Rattle.ped_rules.specs.ped_flow.specs.PlainBounds.{IsPlain}
use Rattle.ped_rules.specs.ped_flow.specs.Questions.{IsContained}
use Rattle.ped_rules.specs.ped_eval.specs.Outcomes.{setting_of}
use Rattle.ped_edges.specs.Edges.{Edge}
use Rattle.ped_rules.specs.ped_symbols.specs.NameRefusals.{IsValid}
use Rattle.ped_splits.specs.Neighbours.{fused, next_number}
use Rattle.ped_splits.specs.Fusing.{Match, AreBack, forbids_fusion}
pub use Rattle.ped_splits.specs.OneVariable.{renamed_next, renamed_pair, renamed}

-- two DO loops of a tidy program that may become one: none is parallel or has PRIVATE names, both are contained, and so is the one that they become, the bounds are plain, and no dependence leads back
pub record IsFusable (t : ProgramTree) (s : ℕ) (m : Match t s) : Type 0 where
  pub valid : IsValid t
  pub new_valid : IsValid (fused m.neighbour)
  pub tidy : IsTidy t
  pub own_serial : m.neighbour.own.parallel ≡ false
  pub next_serial : m.neighbour.next.parallel ≡ false
  pub own_unprivate : m.neighbour.own.private ≡ []
  pub next_unprivate : m.neighbour.next.private ≡ []
  pub own_contained : IsContained t s
  pub next_contained : IsContained t (next_number m.neighbour)
  pub new_contained : IsContained (fused m.neighbour) s
  pub plain : (e : ExprTree) → IsBoundOf m.neighbour.own e → IsPlain (setting_of t).constants t s e
  pub unforbidden : (edges : List Edge) → AreBack m.neighbour edges → All (λ e. forbids_fusion m.neighbour e ≡ false) edges
