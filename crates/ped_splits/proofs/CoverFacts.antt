-- Two DO loops that may become one, whether a dependence forbids it or not: what the covering law asks of them.
use Rattle.std.proofs.Common.{◌≡◌, ℕ, [], false}
use Rattle.ped_rules.specs.Rules.{IsBoundOf}
use Rattle.ped_rules.specs.ped_flow.specs.PlainBounds.{IsPlain}
use Rattle.ped_rules.specs.ped_flow.specs.Questions.{IsContained}
use Rattle.ped_rules.specs.ped_symbols.specs.NameRefusals.{IsValid}
use Rattle.ped_rules.specs.ped_eval.specs.Outcomes.{setting_of}
use Rattle.ped_tree.specs.Tree.{ExprTree, ProgramTree}
use Rattle.ped_splits.proofs.FuseFacts.{IsFusable}
use Rattle.ped_splits.specs.Fusing.{Match}
use Rattle.ped_splits.specs.Neighbours.{fused}

-- neither is parallel or has PRIVATE names, the one DO is contained, the bounds are plain, and both programs are valid
pub record MayFuse (t : ProgramTree) (s : ℕ) (m : Match t s) : Type 0 where
  pub valid : IsValid t
  pub new_valid : IsValid (fused m.neighbour)
  pub own_serial : m.neighbour.own.parallel ≡ false
  pub next_serial : m.neighbour.next.parallel ≡ false
  pub own_unprivate : m.neighbour.own.private ≡ []
  pub next_unprivate : m.neighbour.next.private ≡ []
  pub new_contained : IsContained (fused m.neighbour) s
  pub plain : (e : ExprTree) → IsBoundOf m.neighbour.own e → IsPlain (setting_of t).constants t s e

pub may_fuse : (t : ProgramTree) (s : ℕ) (m : Match t s) → IsFusable t s m → MayFuse t s m
may_fuse t s m x = record {
  valid = x.valid;
  new_valid = x.new_valid;
  own_serial = x.own_serial;
  next_serial = x.next_serial;
  own_unprivate = x.own_unprivate;
  next_unprivate = x.next_unprivate;
  new_contained = x.new_contained;
  plain = x.plain;
}
