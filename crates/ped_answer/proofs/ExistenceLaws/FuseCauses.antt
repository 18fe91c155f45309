-- `fuse` has a first cause against it in a program, or none.
use Rattle.std.proofs.Common.{◌≡◌, ◌⊎◌, ℕ, inl, inr, refl, List, filter, All, false, Option, Some, None}
use Rattle.ped_session.specs.ped_rules.specs.ped_edges.specs.Edges.{Edge}
use Rattle.ped_session.specs.ped_refs.specs.References.{references, pairs}
use Rattle.ped_tree.specs.Tree.{ProgramTree}
use Rattle.ped_session.specs.ped_steps.specs.declared.rules.Rule.TheVariants.{NoLoop, ParallelState, HasPrivate, IndexEscapes, BoundNotPlain, NoNeighbour, Limit}
use Rattle.ped_session.specs.ped_steps.specs.Causes.{Cause, rule, dependence, NoRule, IsFirstForbidding}
use Rattle.ped_session.specs.ped_rules.specs.Rules.{WhereNoLoop, is_parallel, has_private, WhereUnplain}
use Rattle.ped_session.specs.ped_transformations.specs.ped_splits.specs.Distributing.{IsItsBound}
use Rattle.ped_session.specs.ped_transformations.specs.ped_splits.specs.Neighbours.{fused, next_number}
use Rattle.ped_session.specs.ped_transformations.specs.ped_splits.specs.Fusing.{Match, WhereEither, WhereFusionEscapes, WhereNoMatch, WhereFusedLimit, StandsAgainstFusion, goes_back, AreBack, forbids_fusion, with_present_numbers, IsFusionCause}
use Rattle.ped_session.specs.ped_transformations.specs.ped_splits.proofs.Existence.Edges.{edges_of_pairs}
use Rattle.ped_session.specs.ped_transformations.specs.ped_splits.proofs.FusableFacts.{its_match}
use Rattle.ped_session.specs.ped_transformations.specs.ped_splits.proofs.FuseOne.{one_back_edges}
use Rattle.ped_session.specs.ped_transformations.specs.ped_splits.proofs.FuseRules as rules
use Rattle.ped_session.specs.ped_transformations.specs.ped_splits.proofs.FusionSettled as names
use Rattle.ped_answer.proofs.ExistenceLaws.ChainCauses.{Found, found_link, found_last, settled_no_loop, first_edge}
use Rattle.ped_answer.proofs.ExistenceLaws.DistributeCauses.{settled_plain}

module _ (t : ProgramTree) (s : ℕ) where
  -- a first rule stands, or none
  first_rule : Found (StandsAgainstFusion s t)
  first_rule =
      found_link NoLoop (WhereNoLoop t s) (rules.state s t) (rules.state_chain s t) (settled_no_loop t s)
      (found_link ParallelState (WhereEither t s is_parallel) (rules.shared s t) (rules.shared_chain s t) (names.either_names t s is_parallel)
      (found_link HasPrivate (WhereEither t s has_private) (rules.escape s t) (rules.escape_chain s t) (names.either_names t s has_private)
      (found_link IndexEscapes (WhereFusionEscapes t s) (rules.plain s t) (rules.plain_chain s t) (names.escape_names t s)
      (found_link BoundNotPlain (WhereUnplain t s (IsItsBound t s)) (rules.alone_rule s t) (rules.alone_chain s t) (settled_plain t s)
      (found_link NoNeighbour (WhereNoMatch t s) (rules.limit s t) (rules.limit_chain s t) (names.alone_names t s)
      (found_last Limit (WhereFusedLimit t s) (names.limit_names t s)))))))

  module _ (none : NoRule (StandsAgainstFusion s t)) where
    -- a dependence of the new program forbids it, or none does
    by_edges : (m : Match t s) (edges : List Edge) → AreBack m.neighbour edges → ((e : Edge) × IsFirstForbidding (forbids_fusion m.neighbour) edges e) ⊎ All (λ e. forbids_fusion m.neighbour e ≡ false) edges → (c : Option Cause) × IsFusionCause s t c
    by_edges m edges are (inl (e, first)) = (Some (dependence (with_present_numbers (next_number m.neighbour) e)), (none, m, edges, are, e, first, refl))
    by_edges m edges are (inr all) = (None, (none, λ n others they. one_back_edges s t m n edges others are they all))

    some_edges : (m : Match t s) → (edges : List Edge) × AreBack m.neighbour edges
    some_edges m = edges_of_pairs (fused m.neighbour) (filter (goes_back m.neighbour) (pairs (references (fused m.neighbour))))

    by_dependences : (c : Option Cause) × IsFusionCause s t c
    by_dependences =
        let m = its_match t s none in
        let found = some_edges m in
        by_edges m found.0 found.1 (first_edge (forbids_fusion m.neighbour) found.0)

  by_rules : Found (StandsAgainstFusion s t) → (c : Option Cause) × IsFusionCause s t c
  by_rules (inl (r, n, first)) = (Some (rule r n), first)
  by_rules (inr none) = by_dependences none

  pub fuse_cause : (c : Option Cause) × IsFusionCause s t c
  fuse_cause = by_rules first_rule
