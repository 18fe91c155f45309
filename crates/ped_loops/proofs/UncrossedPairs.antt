-- Where no dependence forbids `interchange`, none that the outer DO carries has its sink in an earlier iteration of the inner one, but for rejected ones, and in directions that evidence disproves.
use Rattle.std.proofs.Common.{◌≡◌, ℕ, ◌+◌, List, length, slice_get, All, Bool, true, false, ◌&&◌, not, Option, Some, refl, sym, ap, ◌∙◌, inl, inr}
use Rattle.std.proofs.lemmas.Bool.{both_ways}
use Rattle.ped_tree.specs.Tree.{ProgramTree}
use Rattle.ped_edges.specs.Edges.{rejected, Edge}
use Rattle.ped_evidence.specs.Evidence.{Line, disproves}
use Rattle.ped_rules.specs.ped_views.specs.declared.directions.Direction.{Direction}
use Rattle.ped_rules.specs.ped_views.specs.declared.directions.Direction.TheVariants.{After}
use Rattle.ped_rules.specs.ped_graph.specs.Dependences.{AreEdges}
use Rattle.ped_rules.specs.ped_flow.specs.PlainBounds.{nest_round}
use Rattle.ped_rules.specs.ped_flow.specs.Questions.{LoopOf}
use Rattle.ped_rules.specs.ped_symbols.specs.NameRefusals.{IsValid}
use Rattle.ped_rules.specs.ped_loop_runs.specs.TrueRejections.{IsTrueOn}
use Rattle.ped_rules.specs.Carried.{level_at, is_after, is_carried_by, has_after, crossing}
use Rattle.ped_rules.proofs.HeadLaws.ParallelLawful.{each_of, same_carried}
pub use Rattle.ped_rules.proofs.NestLaws.WovenConflicts.{NoneCrossesOn, some_after}
use Rattle.ped_loops.specs.ByEvidence.{has_open_after, crossing_open}
use Rattle.ped_loops.proofs.OpenEdges.{DisprovedLaw, none_passes, truly, rejected_or, never_covered}

-- what a test of dependences gives for the DO with number s, where it passes none of a program: none that the DO carries, with `>` for the next DO in it, occurs on data on which no rejected one does
abbrev pub Uncrosses : (s : ℕ) → (ProgramTree → Edge → Bool) → Type 0
Uncrosses s forbids =
    (t : ProgramTree) → IsValid t → (loop : LoopOf t s) (data_bytes : List ℕ) → IsTrueOn t data_bytes → (edges : List Edge) → AreEdges t edges → All (λ e. forbids t e ≡ false) edges → NoneCrossesOn t edges data_bytes s loop.body

-- that the DO carries such a dependence, which isn't rejected, is such a test
pub crossing_uncrosses : (s : ℕ) → Uncrosses s (λ t. crossing t s)
crossing_uncrosses s t valid loop data_bytes true_on edges are none a b come meets share c there after =
    elim (rejected_or c.edge.mark (is_carried_by t s c.edge) (has_after (level_at t s) c.edge) (sym (same_carried t s loop c.edge) ∙ there) (each_of (λ (z : Edge). crossing t s z ≡ false) edges c.edge none c.listed)) [
      | inl marked ↦ true_on edges are a b come meets c marked
      | inr none_after ↦ both_ways (has_after (level_at t s) c.edge) none_after (some_after (level_at t s) c.vector c.edge.vectors c.contains after)
    ]

-- and so is that a vector of it with `>` isn't disproved
pub open_uncrosses : DisprovedLaw → (s : ℕ) (evidence : List Line) → Uncrosses s (λ t. crossing_open t s evidence)
open_uncrosses law s evidence t valid loop data_bytes true_on edges are none a b come meets share c there after =
    elim (rejected_or c.edge.mark (is_carried_by t s c.edge) (has_open_after t evidence (level_at t s) c.edge) (sym (same_carried t s loop c.edge) ∙ there) (each_of (λ (z : Edge). crossing_open t s evidence z ≡ false) edges c.edge none c.listed)) [
      | inl marked ↦ true_on edges are a b come meets c marked
      | inr shut ↦ never_covered law t valid evidence data_bytes edges a b come meets share c
          (truly (disproves t evidence c.edge c.vector)
          (behind (slice_get c.vector (level_at t s)) (disproves t evidence c.edge c.vector) after
          (none_passes (λ w. is_after (slice_get w (level_at t s)) && not (disproves t evidence c.edge w)) c.edge.vectors c.vector c.contains shut)))
    ]
  where
    behind : (o : Option Direction) (d : Bool) → o ≡ Some After → (is_after o && not d) ≡ false → not d ≡ false
    behind o d is h = ap (λ (x : Option Direction). is_after x && not d) (sym is) ∙ h
