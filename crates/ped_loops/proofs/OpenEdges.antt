-- Where no open dependence forbids a step, none that the DO carries occurs: its vectors are disproved, or it is rejected.
use Rattle.std.proofs.Common.{◌≡◌, ◌⊎◌, ℕ, List, [], ◌∷◌, All, Bool, true, false, ◌&&◌, ◌||◌, not, refl, sym, ap, ◌∙◌, inl, inr}
use Rattle.std.specs.List.{list_any}
use Rattle.std.proofs.lemmas.Bool.{both_ways, false_from_ne_true}
use Rattle.ped_base.specs.Lists.{has_some}
use Rattle.ped_tree.specs.Tree.{ExprTree, ProgramTree}
use Rattle.ped_edges.specs.Edges.{Mark, proven, pending, rejected, Edge, is_rejected}
use Rattle.ped_refs.specs.References.{Reference, references}
use Rattle.ped_refs.specs.TextPlaces.{place_of}
use Rattle.ped_evidence.specs.Evidence.{Line, disproves, NeverMeet}
use Rattle.ped_rules.specs.ped_views.specs.declared.directions.Direction.{Direction}
use Rattle.ped_rules.specs.ped_graph.specs.Dependences.{AreEdges}
use Rattle.ped_rules.specs.ped_symbols.specs.NameRefusals.{IsValid}
use Rattle.ped_rules.specs.ped_store.specs.Races.{Access, conflict}
use Rattle.ped_rules.specs.ped_laws.specs.Acts.Orders.{IsIn}
use Rattle.ped_rules.specs.ped_laws.specs.Conflicts.Covered.{ComeInRun, IsCovered}
use Rattle.ped_rules.specs.ped_laws.specs.Conflicts.Directions.{share_a_loop}
use Rattle.ped_rules.specs.ped_flow.specs.Questions.{LoopOf}
use Rattle.ped_rules.specs.ped_loop_runs.specs.Carried as runs
use Rattle.ped_rules.specs.ped_loop_runs.specs.Carried.{NoneMeetOn, NoneOfScalarsCarriedBy}
use Rattle.ped_rules.specs.ped_loop_runs.specs.TrueRejections.{IsTrueOn}
use Rattle.ped_rules.specs.Carried.{is_carried_by, carried}
use Rattle.ped_rules.proofs.HeadLaws.ParallelLawful.{UnrejectedLaw, Forbids, each_of, same_carried}
use Rattle.ped_loops.specs.ByEvidence.{is_open, carried_open}
use Rattle.ped_loops.proofs.SomeVectors.{has_vectors}

-- the laws of evidence that are cited
abbrev pub DisprovedLaw : Type 0
DisprovedLaw = (t : ProgramTree) (evidence : List Line) (e : Edge) (v : List Direction) → IsValid t → disproves t evidence e v ≡ true → NeverMeet t e.source e.sink v

abbrev pub ElementsLaw : Type 0
ElementsLaw = (t : ProgramTree) (evidence : List Line) (e : Edge) (v : List Direction) → disproves t evidence e v ≡ true → (r : Reference) → IsIn r (references t) → e.source ≡ place_of r → has_some r.access.subscripts ≡ true

-- none of a list passes a test
pub none_passes : {X : Type 0} (p : X → Bool) (xs : List X) (x : X) → IsIn x xs → list_any p xs ≡ false → p x ≡ false
none_passes p [] x i h = absurd i
none_passes p (y ∷ ys) x (inl e) h = ap p e ∙ neither (p y) (list_any p ys) h
  where
    neither : (a b : Bool) → (a || b) ≡ false → a ≡ false
    neither true b h = h
    neither false b h = refl
none_passes p (y ∷ ys) x (inr i) h = none_passes p ys x i (neither (p y) (list_any p ys) h)
  where
    neither : (a b : Bool) → (a || b) ≡ false → b ≡ false
    neither true b h = absurd (both_ways true h refl)
    neither false b h = h

pub truly : (b : Bool) → not b ≡ false → b ≡ true
truly true e = refl
truly false e = absurd (both_ways true e refl)

-- a dependence that the DO carries, and that doesn't forbid a step by this test, is rejected, or doesn't pass it
pub rejected_or : (m : Mark) (p q : Bool) → p ≡ true → ((p && not (is_rejected m)) && q) ≡ false → (m ≡ rejected) ⊎ (q ≡ false)
rejected_or rejected p q e h = inl refl
rejected_or proven true q e h = inr h
rejected_or pending true q e h = inr h
rejected_or proven false q e h = absurd (both_ways false refl e)
rejected_or pending false q e h = absurd (both_ways false refl e)

-- two accesses that a dependence covers don't conflict in directions that evidence disproves
pub never_covered : DisprovedLaw → (t : ProgramTree) → IsValid t → (evidence : List Line) (data_bytes : List ℕ) (edges : List Edge) (a b : Access) → ComeInRun t data_bytes a b → conflict a b ≡ true → share_a_loop a.place.turns b.place.turns ≡ true
    → (c : IsCovered t edges a b) → disproves t evidence c.edge c.vector ≡ true → ⊥
never_covered law t valid evidence data_bytes edges a b come meets share c h = law t evidence c.edge c.vector valid h data_bytes a b come meets share (sym c.source) (sym c.sink) c.stands

module _ (law : DisprovedLaw) (elements : ElementsLaw) (unrejected : UnrejectedLaw) (s : ℕ) (evidence : List Line) where
  module _ (t : ProgramTree) (loop : LoopOf t s) (edges : List Edge) (are : AreEdges t edges) (none : All (λ e. carried_open t s evidence e ≡ false) edges) where
    -- a dependence that the DO carries is rejected, or each of its vectors is disproved
    apart : (e : Edge) → IsIn e edges → runs.is_carried_by t s loop.body e ≡ true → (e.mark ≡ rejected) ⊎ (is_open t evidence e ≡ false)
    apart e i there = rejected_or e.mark (is_carried_by t s e) (is_open t evidence e) (sym (same_carried t s loop e) ∙ there) (each_of (λ (z : Edge). carried_open t s evidence z ≡ false) edges e none i)

    each_disproved : (e : Edge) → is_open t evidence e ≡ false → (v : List Direction) → IsIn v e.vectors → disproves t evidence e v ≡ true
    each_disproved e shut v i = truly (disproves t evidence e v) (none_passes (λ w. not (disproves t evidence e w)) e.vectors v i shut)

    meet : IsValid t → (data_bytes : List ℕ) → IsTrueOn t data_bytes → NoneMeetOn t edges data_bytes s loop.body
    meet valid data_bytes true_on a b come meets share c there = elim (apart c.edge c.listed there) [
      | inl marked ↦ true_on edges are a b come meets c marked
      | inr shut ↦ never_covered law t valid evidence data_bytes edges a b come meets share c (each_disproved c.edge shut c.vector c.contains)
    ]

    -- one of a scalar has a vector, and evidence speaks of elements alone
    scalar_open : (r : Reference) → IsIn r (references t) → r.access.subscripts ≡ [] → (e : Edge) → IsIn e edges → e.source ≡ place_of r → is_open t evidence e ≡ false → ⊥
    scalar_open r listed bare e i from shut = by e.vectors (has_vectors t edges are e i) (λ v j. each_disproved e shut v j)
      where
        by : (vs : List (List Direction)) → has_some vs ≡ true → ((v : List Direction) → IsIn v vs → disproves t evidence e v ≡ true) → ⊥
        by [] h disproved = both_ways false refl h
        by (v ∷ vs) h disproved = both_ways (has_some r.access.subscripts) (ap (λ (es : List ExprTree). has_some es) bare) (elements t evidence e v (disproved v (inl refl)) r listed from)

    scalars : ((e : Edge) → IsIn e edges → e.mark ≡ rejected → ⊥) → NoneOfScalarsCarriedBy t edges s loop.body
    scalars plain r listed bare e i from = false_from_ne_true (runs.is_carried_by t s loop.body e) (λ there. elim (apart e i there) [
      | inl marked ↦ plain e i marked
      | inr shut ↦ scalar_open r listed bare e i from shut
    ])

  -- so an open dependence that the DO carries is all that has to forbid a step
  pub open_forbids : Forbids s (λ t. carried_open t s evidence)
  open_forbids = record {
    meet = λ t valid loop data_bytes true_on edges are none. meet t loop edges are none valid data_bytes true_on;
    scalars = λ t loop edges plain are none. scalars t loop edges are none (unrejected t edges plain are);
  }
