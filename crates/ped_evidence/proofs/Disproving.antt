-- Accesses of a run never meet in directions that evidence disproves.
use Rattle.std.proofs.Common.{◌≡◌, ℕ, ◌<◌, refl, sym, ap, ◌∙◌, subst, ℤ, List, [], ◌∷◌, Bool, true, false, ◌&&◌, ◌||◌, ◌==◌, Option, Some, None, if◌then◌else◌}
use Rattle.std.specs.Prelude.{option_and_then}
use Rattle.std.specs.List.{list_any}
use Rattle.std.specs.Option.{option_map_or}
use Rattle.std.proofs.lemmas.Bool.{and_parts, eqb-true}
use Rattle.ped_views.specs.declared.directions.Direction.{Direction}
use Rattle.ped_certificates.specs.declared.systems.Step.{Step}
use Rattle.ped_certificates.specs.declared.systems.System.{System}
use Rattle.ped_certificates.specs.Rows.{Meets}
use Rattle.ped_certificates.specs.Certificates.{refutes}
use Rattle.ped_tree.specs.Tree.{ProgramTree}
use Rattle.ped_refs.specs.References.{Reference, references}
use Rattle.ped_laws.specs.ped_graph.specs.ped_symbols.specs.NameRefusals.{IsValid}
use Rattle.ped_laws.specs.ped_edges.specs.Edges.{Edge}
use Rattle.ped_laws.proofs.ConflictLaws.CoveringRuns.{MakingLaw, SequenceLaw, makers}
use Rattle.ped_evidence.specs.Signs.{fits}
use Rattle.ped_evidence.specs.Claims.{reference_at, may_speak, if_spoken, system}
use Rattle.ped_evidence.specs.Evidence.{Line, holds, same_place, speaks_of, disproves, NeverMeet}
use Rattle.ped_evidence.proofs.AccessesMeet.{accesses_meet}
use Rattle.ped_evidence.proofs.ReferencePlaces.{place_counts, reference_found}

-- what a certificate that refutes a system proves
abbrev pub RefutingLaw : Type 0
RefutingLaw = (system : System) (steps : List Step) → refutes system steps ≡ true → (values : List ℤ) → Meets system.rows values → ⊥

pub places_same : (a b : ℕ × ℕ) → same_place a b ≡ true → a ≡ b
places_same a b h =
    let p = and_parts (a.0 == b.0) (a.1 == b.1) h in
    let first = eqb-true a.0 b.0 p.0 in
    let second = eqb-true a.1 b.1 p.1 in
    λ i. (first i, second i)

module _ (t : ProgramTree) (line : Line) where
  -- the line holds, by what stands at its places
  abbrev HoldsBy : Option Reference → Option Reference → Bool
  HoldsBy o p = option_map_or (λ (pair : Reference × Reference). refutes (system t pair.0 pair.1 line.claim.pattern) line.steps) (option_and_then (λ r. option_and_then (λ q. if_spoken line.claim.pattern r q) p) o) false

  -- where a line holds, a reference is at both of its places
  both_there : (o p : Option Reference) → HoldsBy o p ≡ true → ((r : Reference) × (o ≡ Some r)) × ((q : Reference) × (p ≡ Some q))
  both_there None p h = absurd cc
  both_there (Some r) None h = absurd cc
  both_there (Some r) (Some q) h = ((r, refl), (q, refl))

  refuted : (r q : Reference) → HoldsBy (Some r) (Some q) ≡ true → refutes (system t r q line.claim.pattern) line.steps ≡ true
  refuted r q h = by (may_speak r q line.claim.pattern) h
    where
      by : (b : Bool) → option_map_or (λ (pair : Reference × Reference). refutes (system t pair.0 pair.1 line.claim.pattern) line.steps) (if b then Some (r, q) else None) false ≡ true → refutes (system t r q line.claim.pattern) line.steps ≡ true
      by true k = k
      by false k = absurd cc

  module _ (made : MakingLaw) (sequence : SequenceLaw) (refuting : RefutingLaw) (valid : IsValid t) where
    pub line_disproves : (vector : List Direction) → holds t line ≡ true → fits line.claim.pattern vector ≡ true → NeverMeet t line.claim.source line.claim.sink vector
    line_disproves vector holding fit data_bytes a b come meets share from to stands =
        let there = both_there (reference_at (references t) line.claim.source) (reference_at (references t) line.claim.sink) holding in
        let first : 0 < line.claim.source.1 = place_counts t line.claim.source there.0.0 there.0.1 in
        let second : 0 < line.claim.sink.1 = place_counts t line.claim.sink there.1.0 there.1.1 in
        let one : 0 < a.reference = subst (λ (place : ℕ × ℕ). 0 < place.1) (sym from) first in
        let other : 0 < b.reference = subst (λ (place : ℕ × ℕ). 0 < place.1) (sym to) second in
        let by = makers made sequence t data_bytes a b valid come meets one other share in
        let m = by.met in
        let source_is : reference_at (references t) line.claim.source ≡ Some by.source =
        reference_found t line.claim.source by.source m.made.listed (sym m.made.statement ∙ ap (λ (place : ℕ × ℕ). place.0) from) (sym m.made.number ∙ ap (λ (place : ℕ × ℕ). place.1) from) in
        let sink_is : reference_at (references t) line.claim.sink ≡ Some by.sink =
        reference_found t line.claim.sink by.sink m.makes.listed (sym m.makes.statement ∙ ap (λ (place : ℕ × ℕ). place.0) to) (sym m.makes.number ∙ ap (λ (place : ℕ × ℕ). place.1) to) in
        let so : HoldsBy (Some by.source) (Some by.sink) ≡ true = (λ i. HoldsBy (sym source_is i) (sym sink_is i)) ∙ holding in
        let values = accesses_meet t by.first a b by.source by.sink m.at_source m.at_sink m.before m.behind vector line.claim.pattern m.made m.makes share m.same stands fit in
        refuting (system t by.source by.sink line.claim.pattern) line.steps (refuted by.source by.sink so) values.0 values.1

module _ (made : MakingLaw) (sequence : SequenceLaw) (refuting : RefutingLaw) (t : ProgramTree) (e : Edge) (v : List Direction) (valid : IsValid t) where
  pub never_meets : (evidence : List Line) → disproves t evidence e v ≡ true → NeverMeet t e.source e.sink v
  never_meets [] h = absurd cc
  never_meets (line ∷ evidence) h = by (speaks_of line e v) (holds t line) refl refl h (λ k. never_meets evidence k)
    where
      by : (s k : Bool) → speaks_of line e v ≡ s → holds t line ≡ k → ((s && k) || list_any (λ l. speaks_of l e v && holds t l) evidence) ≡ true → (list_any (λ l. speaks_of l e v && holds t l) evidence ≡ true → NeverMeet t e.source e.sink v) → NeverMeet t e.source e.sink v
      by true true is holding g more =
          let p = and_parts (same_place line.claim.source e.source && same_place line.claim.sink e.sink) (fits line.claim.pattern v) is in
          let q = and_parts (same_place line.claim.source e.source) (same_place line.claim.sink e.sink) p.0 in
          subst (λ (place : ℕ × ℕ). NeverMeet t place e.sink v) (places_same line.claim.source e.source q.0)
          (subst (λ (place : ℕ × ℕ). NeverMeet t line.claim.source place v) (places_same line.claim.sink e.sink q.1) (line_disproves t line made sequence refuting valid v holding p.1))
      by true false is holding g more = more g
      by false k is holding g more = more g
