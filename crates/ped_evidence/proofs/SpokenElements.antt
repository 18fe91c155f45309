-- Evidence speaks of elements alone.
use Rattle.std.proofs.Common.{◌≡◌, ℕ, List, [], ◌∷◌, Bool, true, false, ◌&&◌, ◌||◌, ◌==◌, Option, Some, None, if◌then◌else◌, length, refl, sym, ap, ◌∙◌}
use Rattle.std.specs.Prelude.{option_and_then}
use Rattle.std.specs.List.{list_any}
use Rattle.std.specs.Option.{option_map_or}
use Rattle.std.proofs.lemmas.Bool.{and_parts}
use Rattle.ped_base.specs.Lists.{has_some}
use Rattle.ped_views.specs.declared.directions.Direction.{Direction}
use Rattle.ped_certificates.specs.Certificates.{refutes}
use Rattle.ped_tree.specs.Tree.{ProgramTree}
use Rattle.ped_tree.specs.Nests.{common_nest}
use Rattle.ped_refs.specs.References.{Reference, references, is_pair}
use Rattle.ped_refs.specs.TextPlaces.{place_of}
use Rattle.ped_laws.specs.ped_edges.specs.Edges.{Edge}
use Rattle.ped_laws.specs.Acts.Orders.{IsIn}
use Rattle.ped_evidence.specs.Signs.{fits}
use Rattle.ped_evidence.specs.Claims.{reference_at, may_speak, if_spoken, system}
use Rattle.ped_evidence.specs.Evidence.{Line, holds, same_place, speaks_of, disproves}
use Rattle.ped_evidence.proofs.Disproving.{places_same}
use Rattle.ped_evidence.proofs.ReferencePlaces.{reference_found}

module _ (t : ProgramTree) where
  module _ (line : Line) where
    -- where a line holds, evidence may speak of the references at its places
    spoken : (r : Reference) (p : Option Reference)
        → option_map_or (λ (pair : Reference × Reference). refutes (system t pair.0 pair.1 line.claim.pattern) line.steps) (option_and_then (λ (x : Reference). option_and_then (λ q. if_spoken line.claim.pattern x q) p) (Some r)) false ≡ true
        → has_some r.access.subscripts ≡ true
    spoken r None h = absurd cc
    spoken r (Some q) h = by (may_speak r q line.claim.pattern) refl h
      where
        by : (b : Bool) → may_speak r q line.claim.pattern ≡ b → option_map_or (λ (pair : Reference × Reference). refutes (system t pair.0 pair.1 line.claim.pattern) line.steps) (if b then Some (r, q) else None) false ≡ true → has_some r.access.subscripts ≡ true
        by true is k =
            let a = and_parts (is_pair r q && has_some r.access.subscripts && has_some q.access.subscripts) (length line.claim.pattern == length (common_nest r.nest q.nest)) is in
            let b = and_parts (is_pair r q && has_some r.access.subscripts) (has_some q.access.subscripts) a.0 in
            (and_parts (is_pair r q) (has_some r.access.subscripts) b.0).1
        by false is k = absurd cc

    -- so the reference at its source has subscripts
    pub source_of_elements : (r : Reference) → IsIn r (references t) → line.claim.source ≡ place_of r → holds t line ≡ true → has_some r.access.subscripts ≡ true
    source_of_elements r listed at holding =
        let found = reference_found t line.claim.source r listed (sym (ap (λ (place : ℕ × ℕ). place.0) at)) (sym (ap (λ (place : ℕ × ℕ). place.1) at)) in
        spoken r (reference_at (references t) line.claim.sink)
        (ap (λ (o : Option Reference).
        option_map_or (λ (pair : Reference × Reference). refutes (system t pair.0 pair.1 line.claim.pattern) line.steps)
        (option_and_then (λ (x : Reference). option_and_then (λ q. if_spoken line.claim.pattern x q) (reference_at (references t) line.claim.sink)) o) false) (sym found)
        ∙ holding)

  -- where evidence disproves a vector of a dependence, its source has subscripts
  pub elements_alone : (evidence : List Line) (e : Edge) (v : List Direction) → disproves t evidence e v ≡ true → (r : Reference) → IsIn r (references t) → e.source ≡ place_of r → has_some r.access.subscripts ≡ true
  elements_alone [] e v h r listed at = absurd cc
  elements_alone (line ∷ evidence) e v h r listed at = by (speaks_of line e v) (holds t line) refl refl h (λ k. elements_alone evidence e v k r listed at)
    where
      by : (s k : Bool) → speaks_of line e v ≡ s → holds t line ≡ k → ((s && k) || list_any (λ l. speaks_of l e v && holds t l) evidence) ≡ true
          → (list_any (λ l. speaks_of l e v && holds t l) evidence ≡ true → has_some r.access.subscripts ≡ true) → has_some r.access.subscripts ≡ true
      by true true is holding g more =
          let p = and_parts (same_place line.claim.source e.source && same_place line.claim.sink e.sink) (fits line.claim.pattern v) is in
          let q = and_parts (same_place line.claim.source e.source) (same_place line.claim.sink e.sink) p.0 in
          source_of_elements line r listed (places_same line.claim.source e.source q.0 ∙ at) holding
      by true false is holding g more = more g
      by false k is holding g more = more g
