-- Pairs that are listed by their places, one by one.
use Rattle.std.proofs.Common.{◌≡◌, ℕ, List, [], ◌∷◌, map, length, Option, Some, None, refl, ap, subst}
use Rattle.std.specs.Prelude.{slice_get}
use Rattle.std.specs.List.{All, AllByRecursion}
use Rattle.std.proofs.lemmas.List.{length-map}
use Rattle.std.proofs.lemmas.List.Elements.{All-from_recursion}
use Rattle.std.proofs.lemmas.Option.{slice_get_within}
use Rattle.ped_refs.specs.References.{Reference}
use Rattle.ped_refs.specs.Occurrences.{reference_of, references_of, both, pair_at, IsWithin}
use Rattle.ped_refs.specs.declared.occurring.Occurrence.{Occurrence}
use Rattle.ped_refs.specs.declared.pairing.Pair.{Pair}

both_there : (a b : Option Reference) (q : Reference × Reference) → both a b ≡ Some q → (a ≡ Some q.0) × (b ≡ Some q.1)
both_there (Some a) (Some b) q h =
    let e : (a, b) ≡ q = cc in
    (ap (λ (p : Reference × Reference). Some p.0) e, ap (λ (p : Reference × Reference). Some p.1) e)
both_there (Some a) None q h = absurd cc
both_there None b q h = absurd cc

-- the references at the places of the first of listed pairs, and what is left
pub record IsFirst (refs : List Reference) (p : Pair) (listed : List Pair) (those : List (Reference × Reference)) : Type 0 where
  pub pair : Reference × Reference
  pub rest : List (Reference × Reference)
  pub are : those ≡ pair ∷ rest
  pub source : slice_get refs p.source ≡ Some pair.0
  pub sink : slice_get refs p.sink ≡ Some pair.1
  pub left : map (pair_at refs) listed ≡ map Some rest

-- the first of listed pairs
pub first_pair : (refs : List Reference) (p : Pair) (listed : List Pair) (those : List (Reference × Reference)) → map (pair_at refs) (p ∷ listed) ≡ map Some those → IsFirst refs p listed those
first_pair refs p listed [] e = absurd cc
first_pair refs p listed (q ∷ rest) e =
    let here : pair_at refs p ≡ Some q = cc in
    let left : map (pair_at refs) listed ≡ map Some rest = cc in
    let places = both_there (slice_get refs p.source) (slice_get refs p.sink) q here in
    record { pair = q; rest = rest; are = refl; source = places.0; sink = places.1; left = left }

places_within : (refs : List Reference) (listed : List Pair) (those : List (Reference × Reference)) → map (pair_at refs) listed ≡ map Some those → AllByRecursion (IsWithin (length refs)) listed
places_within refs [] those e = tt
places_within refs (p ∷ listed) those e =
    let first = first_pair refs p listed those e in (
      record {
        source = slice_get_within refs p.source first.pair.0 first.source;
        sink = slice_get_within refs p.sink first.pair.1 first.sink;
      },
      places_within refs listed first.rest first.left,
    )

-- the places of listed pairs are places of references
pub all_within : (found : List Occurrence) (listed : List Pair) (those : List (Reference × Reference)) → map (pair_at (references_of found)) listed ≡ map Some those → All (IsWithin (length found)) listed
all_within found listed those e =
    subst (λ (count : ℕ). All (IsWithin count) listed) (length-map found reference_of) (All-from_recursion (IsWithin (length (references_of found))) listed (places_within (references_of found) listed those e))
