-- One step of finding pairs: the reference at a place.
use Rattle.std.proofs.Common.{◌≡◌, ℕ, suc, ◌+◌, ◌<◌, ◌≤◌, List, [], ◌∷◌, ◌++◌, map, take, drop, length, get_or, Some, if◌then◌else◌, ap, sym, subst, ◌∙◌, append_assoc, append-nil, add-one, arith}
use Rattle.std.proofs.Math.Seq.{drop-cons}
use Rattle.std.proofs.lemmas.List.{take_more, take_all, drop_all, length-map, length-take-le, map-append}
use Rattle.ped_refs.specs.References.{Reference, is_pair, pairs}
use Rattle.ped_refs.specs.Occurrences.{reference_of, references_of, pair_at}
use Rattle.ped_refs.specs.Groups.{looped_group}
use Rattle.ped_refs.specs.Grouping.{Table, AreGrouped, pair_of, places_at, places_from, is_this, with_place, pairs_from, sinks_at}
use Rattle.ped_refs.specs.declared.groups.Group.{Group}
use Rattle.ped_refs.specs.declared.occurring.Occurrence.{Occurrence}
use Rattle.ped_refs.specs.declared.pairing.Pair.{Pair}
use Rattle.ped_refs.proofs.PairPlaces.{grouped_more, sinks_are, pairs_found}

module _ (found : List Occurrence) (place : ℕ) (x : Occurrence) (within : place < length found) (is : x ≡ get_or found place x) where
  front_is : references_of (take (place + 1) found) ≡ references_of (take place found) ++ reference_of x ∷ []
  front_is =
      ap references_of (take_more found place x within ∙ ap (λ y. take place found ++ y ∷ []) (sym is)) ∙ map-append reference_of (take place found) (x ∷ [])

  rest_is : references_of (drop place found) ≡ reference_of x ∷ references_of (drop (place + 1) found)
  rest_is = ap references_of (drop-cons found place x within ∙ (λ i. sym is i ∷ drop (sym (add-one place) i) found))

  -- the table with the reference at the place
  pub place_grouped : (old new : Table) → AreGrouped (references_of (take place found)) old
      → ((other : Group) → places_at new other ≡ (if is_this (looped_group (reference_of x)) other then with_place (places_at old other) place x.writes else places_at old other))
      → AreGrouped (references_of (take (place + 1) found)) new
  place_grouped old new h k =
      let long : place ≡ length (references_of (take place found)) = omega (arith, length-map (take place found) reference_of, length-take-le place found (omega (arith, within))) in
      subst (λ refs. AreGrouped refs new) (sym front_is) (grouped_more (references_of (take place found)) (reference_of x) old new place long h k)

  -- the pairs of the source at the place
  pub place_paired : (groups : Table) (sinks : List ℕ) (old new all : List Pair) → AreGrouped (references_of found) groups
      → sinks ≡ sinks_at groups x.writes (looped_group (reference_of x)) → new ≡ old ++ map (pair_of place) sinks
      → old ++ pairs_from (references_of found) place (references_of (drop place found)) ≡ all
      → new ++ pairs_from (references_of found) (place + 1) (references_of (drop (place + 1) found)) ≡ all
  place_paired groups sinks old new all h s n k =
      let refs : List Reference = references_of found in
      let paired : sinks ≡ places_from (is_pair (reference_of x)) 0 refs = s ∙ sinks_are refs groups (reference_of x) h in
      (λ i. (n ∙ ap (λ js. old ++ map (pair_of place) js) paired) i ++ pairs_from refs (add-one place i) (references_of (drop (place + 1) found)))
      ∙ append_assoc old (map (pair_of place) (places_from (is_pair (reference_of x)) 0 refs)) (pairs_from refs (suc place) (references_of (drop (place + 1) found)))
      ∙ ap (λ sources. old ++ pairs_from refs place sources) (sym rest_is)
      ∙ k

-- the table has all references
pub all_grouped : (found : List Occurrence) (place : ℕ) (groups : Table) → length found ≤ place → AreGrouped (references_of (take place found)) groups → AreGrouped (references_of found) groups
all_grouped found place groups h k = subst (λ (xs : List Occurrence). AreGrouped (references_of xs) groups) (take_all place found h) k

-- all pairs are listed
pub all_paired : (found : List Occurrence) (place : ℕ) (listed : List Pair) → length found ≤ place
    → listed ++ pairs_from (references_of found) place (references_of (drop place found)) ≡ pairs_from (references_of found) 0 (references_of found)
    → map (pair_at (references_of found)) listed ≡ map Some (pairs (references_of found))
all_paired found place listed h k =
    let e : listed ≡ pairs_from (references_of found) 0 (references_of found) =
    sym (append-nil listed) ∙ ap (λ xs. listed ++ pairs_from (references_of found) place (references_of xs)) (sym (drop_all place found h)) ∙ k in
    ap (map (pair_at (references_of found))) e ∙ pairs_found (references_of found)
