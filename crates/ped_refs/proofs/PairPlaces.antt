-- The places of pairs, found by groups, and the pairs of references themselves.
use Rattle.std.proofs.Common.{◌≡◌, ℕ, suc, ◌+◌, List, [], ◌∷◌, ◌++◌, map, filter, length, Bool, true, false, ◌&&◌, eqb, Some, refl, ap, sym, ◌∙◌, append_assoc, length-append, arith}
use Rattle.std.specs.Prelude.{◌||◌, if◌then◌else◌, slice_get}
use Rattle.std.specs.List.{flat_map}
use Rattle.std.proofs.Math.Seq.{get_or-append_seam}
use Rattle.std.proofs.lemmas.List.{map-append}
use Rattle.std.proofs.lemmas.Option.{slice_get-get_or}
use Rattle.std.proofs.lemmas.Simd.{map-map}
use Rattle.ped_base.specs.Lists.{has_some, is_same_text}
use Rattle.ped_base.proofs.NameEquality.{same_flip}
use Rattle.ped_tree.specs.Nests.{Loop, common_nest}
use Rattle.ped_refs.specs.References.{Reference, is_pair, pairs}
use Rattle.ped_refs.specs.ListedReferences.{ref_name}
use Rattle.ped_refs.specs.Occurrences.{both, pair_at}
use Rattle.ped_refs.specs.Groups.{group, is_same_group, group_in_loops, looped_group}
use Rattle.ped_refs.specs.Grouping.{Table, AreGrouped, pair_of, places_at, places_from, places_in, is_this, is_in, with_place, sinks_in, sinks_at, pairs_from}
use Rattle.ped_refs.specs.declared.groups.Group.{Group}
use Rattle.ped_refs.proofs.GroupPairs.{chosen, and_false, eqb_flip, name_together}

-- the places with one more reference
places_push : (passes : Reference → Bool) (place : ℕ) (refs : List Reference) (r : Reference)
    → places_from passes place (refs ++ r ∷ []) ≡ (if passes r then places_from passes place refs ++ (place + length refs) ∷ [] else places_from passes place refs)
places_push passes place [] r = go (passes r)
  where
    go : (b : Bool) → (if b then place ∷ [] else []) ≡ (if b then (place + 0) ∷ [] else [])
    go true = ap (λ n. n ∷ []) (omega arith)
    go false = refl
places_push passes place (s ∷ refs) r =
    ap (λ ps. if passes s then place ∷ ps else ps) (places_push passes (suc place) refs r)
    ∙ go (passes s) (passes r) (places_from passes (suc place) refs)
  where
    behind : suc place + length refs ≡ place + suc (length refs)
    behind = omega arith

    go : (b d : Bool) (ps : List ℕ) → (if b then place ∷ (if d then ps ++ (suc place + length refs) ∷ [] else ps) else (if d then ps ++ (suc place + length refs) ∷ [] else ps))
        ≡ (if d then (if b then place ∷ ps else ps) ++ (place + suc (length refs)) ∷ [] else (if b then place ∷ ps else ps))
    go true true ps = λ i. place ∷ (ps ++ behind i ∷ [])
    go true false ps = refl
    go false true ps = λ i. ps ++ behind i ∷ []
    go false false ps = refl

group_more : (g : Group) (refs : List Reference) (r : Reference)
    → (if is_in g r then with_place (places_in g refs) (length refs) r.access.writes else places_in g refs) ≡ places_in g (refs ++ r ∷ [])
group_more g refs r =
    go (is_in g r) r.access.writes
    ∙ (λ i. record { all = sym (places_push (is_in g) 0 refs r) i; writes = sym (places_push (λ s. is_in g s && s.access.writes) 0 refs r) i })
  where
    all : List ℕ
    all = places_from (is_in g) 0 refs

    writes : List ℕ
    writes = places_from (λ s. is_in g s && s.access.writes) 0 refs

    place : length refs ≡ 0 + length refs
    place = omega arith

    go : (b w : Bool) → (if b then with_place (record { all = all; writes = writes }) (length refs) w else record { all = all; writes = writes })
        ≡ record { all = if b then all ++ (0 + length refs) ∷ [] else all; writes = if b && w then writes ++ (0 + length refs) ∷ [] else writes }
    go true true = λ i. record { all = all ++ place i ∷ []; writes = writes ++ place i ∷ [] }
    go true false = λ i. record { all = all ++ place i ∷ []; writes = writes }
    go false w = refl

-- the table with one more reference
pub grouped_more : (refs : List Reference) (r : Reference) (old new : Table) (place : ℕ) → place ≡ length refs → AreGrouped refs old
    → ((other : Group) → places_at new other ≡ (if is_this (looped_group r) other then with_place (places_at old other) place r.access.writes else places_at old other))
    → AreGrouped (refs ++ r ∷ []) new
grouped_more refs r old new place e h k = λ g.
    k g ∙ (λ i. if is_in g r then with_place (h g i) (e i) r.access.writes else h g i) ∙ group_more g refs r

-- the table of no references is empty
pub grouped_none : (groups : Table) → ((g : Group) → places_at groups g ≡ record { all = []; writes = [] }) → AreGrouped [] groups
grouped_none groups h = h

outside : (t w v : Bool) → (t && (w || v) && false) ≡ (if w then false else (false && v))
outside t true v = and_false (t && true)
outside t false v = and_false (t && v)

inside : (t w v e : Bool) → (t && (w || v) && e) ≡ (if w then (t && e) else ((t && e) && v))
inside true true v true = refl
inside true true v false = refl
inside true false true true = refl
inside true false true false = refl
inside true false false true = refl
inside true false false false = refl
inside false true v e = refl
inside false false v e = refl

-- in a DO loop, a pair is of one group, with a write
pair_in_group : (x y : List ℕ) (w v : Bool) (l : Loop) (ls ms : List Loop)
    → (is_same_text x y && (w || v) && has_some (common_nest (l ∷ ls) ms))
    ≡ (if w then is_this (group_in_loops y ms) (group (ref_name x) l.number) else (is_this (group_in_loops y ms) (group (ref_name x) l.number) && v))
pair_in_group x y w v l ls [] = outside (is_same_text x y) w v
pair_in_group x y w v l ls (m ∷ ms) =
    let same : (is_same_text x y && eqb l.number m.number) ≡ is_same_group (group (ref_name y) m.number) (group (ref_name x) l.number) =
    λ i. (same_flip x y ∙ sym (name_together y x)) i && eqb_flip l.number m.number i in
    ap (λ b. is_same_text x y && (w || v) && b) (chosen (eqb l.number m.number) l (common_nest ls ms))
    ∙ inside (is_same_text x y) w v (eqb l.number m.number)
    ∙ ap (λ b. if w then b else (b && v)) same

outside_places : (passes : Reference → Bool) → ((r : Reference) → passes r ≡ false) → (place : ℕ) (refs : List Reference) → places_from passes place refs ≡ []
outside_places passes h place [] = refl
outside_places passes h place (r ∷ refs) = (λ i. if h r i then place ∷ outside_places passes h (suc place) refs i else outside_places passes h (suc place) refs i)

-- the sinks that the table gives for a source in these DO loops
sinks_found : (refs : List Reference) (groups : Table) → AreGrouped refs groups → (statement number : ℕ) (x : List ℕ) (w : Bool) (subscripts : _) (nest : List Loop)
    → sinks_at groups w (group_in_loops x nest) ≡ places_from (is_pair (record { statement = statement; number = number; access = record { name = x; writes = w; subscripts = subscripts }; nest = nest })) 0 refs
sinks_found refs groups h statement number x w subscripts [] = sym (outside_places _ (λ r. and_false (is_same_text x r.access.name && (w || r.access.writes))) 0 refs)
sinks_found refs groups h statement number x true subscripts (l ∷ ls) =
    ap (sinks_in true) (h (group (ref_name x) l.number))
    ∙ (λ i. places_from (λ r. sym (pair_in_group x r.access.name true r.access.writes l ls r.nest) i) 0 refs)
sinks_found refs groups h statement number x false subscripts (l ∷ ls) =
    ap (sinks_in false) (h (group (ref_name x) l.number))
    ∙ (λ i. places_from (λ r. sym (pair_in_group x r.access.name false r.access.writes l ls r.nest) i) 0 refs)

-- the sinks that the table gives for a source are those that it pairs with
pub sinks_are : (refs : List Reference) (groups : Table) (r : Reference) → AreGrouped refs groups → sinks_at groups r.access.writes (looped_group r) ≡ places_from (is_pair r) 0 refs
sinks_are refs groups r h = sinks_found refs groups h r.statement r.number r.access.name r.access.writes r.access.subscripts r.nest

at_seam : (front : List Reference) (r : Reference) (rest : List Reference) → slice_get (front ++ r ∷ rest) (length front) ≡ Some r
at_seam front r rest =
    slice_get-get_or (front ++ r ∷ rest) (length front) r (omega (arith, length-append front (r ∷ rest))) ∙ ap Some (get_or-append_seam front r rest r)

module _ (refs : List Reference) where
  -- behind a front, the places of references that pass a test are those of the references themselves
  places_found : (passes : Reference → Bool) (front rest : List Reference) → refs ≡ front ++ rest → (place : ℕ) → place ≡ length front
      → map (slice_get refs) (places_from passes place rest) ≡ map Some (filter passes rest)
  places_found passes front [] e place k = refl
  places_found passes front (r ∷ rest) e place k =
      let more : refs ≡ (front ++ r ∷ []) ++ rest = e ∙ sym (append_assoc front (r ∷ []) rest) in
      let found : map (slice_get refs) (places_from passes (suc place) rest) ≡ map Some (filter passes rest) =
      places_found passes (front ++ r ∷ []) rest more (suc place) (omega (arith, length-append front (r ∷ []), k)) in
      let here : slice_get refs place ≡ Some r = (λ i. slice_get (e i) (k i)) ∙ at_seam front r rest in
      go (passes r) found here
    where
      go : (b : Bool) → map (slice_get refs) (places_from passes (suc place) rest) ≡ map Some (filter passes rest) → slice_get refs place ≡ Some r
          → map (slice_get refs) (if b then place ∷ places_from passes (suc place) rest else places_from passes (suc place) rest) ≡ map Some (if b then r ∷ filter passes rest else filter passes rest)
      go true found here = λ i. here i ∷ found i
      go false found here = found

  -- the pairs of a source with its sinks
  source_found : (r : Reference) (place : ℕ) (sinks : List ℕ) (found : List Reference) → slice_get refs place ≡ Some r → map (slice_get refs) sinks ≡ map Some found
      → map (pair_at refs) (map (pair_of place) sinks) ≡ map Some (map (λ sink. (r, sink)) found)
  source_found r place sinks found h k =
      map-map (pair_at refs) (pair_of place) sinks
      ∙ (λ i. map (λ sink. both (h i) (slice_get refs sink)) sinks)
      ∙ sym (map-map (both (Some r)) (slice_get refs) sinks)
      ∙ ap (map (both (Some r))) k
      ∙ map-map (both (Some r)) Some found
      ∙ sym (map-map Some (λ sink. (r, sink)) found)

  -- the pairs of sources behind a front
  sources_found : (front sources : List Reference) → refs ≡ front ++ sources → (place : ℕ) → place ≡ length front
      → map (pair_at refs) (pairs_from refs place sources) ≡ map Some (flat_map (λ source. map (λ sink. (source, sink)) (filter (is_pair source) refs)) sources)
  sources_found front [] e place k = refl
  sources_found front (r ∷ sources) e place k =
      let more : refs ≡ (front ++ r ∷ []) ++ sources = e ∙ sym (append_assoc front (r ∷ []) sources) in
      let here : slice_get refs place ≡ Some r = (λ i. slice_get (e i) (k i)) ∙ at_seam front r sources in
      map-append (pair_at refs) (map (pair_of place) (places_from (is_pair r) 0 refs)) (pairs_from refs (suc place) sources)
      ∙ (λ i. source_found r place (places_from (is_pair r) 0 refs) (filter (is_pair r) refs) here (places_found (is_pair r) [] refs refl 0 refl) i
      ++ sources_found (front ++ r ∷ []) sources more (suc place) (omega (arith, length-append front (r ∷ []), k)) i)
      ∙ sym (map-append Some (map (λ sink. (r, sink)) (filter (is_pair r) refs)) (flat_map (λ source. map (λ sink. (source, sink)) (filter (is_pair source) refs)) sources))

  -- the pairs at the places of all sources with their sinks are all pairs
  pub pairs_found : map (pair_at refs) (pairs_from refs 0 refs) ≡ map Some (pairs refs)
  pairs_found = sources_found [] refs refl 0 refl
