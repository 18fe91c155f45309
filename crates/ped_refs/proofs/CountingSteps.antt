-- One step of counting: the reference at a place, behind those before it.
use Rattle.std.proofs.Common.{◌≡◌, ℕ, zero, suc, ◌+◌, ◌-◌, ◌*◌, ◌<◌, ◌≤◌, ◌^◌, List, [], ◌∷◌, ◌++◌, take, length, get_or, true, false, eqb, ap, sym, ◌∙◌, subst, arith}
use Rattle.std.specs.Prelude.{if◌then◌else◌}
use Rattle.std.proofs.lemmas.Bool.{ne_eqb}
use Rattle.std.proofs.lemmas.Nat.{mul-le}
use Rattle.std.proofs.lemmas.List.{take_more, get_or-map, length-map, length-take-le}
use Rattle.ped_refs.specs.References.{Reference, is_pair, pair_count, outermost}
use Rattle.ped_refs.specs.ListedReferences.{ref_of}
use Rattle.ped_refs.specs.Groups.{group, group_of, is_same_group}
use Rattle.ped_refs.specs.Tallies.{AreNumbered, AreListed, IsCounted, Tallies, tally_at, tally_with, with_reference, pairs_with}
use Rattle.ped_refs.specs.declared.references.Ref.{Ref}
use Rattle.ped_refs.specs.declared.references.Refs.{Refs}
use Rattle.ped_refs.specs.declared.groups.Group.{Group}
use Rattle.ped_refs.specs.declared.counting.Tally.{Tally}
use Rattle.ped_refs.proofs.RelatedPairs.{related-le}
use Rattle.ped_refs.proofs.GroupPairs.{pair_count_is}
use Rattle.ped_refs.proofs.CountedPairs.{IsNumbered, counted_outside, counted_inside, tally-le-length}

numbered_take : (refs : List Reference) (i : ℕ) → AreNumbered refs → AreNumbered (take i refs)
numbered_take refs zero n = tt
numbered_take [] (suc i) n = tt
numbered_take (r ∷ refs) (suc i) n = (n.0, numbered_take refs i n.1)

numbered_at : (refs : List Reference) (i : ℕ) (d : Reference) → i < length refs → AreNumbered refs → IsNumbered (get_or refs i d)
numbered_at [] i d h n = absurd (omega arith)
numbered_at (r ∷ refs) zero d h n = n.0
numbered_at (r ∷ refs) (suc i) d h n = numbered_at refs i d (omega arith) n.1

-- a reference that stands for none
abbrev pub no_reference : Reference
no_reference = record { statement = 0; number = 0; access = record { name = []; writes = false; subscripts = [] }; nest = [] }

-- no list has more pairs than the square of its length
pub pair_count-le : (refs : List Reference) → pair_count refs ≤ length refs * length refs
pair_count-le refs = omega (arith, pair_count_is refs, related-le is_pair refs)

module _ (listed : List Reference) (refs : Refs) (i : ℕ) (items : List Ref) (outer : List ℕ)
    (are : AreListed listed refs) (items_are : items ≡ refs.items) (outer_are : outer ≡ refs.outer) (inside : i < length refs.items) where
  within : i < length listed
  within = omega (arith, inside, ap length are.items, length-map listed ref_of)

  -- the reference at the place
  abbrev pub place : Reference
  place = get_or listed i no_reference

  item_is : (x : Ref) → x ≡ get_or items i x → x ≡ ref_of place
  item_is x h = h ∙ ap (λ (xs : List Ref). get_or xs i x) (items_are ∙ are.items) ∙ get_or-map ref_of listed i no_reference x within

  outer_is : get_or outer i 0 ≡ outermost place
  outer_is = ap (λ (xs : List ℕ). get_or xs i 0) (outer_are ∙ are.outer) ∙ get_or-map outermost listed i no_reference 0 within

  more_is : take (i + 1) listed ≡ take i listed ++ place ∷ []
  more_is = take_more listed i no_reference within

  -- behind a reference outside all DO loops
  pub outside_counted : (table : Tallies) (total : ℕ) → get_or outer i 0 ≡ 0 → IsCounted (take i listed) table total → IsCounted (take (i + 1) listed) table total
  outside_counted table total h counted =
      let outside : eqb (outermost place) 0 ≡ true = ap (λ (n : ℕ). eqb n 0) (sym outer_is ∙ h) in
      subst (λ (refs : List Reference). IsCounted refs table total) (sym more_is)
      (counted_outside place (take i listed) table total (numbered_at listed i no_reference within are.numbered) (numbered_take listed i are.numbered) outside counted)

  group_is : (x : Ref) → x ≡ get_or items i x → group x.name (get_or outer i 0) ≡ group_of place
  group_is x h = λ j. group (item_is x h j).name (outer_is j)

  inside_is : (get_or outer i 0 ≡ 0 → ⊥) → eqb (outermost place) 0 ≡ false
  inside_is h = ne_eqb (outermost place) 0 (λ e. h (outer_is ∙ e))

  -- what was counted of the reference's group
  pub tally_is : (x : Ref) (table : Tallies) (total : ℕ) (tally : Tally) → x ≡ get_or items i x → (get_or outer i 0 ≡ 0 → ⊥)
      → tally ≡ tally_at table (group x.name (get_or outer i 0)) → IsCounted (take i listed) table total → tally ≡ tally_with place (take i listed)
  tally_is x table total tally h looped t counted = t ∙ ap (tally_at table) (group_is x h) ∙ counted.tallies place (inside_is looped)

  -- no more than there are references before it
  pub tally_small : (x : Ref) (table : Tallies) (total : ℕ) (tally : Tally) → x ≡ get_or items i x → (get_or outer i 0 ≡ 0 → ⊥)
      → tally ≡ tally_at table (group x.name (get_or outer i 0)) → IsCounted (take i listed) table total → (tally.references ≤ i) × (tally.writes ≤ i)
  tally_small x table total tally h looped t counted =
      let e = tally_is x table total tally h looped t counted in
      let few = tally-le-length place (take i listed) in
      let long : length (take i listed) ≡ i = length-take-le i listed (omega (arith, within)) in
      (omega (arith, ap (λ (y : Tally). y.references) e, few.0, long), omega (arith, ap (λ (y : Tally). y.writes) e, few.1, long))

  -- behind a reference in a DO loop
  pub inside_counted : (x : Ref) (old new : Tallies) (total sum : ℕ) (tally more : Tally) → x ≡ get_or items i x → (get_or outer i 0 ≡ 0 → ⊥)
      → tally ≡ tally_at old (group x.name (get_or outer i 0)) → more ≡ with_reference tally x.writes
      → ((other : Group) → tally_at new other ≡ (if is_same_group (group x.name (get_or outer i 0)) other then more else tally_at old other))
      → sum ≡ total + pairs_with tally x.writes
      → IsCounted (take i listed) old total → IsCounted (take (i + 1) listed) new sum
  inside_counted x old new total sum tally more h looped t m put s counted =
      let item = item_is x h in
      let same = group_is x h in
      let own : tally ≡ tally_at old (group_of place) = t ∙ ap (tally_at old) same in
      let puts : (other : Group) → tally_at new other ≡ (if is_same_group (group_of place) other then with_reference (tally_at old (group_of place)) place.access.writes else tally_at old other) = λ other.
      put other ∙ (λ j. if is_same_group (same j) other then (m ∙ (λ k. with_reference (own k) (item k).writes)) j else tally_at old other) in
      let sums : sum ≡ total + pairs_with (tally_at old (group_of place)) place.access.writes = s ∙ (λ j. total + pairs_with (own j) (item j).writes) in
      subst (λ (refs : List Reference). IsCounted refs new sum) (sym more_is)
      (subst (λ (n : ℕ). IsCounted (take i listed ++ place ∷ []) new n) (sym sums)
      (counted_inside place (take i listed) old new total (numbered_at listed i no_reference within are.numbered) (numbered_take listed i are.numbered) (inside_is looped) puts counted))

-- the number of pairs of a list of i + 1 references, fewer than 2^32, fits 64 bits
pub squares : (sum : ℕ) (refs : List Reference) (i : ℕ) → sum ≡ pair_count refs → length refs ≡ i + 1 → i + 1 < 2 ^ 32 → sum < 2 ^ 64
squares sum refs i e l few =
    let k : length refs ≤ 2 ^ 32 - 1 = omega (arith, l, few) in
    let product : length refs * length refs ≤ (2 ^ 32 - 1) * (2 ^ 32 - 1) = mul-le (length refs) (length refs) (2 ^ 32 - 1) (2 ^ 32 - 1) k k in
    omega (arith, e, pair_count-le refs, product)
