-- Iterations of loops round both references that stand in `=` are the same.
use Rattle.std.proofs.Common.{◌≡◌, ℕ, suc, ◌≤◌, List, [], ◌∷◌, ◌++◌, take, length, Bool, true, refl, sym, ap, ◌∙◌, subst, arith, if◌then◌else◌}
use Rattle.std.specs.List.{list_all}
use Rattle.std.proofs.lemmas.Bool.{and_parts}
use Rattle.ped_laws.specs.ped_graph.specs.ped_views.specs.declared.directions.Direction.{Direction}
use Rattle.ped_laws.specs.ped_graph.specs.ped_views.specs.declared.directions.Direction.TheVariants.{Before, Same, After}
use Rattle.ped_laws.specs.ped_flow.specs.ped_tree.specs.Nests.{Loop, common_nest}
use Rattle.ped_laws.specs.ped_flow.specs.PlainBounds.{Values}
use Rattle.ped_laws.specs.ped_graph.specs.Owners.{is_same}
use Rattle.ped_laws.proofs.ConflictLaws.CoveringDirections.{same_numbers}
use Rattle.ped_rows.proofs.Trips.{AreTrips, trip_value, turns_at, NumberStands, NumbersStand}

same_number : (d : Direction) (i j : ℕ) → is_same d ≡ true → NumberStands d i j → i ≡ j
same_number Same i j e h = h
same_number Before i j e h = absurd cc
same_number After i j e h = absurd cc

module _ (c : Values) where
  same_turns : (front ls ms : List Loop) (is js : List ℕ) (vector : List Direction) → AreTrips c (front ++ ls) is → AreTrips c (front ++ ms) js → NumbersStand vector is js → length front ≤ length vector → list_all is_same (take (length front) vector) ≡ true
      → take (length front) (turns_at c (front ++ ls) is) ≡ take (length front) (turns_at c (front ++ ms) js)
  same_turns [] ls ms is js vector h k n few same = refl
  same_turns (l ∷ front) ls ms [] js vector h k n few same = absurd h
  same_turns (l ∷ front) ls ms (i ∷ is) [] vector h k n few same = absurd k
  same_turns (l ∷ front) ls ms (i ∷ is) (j ∷ js) [] h k n few same = absurd (omega (arith, few))
  same_turns (l ∷ front) ls ms (i ∷ is) (j ∷ js) (d ∷ ds) h k n few same =
      let both = and_parts (is_same d) (list_all is_same (take (length front) ds)) same in
      let number : i ≡ j = same_number d i j both.0 n.0 in
      let rest = same_turns front ls ms is js ds h.1 k.1 n.1 (omega (arith, few)) both.1 in
      λ z. (record { statement = l.number; parallel = l.head.parallel; number = number z; value = trip_value c l.head (number z) }) ∷ rest z

  -- where both nests begin with these loops
  pub shared_turns : (front rest other ls ms : List Loop) (is js : List ℕ) (vector : List Direction) → ls ≡ front ++ rest → ms ≡ front ++ other → AreTrips c ls is → AreTrips c ms js → NumbersStand vector is js → length front ≤ length vector → list_all is_same (take (length front) vector) ≡ true
      → take (length front) (turns_at c ls is) ≡ take (length front) (turns_at c ms js)
  shared_turns front rest other ls ms is js vector first second h k n few same =
      ap (λ (ns : List Loop). take (length front) (turns_at c ns is)) first
      ∙ same_turns front rest other is js vector (subst (λ (ns : List Loop). AreTrips c ns is) first h) (subst (λ (ns : List Loop). AreTrips c ns js) second k) n few same
      ∙ ap (λ (ns : List Loop). take (length front) (turns_at c ns js)) (sym second)

common_long : (front ls ms : List Loop) → length front ≤ length (common_nest (front ++ ls) (front ++ ms))
common_long [] ls ms = omega arith
common_long (l ∷ front) ls ms =
    let h = common_long front ls ms in
    let e : common_nest (l ∷ (front ++ ls)) (l ∷ (front ++ ms)) ≡ l ∷ common_nest (front ++ ls) (front ++ ms) = ap (λ (b : Bool). if b then l ∷ common_nest (front ++ ls) (front ++ ms) else []) (same_numbers l.number l.number refl) in
    let long : length (common_nest (l ∷ (front ++ ls)) (l ∷ (front ++ ms))) ≡ suc (length (common_nest (front ++ ls) (front ++ ms))) = ap length e in
    omega (arith, h, long)

-- loops at the front of both nests are common
pub shared_common : (front rest other ls ms : List Loop) → ls ≡ front ++ rest → ms ≡ front ++ other → length front ≤ length (common_nest ls ms)
shared_common front rest other ls ms first second = subst (λ (ns : List Loop). length front ≤ length (common_nest ns ms)) (sym first) (subst (λ (ns : List Loop). length front ≤ length (common_nest (front ++ rest) ns)) (sym second) (common_long front rest other))
