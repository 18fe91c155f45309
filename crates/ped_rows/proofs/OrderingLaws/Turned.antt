-- Directions seen from the sink: those of a dependence lead back.
use Rattle.std.proofs.Common.{◌≡◌, ℕ, suc, List, [], ◌∷◌, map, Bool, true, false, refl, sym, ap, ◌∙◌, subst, arith, ℤ, pos, negsuc}
use Rattle.std.specs.Prelude.{◌==◌}
use Rattle.std.specs.Bool.{MatchBool}
use Rattle.std.proofs.lemmas.Bool.Decides.{nat_tests}
use Rattle.ped_laws.specs.ped_graph.specs.ped_views.specs.declared.directions.Direction.{Direction}
use Rattle.ped_laws.specs.ped_graph.specs.ped_views.specs.declared.directions.Direction.TheVariants.{Before, Same, After}
use Rattle.ped_laws.specs.ped_graph.specs.ped_views.specs.Excluded.{StandsByValue, turned, by_value}
use Rattle.ped_laws.specs.ped_flow.specs.ped_tree.specs.Tree.{ProgramTree}
use Rattle.ped_laws.specs.ped_graph.specs.Dependences.{carried, independent, backward, carriage_from}
use Rattle.ped_laws.specs.ped_eval.specs.ped_store.specs.Acts.{Turn}
use Rattle.ped_laws.specs.Conflicts.Directions.{step_at, StandInDirections}
use Rattle.ped_laws.proofs.ConflictLaws.CoveringDirections.{same_numbers, numbers_are, same_by_value}
use Rattle.ped_laws.proofs.ConflictLaws.CoveringCarriage.{Here, here}

-- two values that stand in a direction stand the other way in the turned one
pub turned_by_value : (step : ℤ) (d : Direction) (i j : ℤ) → StandsByValue (by_value step d) i j → StandsByValue (by_value step (turned d)) j i
turned_by_value (pos n) Before i j h = h
turned_by_value (pos n) Same i j h = sym h
turned_by_value (pos n) After i j h = h
turned_by_value (negsuc n) Before i j h = h
turned_by_value (negsuc n) Same i j h = sym h
turned_by_value (negsuc n) After i j h = h

-- a dependence that a loop carries leads back when it is seen from the sink
pub carried_back : (level k : ℕ) (vector : List Direction) → carriage_from level vector ≡ carried k → carriage_from level (map turned vector) ≡ backward
carried_back level k [] h = absurd cc
carried_back level k (Before ∷ rest) h = refl
carried_back level k (Same ∷ rest) h = carried_back (suc level) k rest h
carried_back level k (After ∷ rest) h = absurd cc

pub independent_back : (level : ℕ) (vector : List Direction) → carriage_from level vector ≡ independent → carriage_from level (map turned vector) ≡ independent
independent_back level [] h = refl
independent_back level (Before ∷ rest) h = absurd cc
independent_back level (Same ∷ rest) h = independent_back (suc level) rest h
independent_back level (After ∷ rest) h = absurd cc

turned_number : (m n : ℕ) → (m == n) ≡ false → (n == m) ≡ false
turned_number m n e = grind (arith, nat_tests)

module _ (t : ProgramTree) where
  -- iterations that stand in some directions stand the other way in the turned ones
  pub turned_stand : (is js : List Turn) (vector : List Direction) → StandInDirections t is js vector → StandInDirections t js is (map turned vector)
  turned_stand [] [] vector h = ap (map turned) h
  turned_stand [] (j ∷ js) vector h = ap (map turned) h
  turned_stand (i ∷ is) [] vector h = ap (map turned) h
  turned_stand (i ∷ is) (j ∷ js) vector h = go (i.statement == j.statement) refl h (turned_stand is js)
    where
      go : (b : Bool) → (i.statement == j.statement) ≡ b → MatchBool b (Here t i j is js vector) (vector ≡ []) → ((rest : List Direction) → StandInDirections t is js rest → StandInDirections t js is (map turned rest))
          → StandInDirections t (j ∷ js) (i ∷ is) (map turned vector)
      go true e k more =
          let same : i.statement ≡ j.statement = numbers_are i.statement j.statement e in
          let stands : StandsByValue (by_value (step_at t j.statement) (turned k.0)) j.value i.value =
          subst (λ (n : ℕ). StandsByValue (by_value (step_at t n) (turned k.0)) j.value i.value) same (turned_by_value (step_at t i.statement) k.0 i.value j.value k.3) in
          subst (λ (b : Bool). MatchBool b (Here t j i js is (map turned vector)) (map turned vector ≡ [])) (sym (same_numbers j.statement i.statement (sym same)))
          (turned k.0, map turned k.1, ap (map turned) k.2, stands, more k.1 k.4)
      go false e k more =
          subst (λ (b : Bool). MatchBool b (Here t j i js is (map turned vector)) (map turned vector ≡ [])) (sym (turned_number i.statement j.statement e)) (ap (map turned) k)

  -- what stands in the same iterations is independent of loops
  pub itself_independent : (level : ℕ) (is : List Turn) (vector : List Direction) → StandInDirections t is is vector → carriage_from level vector ≡ independent
  itself_independent level [] vector h = ap (carriage_from level) h
  itself_independent level (i ∷ is) vector h =
      let k = here t i i is is vector refl h in
      ap (carriage_from level) (k.2 ∙ ap (λ (d : Direction). d ∷ k.1) (same_by_value (step_at t i.statement) k.0 i.value i.value refl k.3)) ∙ itself_independent (suc level) is k.1 k.4
