-- The last entry of a map whose key isn't above a place.
use Rattle.std.proofs.Common.{◌≡◌, ℕ, ◌<◌, ◌≤◌, arith, List, [], ◌∷◌, ◌++◌, false, refl, sym, subst}
use Rattle.std.specs.BTreeMap.{BTreeMap, get}
use Rattle.std.specs.BTreeMap.Range.{IsRangeOf}
use Rattle.std.specs.Ordering.{nat_cmp, is_gt}
use Rattle.std.specs.Option.{IsSome}
use Rattle.std.specs.declared.ops.Bound.TheVariants.{Included, Unbounded}
use Rattle.std.specs.declared.option.Option.{Option}
use Rattle.std.specs.declared.option.Option.TheVariants.{None, Some}
use Rattle.std.proofs.lemmas.Bool.Decides.{nat_tests}
use Rattle.std.proofs.lemmas.Map.Keys.{le_from_not_gt, ge_from_not_lt}

not_above : (a b : ℕ) → a ≤ b → is_gt (nat_cmp a b) ≡ false
not_above a b h = grind (arith, nat_tests)

-- what isn't something is nothing
pub nothing : {A : Type 0} (o : Option A) → ((x : A) → o ≡ Some x → ⊥) → o ≡ None
nothing None h = refl
nothing (Some x) h = absurd (h x refl)

module _ {X : Type 0} (m : BTreeMap ℕ X) (place : ℕ) (r : List (ℕ × X)) (is : IsRangeOf nat_cmp Unbounded (Included place) m r) where
  pub last_in : (e : ℕ × X) (before : List (ℕ × X)) → r ≡ before ++ e ∷ []
      → (e.0 ≤ place) × (get nat_cmp m e.0 ≡ Some e.1) × ((other : ℕ) → e.0 < other → other ≤ place → get nat_cmp m other ≡ None)
  last_in e before h =
      let there = is.3 e before h in (
        le_from_not_gt e.0 place there.0.1,
        there.1,
        λ other above up_to. nothing (get nat_cmp m other) (λ x found.
            let up : other ≤ e.0 = ge_from_not_lt e.0 other (is.4 e before h other (tt, not_above other place up_to) (subst (λ (o : Option X). IsSome o) (sym found) refl)) in
            omega arith),
      )

  pub none_in : r ≡ [] → (other : ℕ) → other ≤ place → get nat_cmp m other ≡ None
  none_in h other up_to = is.5 h other (tt, not_above other place up_to)
