-- What inner bounds with shapes are worth: by the value of the outer variable where the old inner loop is entered, and by that of the inner variable where the new one is.
use Rattle.ped_base.specs.Arithmetic.Arithmetic.{difference_of, sum_of}
use Rattle.ped_loops.proofs.MovedBounds.{HasPart, IsPlainThere, IsShaped}
use Rattle.ped_rules.proofs.NestLaws.SettledBounds.{IsSettled, one_result, settled_reads}
use Rattle.ped_loops.proofs.ShapedPairs.{Way, bound_by, falls, moved_by, rises, stays, when_falling, when_rising}
use Rattle.ped_loops.proofs.ShapedValues.{AllSmall, AllWorth, IsNearZero, IsWorth, bound_near, index_worth, minus_worth, plus_worth, ranged, same_worth}
use Rattle.ped_loops.specs.Shapes.{Shape, free, asked_if, difference, is_turned, itself, moved_bound, sum, turned}
use Rattle.ped_rules.specs.ped_loop_runs.specs.Bounds.{IsOfFixed}
use Rattle.ped_rules.specs.ped_steps.proofs.RunLaws.SubstitutedSums.{two_parts}
use Rattle.ped_rules.specs.ped_laws.specs.Plain.Executions.{IsDuring, IsPlaceWith}
use Rattle.ped_rules.specs.ped_eval.specs.Outcomes.{setting_of}
use Rattle.ped_rules.specs.ped_eval.specs.Scopes.{Names, Scope, Setting, index_value, names_in}
use Rattle.ped_rules.specs.ped_eval.specs.Values.{value}
use Rattle.ped_rules.specs.ped_store.specs.Cells.{Cell}
use Rattle.ped_rules.specs.ped_store.specs.Stores.{Store}
use Rattle.ped_symbolic.specs.Arithmetic.{minus_of, plus_of}
use Rattle.ped_tree.specs.Constants.NamedConstants.{value_named}
use Rattle.ped_tree.specs.Tree.{Add, ExprTree, ProgramTree, Sub, Var}
use Rattle.std.proofs.Common.{List, None, Ok, Some, arith, inl, inr, neg_ℤ, pos, subst, ℕ, ℤ, ◌+ℤ◌, ◌-ℤ◌, ◌∙◌, ◌≡◌}
use Rattle.std.proofs.lemmas.Int.{ints}
use Rattle.std.specs.Prelude.{not}

module _ (t : ProgramTree) (l : ℕ) (told : List ℕ → ℤ) (first : Store) (settle : (e : ExprTree) → IsPlainThere (setting_of t).constants t l e → IsSettled t l told first e) where
  abbrev p : Setting
  p = setting_of t

  abbrev Fixed : Cell → Type 0
  Fixed c = IsOfFixed (setting_of t).constants t l c

  abbrev Part : Shape → ExprTree → Type 0
  Part shape e = HasPart (setting_of t).constants t l shape e

  -- the number that an expression is worth
  abbrev pub worth_of : (e : ExprTree) → IsPlainThere (setting_of t).constants t l e → ℤ
  worth_of e there = (settle e there).worth.worth

  -- how the bound goes with the outer variable
  abbrev pub way : (shape : Shape) (e : ExprTree) → HasPart (setting_of t).constants t l shape e → Way
  way free e part = stays (worth_of e part)
  way itself e part = rises (pos 0)
  way (sum c) e part = rises (worth_of c part)
  way (difference c) e part = rises (neg_ℤ (worth_of c part))
  way (turned c) e part = falls (worth_of c part)

  near_of : (e : ExprTree) (there : IsPlainThere (setting_of t).constants t l e) → IsNearZero (worth_of e there)
  near_of e there = bound_near (worth_of e there) (settle e there).worth.bound

  -- at a place and in a store of the execution
  module _ (around : Scope) (u : Store) (place : IsPlaceWith (setting_of t).constants t l told around) (during : IsDuring (setting_of t) t l first u) where
    abbrev g : Names
    g = names_in (setting_of t) around

    pub worth_there : (e : ExprTree) (x : IsSettled t l told first e) → IsWorth (names_in (setting_of t) around) u (λ c. IsOfFixed (setting_of t).constants t l c) e x.worth.worth
    worth_there e x = record {
      comes = x.worth.comes around place u during;
      reads = settled_reads t l told first e x around place u during;
    }

    abbrev Worth : ExprTree → ℤ → Type 0
    Worth e n = IsWorth (names_in (setting_of t) around) u (λ c. IsOfFixed (setting_of t).constants t l c) e n

    -- the bound of the new outer loop, by those of the old one
    pub moved_worth : (shape : Shape) (e : ExprTree) (part : HasPart (setting_of t).constants t l shape e) (near far : ExprTree) (m n : ℤ) → Worth near m → Worth far n → IsNearZero m → IsNearZero n → Worth (moved_bound shape e near far) (moved_by (way shape e part) m n)
    moved_worth free e part near far m n first last near_m near_n = worth_there e (settle e part)
    moved_worth itself e part near far m n first last near_m near_n = same_worth g u Fixed near m (m +ℤ pos 0) (omega (arith, ints)) first
    moved_worth (sum c) e part near far m n first last near_m near_n =
        let near_c = near_of c part in
        plus_worth g u Fixed near c m (worth_of c part) first (worth_there c (settle c part)) (record { from = omega (arith, ints, near_m.from, near_c.from); to = omega (arith, ints, near_m.to, near_c.to) })
    moved_worth (difference c) e part near far m n first last near_m near_n =
        let near_c = near_of c part in
        same_worth g u Fixed (minus_of near c) (m -ℤ worth_of c part) (m +ℤ neg_ℤ (worth_of c part)) (omega (arith, ints))
        (minus_worth g u Fixed near c m (worth_of c part) first (worth_there c (settle c part)) (record { from = omega (arith, ints, near_m.from, near_c.to); to = omega (arith, ints, near_m.to, near_c.from) }))
    moved_worth (turned c) e part near far m n first last near_m near_n =
        let near_c = near_of c part in
        minus_worth g u Fixed c far (worth_of c part) n (worth_there c (settle c part)) last (record { from = omega (arith, ints, near_c.from, near_n.to); to = omega (arith, ints, near_c.to, near_n.from) })

    -- where the place tells the value of a variable
    module _ (x : List ℕ) (none : value_named (setting_of t).constants x ≡ None) (y : ℤ) (tells : index_value around x ≡ Some y) where
      variable_worth : Worth (Var x) y
      variable_worth = index_worth g u Fixed x y none tells

      -- the old bound, where that is the outer variable
      sum_worth : (a b : ExprTree) (m n v : ℤ) → (value g a u).result ≡ Ok m → (value g b u).result ≡ Ok n → (value g (Add a b) u).result ≡ Ok v → v ≡ m +ℤ n
      sum_worth a b m n v first second whole =
          let parts = two_parts sum_of (value g a u) (value g b u) v whole in
          ranged (parts.left +ℤ parts.right) v parts.result ∙ (λ i. one_result (value g a u).result parts.left m parts.of_left first i +ℤ one_result (value g b u).result parts.right n parts.of_right second i)

      difference_worth : (a b : ExprTree) (m n v : ℤ) → (value g a u).result ≡ Ok m → (value g b u).result ≡ Ok n → (value g (Sub a b) u).result ≡ Ok v → v ≡ m -ℤ n
      difference_worth a b m n v first second whole =
          let parts = two_parts difference_of (value g a u) (value g b u) v whole in
          ranged (parts.left -ℤ parts.right) v parts.result ∙ (λ i. one_result (value g a u).result parts.left m parts.of_left first i -ℤ one_result (value g b u).result parts.right n parts.of_right second i)

      as_is : (e f : ExprTree) (v : ℤ) → e ≡ f → (value g e u).result ≡ Ok v → (value g f u).result ≡ Ok v
      as_is e f v is = subst (λ (d : ExprTree). (value g d u).result ≡ Ok v) is

      pub old_worth : (shape : Shape) (e : ExprTree) (part : HasPart (setting_of t).constants t l shape e) → IsShaped x e shape → (v : ℤ) → (value (names_in (setting_of t) around) e u).result ≡ Ok v → v ≡ bound_by (way shape e part) y
      old_worth free e part is v whole = one_result (value g e u).result v (worth_of e part) whole (worth_there e (settle e part)).comes
      old_worth itself e part is v whole =
          let same : v ≡ y = one_result (value g (Var x) u).result v y (as_is e (Var x) v is whole) variable_worth.comes in
          omega (arith, ints, same)
      old_worth (sum c) e part is v whole = elim is.1 [
        | inl q ↦ sum_worth (Var x) c y (worth_of c part) v variable_worth.comes (worth_there c (settle c part)).comes (as_is e (Add (Var x) c) v q whole)
        | inr q ↦ (
            let same : v ≡ worth_of c part +ℤ y = sum_worth c (Var x) (worth_of c part) y v (worth_there c (settle c part)).comes variable_worth.comes (as_is e (Add c (Var x)) v q whole) in
            omega (arith, ints, same)
            )
      ]
      old_worth (difference c) e part is v whole =
          let same : v ≡ y -ℤ worth_of c part = difference_worth (Var x) c y (worth_of c part) v variable_worth.comes (worth_there c (settle c part)).comes (as_is e (Sub (Var x) c) v is.1 whole) in
          omega (arith, ints, same)
      old_worth (turned c) e part is v whole = difference_worth c (Var x) (worth_of c part) y v (worth_there c (settle c part)).comes variable_worth.comes (as_is e (Sub c (Var x)) v is.1 whole)

      -- what a bound asks of the outer variable, where that is the inner one
      module _ (near : IsNearZero y) where
        pub rising_worth : (shape : Shape) (e : ExprTree) (part : HasPart (setting_of t).constants t l shape e) → AllWorth (names_in (setting_of t) around) u (λ c. IsOfFixed (setting_of t).constants t l c) (asked_if (not (is_turned shape)) shape x) (when_rising (way shape e part) y)
        rising_worth free e part = tt
        rising_worth itself e part = (same_worth g u Fixed (Var x) y (y -ℤ pos 0) (omega (arith, ints)) variable_worth, tt)
        rising_worth (sum c) e part =
            let near_c = near_of c part in
            (minus_worth g u Fixed (Var x) c y (worth_of c part) variable_worth (worth_there c (settle c part)) (record { from = omega (arith, ints, near.from, near_c.to); to = omega (arith, ints, near.to, near_c.from) }), tt)
        rising_worth (difference c) e part =
            let near_c = near_of c part in (
              same_worth g u Fixed (plus_of (Var x) c) (y +ℤ worth_of c part) (y -ℤ neg_ℤ (worth_of c part)) (omega (arith, ints))
                  (plus_worth g u Fixed (Var x) c y (worth_of c part) variable_worth (worth_there c (settle c part)) (record { from = omega (arith, ints, near.from, near_c.from); to = omega (arith, ints, near.to, near_c.to) })),
              tt,
            )
        rising_worth (turned c) e part = tt

        pub falling_worth : (shape : Shape) (e : ExprTree) (part : HasPart (setting_of t).constants t l shape e) → AllWorth (names_in (setting_of t) around) u (λ c. IsOfFixed (setting_of t).constants t l c) (asked_if (is_turned shape) shape x) (when_falling (way shape e part) y)
        falling_worth free e part = tt
        falling_worth itself e part = tt
        falling_worth (sum c) e part = tt
        falling_worth (difference c) e part = tt
        falling_worth (turned c) e part =
            let near_c = near_of c part in
            (minus_worth g u Fixed c (Var x) (worth_of c part) y (worth_there c (settle c part)) variable_worth (record { from = omega (arith, ints, near_c.from, near.to); to = omega (arith, ints, near_c.to, near.from) }), tt)

        pub rising_small : (shape : Shape) (e : ExprTree) (part : HasPart (setting_of t).constants t l shape e) → AllSmall (when_rising (way shape e part) y)
        rising_small free e part = tt
        rising_small itself e part = (record { from = omega (arith, ints, near.from); to = omega (arith, ints, near.to) }, tt)
        rising_small (sum c) e part = let near_c = near_of c part in (record { from = omega (arith, ints, near.from, near_c.to); to = omega (arith, ints, near.to, near_c.from) }, tt)
        rising_small (difference c) e part = let near_c = near_of c part in (record { from = omega (arith, ints, near.from, near_c.from); to = omega (arith, ints, near.to, near_c.to) }, tt)
        rising_small (turned c) e part = tt

        pub falling_small : (shape : Shape) (e : ExprTree) (part : HasPart (setting_of t).constants t l shape e) → AllSmall (when_falling (way shape e part) y)
        falling_small free e part = tt
        falling_small itself e part = tt
        falling_small (sum c) e part = tt
        falling_small (difference c) e part = tt
        falling_small (turned c) e part = let near_c = near_of c part in (record { from = omega (arith, ints, near_c.from, near.to); to = omega (arith, ints, near_c.to, near.from) }, tt)
