-- What the walk over the fronts of a position finds.
use Rattle.std.proofs.Common.{◌≡◌, ◌⊎◌, ◌↔◌, ℕ, ◌+◌, ◌-◌, ◌<◌, ◌≤◌, List, [], ◌∷◌, ◌++◌, length, take, drop, replicate, get_or, Option, None, Bool, true, false, IsTrue, refl, sym, ap, subst, ◌∙◌, inl, inr, arith}
use Rattle.std.proofs.lemmas.Bool.{cases_Bool, false≢true}
use Rattle.std.proofs.lemmas.List.{append_assoc, append-nil, length-replicate, take-append-drop, take_more}
use Rattle.ped_views.specs.declared.directions.Direction.{Direction}
use Rattle.ped_views.specs.declared.directions.Direction.TheVariants.{Same}
use Rattle.ped_views.specs.declared.intervals.Interval.{Interval}
use Rattle.ped_views.specs.Views.{SubscriptPair, View}
use Rattle.ped_views.specs.Limits.{FitsLoops}
use Rattle.ped_views.specs.Excluded.{HasNoSolution, IsPoint, IsBeyondExtremes, difference}
use Rattle.ped_miv.specs.declared.bounds.Bounds.{Bounds}
use Rattle.ped_miv.specs.Bounds.{MayBound}
use Rattle.ped_miv.specs.Values.{DifferenceValue}
use Rattle.ped_miv.specs.Parts.{IsRest, MaySum}
use Rattle.ped_verdict.specs.declared.sights.Sight.{Sight}
use Rattle.ped_verdict.specs.Sights.{IsSight, IsShut, SomeBeyond}

module _ (v : View) (p : SubscriptPair) where
  -- without values under a front there are none under a longer one
  pub none_longer : (front rest all : List Direction) → front ++ rest ≡ all → MaySum v p front None → MaySum v p all None
  none_longer front rest all e none more x = subst (λ (xs : List Direction). ¬ (DifferenceValue v p xs x)) (sym (append_assoc front rest more) ∙ ap (λ (xs : List Direction). xs ++ more) e) (none (rest ++ more) x)

  -- the sum of a front that is longer by one direction
  module _ (ds front : List Direction) (k : ℕ) (d other : Direction) (below : k < length ds) (read : d ≡ get_or ds k other) where
    its_front : take k ds ++ d ∷ [] ≡ take (k + 1) ds
    its_front = ap (λ (x : Direction). take k ds ++ x ∷ []) read ∙ sym (take_more ds k other below)

    pub sum_none : (before : List Direction) → before ≡ take k ds → ds ≡ front → MaySum v p (before ++ d ∷ []) None → MaySum v p front None
    sum_none before e f h =
        none_longer (before ++ d ∷ []) (drop (k + 1) ds) front
        (ap (λ (xs : List Direction). xs ++ drop (k + 1) ds) (ap (λ (xs : List Direction). xs ++ d ∷ []) e ∙ its_front) ∙ (take-append-drop (k + 1) ds ∙ f)) h

  module _ (fits : FitsLoops (length v.loops) (length v.source_inner) (length v.sink_inner) p) (s : Sight) (sight : IsSight v p s) (front : List Direction) (deep : length front ≤ s.stage) where
    -- what the loops behind the front add
    pub rest_there : (k : ℕ) (x : Option Interval) → k ≡ length v.loops - length front → x ≡ get_or s.rests.items k x → IsRest v p (length front) x
    rest_there k x ek is =
        let within = sight.deep in
        subst (λ (j : ℕ). IsRest v p j x) (omega arith) (sight.rests.each k x (omega arith) is)

    -- the bounds of what they add
    pub bounds_there : (k : ℕ) (x : Option Bounds) → k ≡ length v.loops - length front → x ≡ get_or s.bounds.items k x → MayBound v p (length front) x
    bounds_there k x ek is =
        let within = sight.deep in
        subst (λ (j : ℕ). MayBound v p j x) (omega arith) (sight.bounds.each k x (omega arith) is)

  -- without values under a front, zero doesn't lie between the extremes
  pub beyond_without : (front : List Direction) → MaySum v p front None → IsBeyondExtremes v p front
  beyond_without front none low high a b x y = none [] (difference p low) (low, subst (λ (w : List Direction). IsPoint v p w low) (sym (append-nil front)) a, refl)

  -- so Banerjee's test excludes each vector with it
  pub some_without : (front : List Direction) → length front ≤ length v.loops → MaySum v p front None → SomeBeyond v p front
  some_without front within none =
      let rest = replicate (length v.loops - length front) Same in
      let l : length rest ≡ length v.loops - length front = length-replicate (length v.loops - length front) Same in
      (rest, omega (arith, l, within), beyond_without (front ++ rest) (none_longer front rest (front ++ rest) refl none))

  module _ (stage : ℕ) (front : List Direction) where
    pub beyond_tells : IsBeyondExtremes v p front → IsTrue true ↔ IsShut v p stage front
    beyond_tells b = (λ t. inl b, λ x. refl)

    -- Banerjee's test doesn't exclude the front
    module _ (t : Bool) (h : IsTrue t ↔ IsBeyondExtremes v p front) (f : t ≡ false) where
      near : ¬ (IsBeyondExtremes v p front)
      near b = false≢true (sym f ∙ h.1 b)

      pub gcd_tells : (u : Bool) → IsTrue u ↔ HasNoSolution p front → length front ≡ stage → IsTrue u ↔ IsShut v p stage front
      gcd_tells u g at = (λ x. inr (at, g.0 x), λ s. elim s [ inl b ↦ absurd (near b) | inr n ↦ g.1 n.1 ])

      pub none_tells : (asks solved : Bool) → IsTrue asks ↔ ((length front ≡ stage) × (solved ≡ false)) → asks ≡ false → (IsTrue solved → ¬ (HasNoSolution p front)) → IsTrue false ↔ IsShut v p stage front
      none_tells asks solved a e none = (λ x. absurd (false≢true x), λ s. elim s [ inl b ↦ absurd (near b) | inr n ↦ absurd (by n.0 n.1 (cases_Bool solved)) ])
        where
          by : length front ≡ stage → HasNoSolution p front → (solved ≡ true) ⊎ (solved ≡ false) → ⊥
          by at n (inl y) = none y n
          by at n (inr y) = false≢true (sym e ∙ a.1 (at, y))
