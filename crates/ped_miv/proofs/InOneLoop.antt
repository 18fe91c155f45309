-- What one loop adds, by the place of its two index values: in a square, on its diagonal, or in one of its triangles.
use Rattle.std.proofs.Common.{◌≡◌, refl, sym, ap, subst, ◌∙◌, arith, inl, inr, ◌⊎◌, ℤ, pos, ◌-ℤ◌, ◌*ℤ◌, neg_ℤ, ◌&&◌, IsTrue, Option, Some, None, of_z, w64}
use Rattle.std.proofs.Math.IntN.{zero-*ℤ}
use Rattle.std.proofs.lemmas.Bool.Decides.{Decides-int_eq, Decides-and}
use Rattle.ped_views.specs.declared.directions.Direction.{Direction}
use Rattle.ped_views.specs.declared.directions.Direction.TheVariants.{Before, Same, After}
use Rattle.ped_views.specs.declared.intervals.Interval.{Interval}
use Rattle.ped_views.specs.Whole.{is_zero}
use Rattle.ped_views.specs.Views.{Range}
use Rattle.ped_views.specs.Excluded.{InRange, StandsByValue, by_value}
use Rattle.ped_views.proofs.Products.{linear, neg-mul}
use Rattle.ped_miv.specs.Values.{Extreme, AreExtremes, FormValue, InSquare, OnDiagonal, InTriangle, InLoop, LoopValue}
use Rattle.ped_miv.proofs.Extremal.{extremes_same}

-- a loop whose index occurs on neither side adds 0
pub no_index : (r : Range) (d : Option Direction) (a b : ℤ) → a ≡ pos 0 → b ≡ pos 0 → Extreme (LoopValue r d a b) (pos 0) (pos 0)
no_index r d a b p q = record { least = here d; greatest = here d; between = λ v u. (omega (arith, linear, zero u.i u.j, u.is), omega (arith, linear, zero u.i u.j, u.is)) }
  where
    zero : (i j : ℤ) → a *ℤ i -ℤ b *ℤ j ≡ pos 0
    zero i j =
        let e = ap (λ (x : ℤ). x *ℤ i) p ∙ zero-*ℤ i in
        let f = ap (λ (x : ℤ). x *ℤ j) q ∙ zero-*ℤ j in
        omega (arith, linear)

    neither : IsTrue (is_zero a && is_zero b)
    neither = subst (λ (x : ℤ). IsTrue (is_zero x && is_zero b)) (sym p) (subst (λ (x : ℤ). IsTrue (is_zero x)) (sym q) refl)

    here : (d : Option Direction) → LoopValue r d a b (pos 0)
    here None = record { i = pos 0; j = pos 0; stand = inl neither; is = zero (pos 0) (pos 0) }
    here (Some d) = record { i = pos 0; j = pos 0; stand = inl neither; is = zero (pos 0) (pos 0) }

-- the index occurs on a side
module _ (r : Range) (a b : ℤ) (o : Option Interval) (occurs : ¬ (IsTrue (is_zero a && is_zero b))) where
  pub in_any : AreExtremes (FormValue (InSquare r.lo r.hi) a b) o → AreExtremes (LoopValue r None a b) o
  in_any h = extremes_same (FormValue (InSquare r.lo r.hi) a b) (LoopValue r None a b) o to from h
    where
      to : (v : ℤ) → FormValue (InSquare r.lo r.hi) a b v → LoopValue r None a b v
      to v u = let s = u.stand in record { i = u.i; j = u.j; stand = inr (record { from = s.0; to = s.1 }, record { from = s.2; to = s.3 }); is = u.is }

      place : (i j : ℤ) → InLoop r None a b i j → InSquare r.lo r.hi i j
      place i j (inl z) = absurd (occurs z)
      place i j (inr (p, q)) = (p.from, p.to, q.from, q.to)

      from : (v : ℤ) → LoopValue r None a b v → FormValue (InSquare r.lo r.hi) a b v
      from v u = record { i = u.i; j = u.j; stand = place u.i u.j u.stand; is = u.is }

  module _ (d : Direction) where
    -- index values that stand so by their values
    placed : (i j : ℤ) → InLoop r (Some d) a b i j → InRange r i × InRange r j × StandsByValue (by_value r.step d) i j
    placed i j (inl z) = absurd (occurs z)
    placed i j (inr p) = p

    at : (e : Direction) → by_value r.step d ≡ e → (i j : ℤ) → StandsByValue e i j → StandsByValue (by_value r.step d) i j
    at e q i j s = subst (λ (x : Direction). StandsByValue x i j) (sym q) s

    by : (e : Direction) → by_value r.step d ≡ e → (i j : ℤ) → StandsByValue (by_value r.step d) i j → StandsByValue e i j
    by e q i j s = subst (λ (x : Direction). StandsByValue x i j) q s

    pub in_same : by_value r.step d ≡ Same → AreExtremes (FormValue (OnDiagonal r.lo r.hi) a b) o → AreExtremes (LoopValue r (Some d) a b) o
    in_same q h = extremes_same (FormValue (OnDiagonal r.lo r.hi) a b) (LoopValue r (Some d) a b) o to from h
      where
        to : (v : ℤ) → FormValue (OnDiagonal r.lo r.hi) a b v → LoopValue r (Some d) a b v
        to v u =
            let s = u.stand.0 in
            let t = u.stand.1 in
            let e = u.stand.2 in
            record { i = u.i; j = u.j; stand = inr (record { from = s; to = t }, record { from = omega (arith, linear); to = omega (arith, linear) }, at Same q u.i u.j e); is = u.is }

        from : (v : ℤ) → LoopValue r (Some d) a b v → FormValue (OnDiagonal r.lo r.hi) a b v
        from v u = let p = placed u.i u.j u.stand in record { i = u.i; j = u.j; stand = (p.0.from, p.0.to, by Same q u.i u.j p.2); is = u.is }

    pub in_before : by_value r.step d ≡ Before → AreExtremes (FormValue (InTriangle r.lo r.hi) a b) o → AreExtremes (LoopValue r (Some d) a b) o
    in_before q h = extremes_same (FormValue (InTriangle r.lo r.hi) a b) (LoopValue r (Some d) a b) o to from h
      where
        to : (v : ℤ) → FormValue (InTriangle r.lo r.hi) a b v → LoopValue r (Some d) a b v
        to v u =
            let s = u.stand.0 in
            let e = u.stand.1 in
            let t = u.stand.2 in
            record { i = u.i; j = u.j; stand = inr (record { from = s; to = omega (arith, linear) }, record { from = omega (arith, linear); to = t }, at Before q u.i u.j e); is = u.is }

        from : (v : ℤ) → LoopValue r (Some d) a b v → FormValue (InTriangle r.lo r.hi) a b v
        from v u = let p = placed u.i u.j u.stand in record { i = u.i; j = u.j; stand = (p.0.from, by Before q u.i u.j p.2, p.1.to); is = u.is }

    -- the sink's index is the lesser: the two change places
    pub in_after : by_value r.step d ≡ After → AreExtremes (FormValue (InTriangle r.lo r.hi) (neg_ℤ b) (neg_ℤ a)) o → AreExtremes (LoopValue r (Some d) a b) o
    in_after q h = extremes_same (FormValue (InTriangle r.lo r.hi) (neg_ℤ b) (neg_ℤ a)) (LoopValue r (Some d) a b) o to from h
      where
        swapped : (i j : ℤ) → neg_ℤ b *ℤ i -ℤ neg_ℤ a *ℤ j ≡ a *ℤ j -ℤ b *ℤ i
        swapped i j = let n = neg-mul b i in let m = neg-mul a j in omega (arith, linear)

        to : (v : ℤ) → FormValue (InTriangle r.lo r.hi) (neg_ℤ b) (neg_ℤ a) v → LoopValue r (Some d) a b v
        to v u =
            let s = u.stand.0 in
            let e = u.stand.1 in
            let t = u.stand.2 in
            record { i = u.j; j = u.i; stand = inr (record { from = omega (arith, linear); to = t }, record { from = s; to = omega (arith, linear) }, at After q u.j u.i e); is = sym (swapped u.i u.j) ∙ u.is }

        from : (v : ℤ) → LoopValue r (Some d) a b v → FormValue (InTriangle r.lo r.hi) (neg_ℤ b) (neg_ℤ a) v
        from v u = let p = placed u.i u.j u.stand in record { i = u.j; j = u.i; stand = (p.1.from, by After q u.i u.j p.2, p.0.to); is = swapped u.j u.i ∙ u.is }

-- the code's test that the index occurs
pub occurs_by_bits : (a b : ℤ) → ((of_z w64 a ≡ 0) × ¬ (of_z w64 b ≡ 0)) ⊎ ¬ (of_z w64 a ≡ 0) → ¬ (IsTrue (is_zero a && is_zero b))
occurs_by_bits a b h t = both h ((Decides-and _ _ (Decides-int_eq a (pos 0)) (Decides-int_eq b (pos 0))).0 t)
  where
    both : ((of_z w64 a ≡ 0) × ¬ (of_z w64 b ≡ 0)) ⊎ ¬ (of_z w64 a ≡ 0) → ¬ ((a ≡ pos 0) × (b ≡ pos 0))
    both (inl s) (p, q) = s.1 (ap (of_z w64) q)
    both (inr s) (p, q) = s (ap (of_z w64) p)

-- the extremes that the code finds, by the direction that it meets
module _ (r now : Range) (direction : Option Direction) (a b : ℤ) (o : Option Interval) (shown : r ≡ now) (bits : ((of_z w64 a ≡ 0) × ¬ (of_z w64 b ≡ 0)) ⊎ ¬ (of_z w64 a ≡ 0)) where
  along : (d : Option Direction) → direction ≡ d → AreExtremes (LoopValue r d a b) o → AreExtremes (LoopValue now direction a b) o
  along d e h = subst (λ (x : Option Direction). AreExtremes (LoopValue now x a b) o) (sym e) (subst (λ (x : Range). AreExtremes (LoopValue x d a b) o) shown h)

  pub any_found : direction ≡ None → AreExtremes (FormValue (InSquare r.lo r.hi) a b) o → AreExtremes (LoopValue now direction a b) o
  any_found e h = along None e (in_any r a b o (occurs_by_bits a b bits) h)

  pub same_found : (d : Direction) → direction ≡ Some d → by_value r.step d ≡ Same → AreExtremes (FormValue (OnDiagonal r.lo r.hi) a b) o → AreExtremes (LoopValue now direction a b) o
  same_found d e q h = along (Some d) e (in_same r a b o (occurs_by_bits a b bits) d q h)

  pub before_found : (d : Direction) → direction ≡ Some d → by_value r.step d ≡ Before → AreExtremes (FormValue (InTriangle r.lo r.hi) a b) o → AreExtremes (LoopValue now direction a b) o
  before_found d e q h = along (Some d) e (in_before r a b o (occurs_by_bits a b bits) d q h)

  pub after_found : (d : Direction) (nb na : ℤ) → direction ≡ Some d → by_value r.step d ≡ After → nb ≡ neg_ℤ b → na ≡ neg_ℤ a → AreExtremes (FormValue (InTriangle r.lo r.hi) nb na) o → AreExtremes (LoopValue now direction a b) o
  after_found d nb na e q eb ea h = along (Some d) e (in_after r a b o (occurs_by_bits a b bits) d q
      (subst (λ (x : ℤ). AreExtremes (FormValue (InTriangle r.lo r.hi) (neg_ℤ b) x) o) ea (subst (λ (x : ℤ). AreExtremes (FormValue (InTriangle r.lo r.hi) x na) o) eb h)))
