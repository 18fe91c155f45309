-- The differences at the points of a view have a least or are endless, and likewise a greatest: so it is decided whether
-- they leave out 0. Rows that are longer or shorter than the loops are settled too.
use Rattle.std.proofs.Common.{◌≡◌, ◌⊎◌, refl, sym, ap, ◌∙◌, inl, inr, arith, ℤ, pos, ◌+ℤ◌, ◌-ℤ◌, ◌*ℤ◌, neg_ℤ, ◌≤ℤ◌, List, [], ◌∷◌, length, Bool, true, false, not, ◌&&◌, IsTrue}
use Rattle.std.proofs.Math.IntN.{zero-*ℤ}
use Rattle.std.proofs.lemmas.Bool.Decides.{Decides-int_eq, Decides-and}
use Rattle.ped_rules.specs.ped_views.specs.declared.directions.Direction.{Direction}
use Rattle.ped_rules.specs.ped_views.specs.Whole.{Divides, is_zero}
use Rattle.ped_rules.specs.ped_views.specs.Views.{Range, SubscriptPair, View}
use Rattle.ped_rules.specs.ped_views.specs.Excluded.{InRange, Stands, Indices, dot, difference, CommonInRange, InnerInRange, IsPoint, IsBeyondExtremes}
use Rattle.ped_rules.specs.ped_views.proofs.Products.{linear}
use Rattle.ped_splits.proofs.Existence.Sentences.{Decided}
use Rattle.ped_splits.proofs.Existence.Deciding.{true_decided}
use Rattle.ped_splits.proofs.Existence.Reaching.{Reach, Within, Sum, reach_same, reach_alone, reach_within, reach_sum, reach_turned, reach_multiples, reach_decides}
use Rattle.ped_splits.proofs.Existence.Meeting.{Made, reach_made, stands_decided}
use Rattle.ped_splits.proofs.Existence.Sums.{OneIndex, TwoIndices, RowSum, PairSum, Anything, row_end, row_end_back, row_joined, row_parted, pair_apart, pair_apart_back, pair_joined, pair_parted}

zero_times : (a i : ℤ) → a ≡ pos 0 → a *ℤ i ≡ pos 0
zero_times a i e = ap (λ (x : ℤ). x *ℤ i) e ∙ zero-*ℤ i

-- a row without bounds
reach_free : (s : Bool) (row : List ℤ) → Reach s (RowSum Anything row)
reach_free s [] = reach_same s (λ v. pos 0 ≡ v) (RowSum Anything []) (row_end Anything tt) (row_end_back Anything) (reach_alone s (pos 0))
reach_free s (a ∷ row) =
    reach_same s (Sum (OneIndex (λ i. Unit {0}) a) (RowSum Anything row)) (RowSum Anything (a ∷ row))
    (row_joined Anything Anything (λ i. Unit {0}) a row (λ i xs p q. tt))
    (row_parted Anything Anything (λ i. Unit {0}) a row (λ i xs c. (tt, tt)))
    (reach_sum s (OneIndex (λ i. Unit {0}) a) (RowSum Anything row)
    (reach_same s (Divides a) (OneIndex (λ i. Unit {0}) a) (λ v d. record { i = d.0; stand = tt; is = d.1 }) (λ v u. (u.i, u.is)) (reach_multiples s a))
    (reach_free s row))

-- two rows without bounds
reach_apart : (s : Bool) (C : List ℤ → List ℤ → Type 0) (source sink : List ℤ) → ((is js : List ℤ) → length is ≡ length source → length js ≡ length sink → C is js) → Reach s (PairSum C source sink)
reach_apart s C source sink all =
    reach_same s (Sum (RowSum Anything source) (λ w. RowSum Anything sink (neg_ℤ w))) (PairSum C source sink)
    (pair_apart C source sink all)
    (pair_apart_back C source sink)
    (reach_sum s (RowSum Anything source) (λ w. RowSum Anything sink (neg_ℤ w)) (reach_free s source) (reach_turned s (RowSum Anything sink) (reach_free (not s) sink)))

-- one further loop: its index is any where its coefficient is 0, and in its range otherwise
abbrev Bounded : Range → ℤ → ℤ → Type 0
Bounded r a i = IsTrue (is_zero a) ⊎ InRange r i

reach_bounded : (s : Bool) (r : Range) (a : ℤ) → Reach s (OneIndex (Bounded r a) a)
reach_bounded s r a = by (true_decided (is_zero a))
  where
    by : Decided (IsTrue (is_zero a)) → Reach s (OneIndex (Bounded r a) a)
    by (inl z) = let e = (Decides-int_eq a (pos 0)).0 z in
        reach_same s (λ v. pos 0 ≡ v) (OneIndex (Bounded r a) a)
        (λ v f. record { i = pos 0; stand = inl z; is = zero_times a (pos 0) e ∙ f })
        (λ v u. sym (zero_times a u.i e) ∙ u.is)
        (reach_alone s (pos 0))
    by (inr n) =
        reach_same s (Within r.lo r.hi (λ i. λ v. a *ℤ i ≡ v)) (OneIndex (Bounded r a) a)
        (λ v x. record { i = x.0; stand = inr (record { from = x.1; to = x.2 }); is = x.3 })
        (λ v u. let p = placed u.i u.stand in (u.i, p.from, p.to, u.is))
        (reach_within s r.lo r.hi (λ i. λ v. a *ℤ i ≡ v) (λ i. reach_alone s (a *ℤ i)))
      where
        placed : (i : ℤ) → Bounded r a i → InRange r i
        placed i (inl z) = absurd (n z)
        placed i (inr p) = p

reach_inner : (s : Bool) (loops : List Range) (row : List ℤ) → Reach s (RowSum (λ xs. InnerInRange loops row xs) row)
reach_inner s [] row = reach_free s row
reach_inner s (r ∷ loops) [] = reach_same s (λ v. pos 0 ≡ v) (RowSum (λ xs. InnerInRange (r ∷ loops) [] xs) []) (row_end (λ xs. InnerInRange (r ∷ loops) [] xs) tt) (row_end_back (λ xs. InnerInRange (r ∷ loops) [] xs)) (reach_alone s (pos 0))
reach_inner s (r ∷ loops) (a ∷ row) =
    reach_same s (Sum (OneIndex (Bounded r a) a) (RowSum (λ xs. InnerInRange loops row xs) row)) (RowSum (λ xs. InnerInRange (r ∷ loops) (a ∷ row) xs) (a ∷ row))
    (row_joined (λ xs. InnerInRange (r ∷ loops) (a ∷ row) xs) (λ xs. InnerInRange loops row xs) (Bounded r a) a row (λ i xs p q. (p, q)))
    (row_parted (λ xs. InnerInRange (r ∷ loops) (a ∷ row) xs) (λ xs. InnerInRange loops row xs) (Bounded r a) a row (λ i xs c. c))
    (reach_sum s (OneIndex (Bounded r a) a) (RowSum (λ xs. InnerInRange loops row xs) row) (reach_bounded s r a) (reach_inner s loops row))

-- one common loop: its indices are any where it occurs on neither side, and otherwise in its range, standing so
abbrev Standing : Range → (ℤ → ℤ → Type 0) → ℤ → ℤ → ℤ → ℤ → Type 0
Standing r S a b i j = IsTrue (is_zero a && is_zero b) ⊎ (InRange r i × InRange r j × S i j)

reach_standing : (s : Bool) (r : Range) (S : ℤ → ℤ → Type 0) (a b : ℤ) → ((i j : ℤ) → Decided (S i j)) → Reach s (TwoIndices (Standing r S a b) a b)
reach_standing s r S a b each = by (true_decided (is_zero a && is_zero b))
  where
    none : IsTrue (is_zero a && is_zero b) → (i j : ℤ) → a *ℤ i -ℤ b *ℤ j ≡ pos 0
    none z i j =
        let (e, f) = (Decides-and (is_zero a) (is_zero b) (Decides-int_eq a (pos 0)) (Decides-int_eq b (pos 0))).0 z in
        let g = zero_times a i e in
        let h = zero_times b j f in
        omega (arith, linear)

    by : Decided (IsTrue (is_zero a && is_zero b)) → Reach s (TwoIndices (Standing r S a b) a b)
    by (inl z) =
        reach_same s (λ v. pos 0 ≡ v) (TwoIndices (Standing r S a b) a b)
        (λ v f. record { i = pos 0; j = pos 0; stand = inl z; is = none z (pos 0) (pos 0) ∙ f })
        (λ v u. sym (none z u.i u.j) ∙ u.is)
        (reach_alone s (pos 0))
    by (inr n) =
        reach_same s (Made r S (λ i. λ j. a *ℤ i -ℤ b *ℤ j)) (TwoIndices (Standing r S a b) a b)
        (λ v u. record { i = u.i; j = u.j; stand = inr (u.source, u.sink, u.stand); is = u.is })
        (λ v u. let p = placed u.i u.j u.stand in record { i = u.i; j = u.j; source = p.0; sink = p.1; stand = p.2; is = u.is })
        (reach_made s r S (λ i. λ j. a *ℤ i -ℤ b *ℤ j) each)
      where
        placed : (i j : ℤ) → Standing r S a b i j → InRange r i × InRange r j × S i j
        placed i j (inl z) = absurd (n z)
        placed i j (inr p) = p

reach_common : (s : Bool) (loops : List Range) (vector : List Direction) (source sink : List ℤ) → Reach s (PairSum (λ is. λ js. CommonInRange loops vector source sink is js) source sink)
reach_common s [] vector source sink = reach_apart s (λ is. λ js. CommonInRange [] vector source sink is js) source sink (λ is js e f. tt)
reach_common s (r ∷ loops) [] [] sink = reach_apart s (λ is. λ js. CommonInRange (r ∷ loops) [] [] sink is js) [] sink (λ is js e f. tt)
reach_common s (r ∷ loops) (d ∷ vector) [] sink = reach_apart s (λ is. λ js. CommonInRange (r ∷ loops) (d ∷ vector) [] sink is js) [] sink (λ is js e f. tt)
reach_common s (r ∷ loops) [] (a ∷ source) [] = reach_apart s (λ is. λ js. CommonInRange (r ∷ loops) [] (a ∷ source) [] is js) (a ∷ source) [] (λ is js e f. tt)
reach_common s (r ∷ loops) (d ∷ vector) (a ∷ source) [] = reach_apart s (λ is. λ js. CommonInRange (r ∷ loops) (d ∷ vector) (a ∷ source) [] is js) (a ∷ source) [] (λ is js e f. tt)
reach_common s (r ∷ loops) (d ∷ vector) (a ∷ source) (b ∷ sink) =
    let C : List ℤ → List ℤ → Type 0 = λ is. λ js. CommonInRange (r ∷ loops) (d ∷ vector) (a ∷ source) (b ∷ sink) is js in
    let D : List ℤ → List ℤ → Type 0 = λ is. λ js. CommonInRange loops vector source sink is js in
    reach_same s (Sum (TwoIndices (Standing r (Stands r d) a b) a b) (PairSum D source sink)) (PairSum C (a ∷ source) (b ∷ sink))
    (pair_joined C D (Standing r (Stands r d) a b) a b source sink (λ i j is js p q. (p, q)))
    (pair_parted C D (Standing r (Stands r d) a b) a b source sink (λ i j is js c. c))
    (reach_sum s (TwoIndices (Standing r (Stands r d) a b) a b) (PairSum D source sink) (reach_standing s r (Stands r d) a b (stands_decided r d)) (reach_common s loops vector source sink))
reach_common s (r ∷ loops) [] (a ∷ source) (b ∷ sink) =
    let C : List ℤ → List ℤ → Type 0 = λ is. λ js. CommonInRange (r ∷ loops) [] (a ∷ source) (b ∷ sink) is js in
    let D : List ℤ → List ℤ → Type 0 = λ is. λ js. CommonInRange loops [] source sink is js in
    let S : ℤ → ℤ → Type 0 = λ i. λ j. Unit {0} in
    reach_same s (Sum (TwoIndices (Standing r S a b) a b) (PairSum D source sink)) (PairSum C (a ∷ source) (b ∷ sink))
    (pair_joined C D (Standing r S a b) a b source sink (λ i j is js p q. (shut i j p, q)))
    (pair_parted C D (Standing r S a b) a b source sink (λ i j is js c. (opened i j c.0, c.1)))
    (reach_sum s (TwoIndices (Standing r S a b) a b) (PairSum D source sink) (reach_standing s r S a b (λ i j. inl tt)) (reach_common s loops [] source sink))
  where
    shut : (i j : ℤ) → Standing r (λ i. λ j. Unit {0}) a b i j → IsTrue (is_zero a && is_zero b) ⊎ (InRange r i × InRange r j)
    shut i j (inl z) = inl z
    shut i j (inr p) = inr (p.0, p.1)

    opened : (i j : ℤ) → IsTrue (is_zero a && is_zero b) ⊎ (InRange r i × InRange r j) → Standing r (λ i. λ j. Unit {0}) a b i j
    opened i j (inl z) = inl z
    opened i j (inr p) = inr (p.0, p.1, tt)

-- the differences at the points of a view
pub record DifferenceAt (v : View) (p : SubscriptPair) (vector : List Direction) (w : ℤ) : Type 0 where
  pub at : Indices
  pub point : IsPoint v p vector at
  pub is : difference p at ≡ w

module _ (s : Bool) (v : View) (p : SubscriptPair) (vector : List Direction) where
  abbrev Common : ℤ → Type 0
  Common = PairSum (λ is. λ js. CommonInRange v.loops vector p.source.common p.sink.common is js) p.source.common p.sink.common

  abbrev AtSource : ℤ → Type 0
  AtSource = RowSum (λ xs. InnerInRange v.source_inner p.source.inner xs) p.source.inner

  abbrev AtSink : ℤ → Type 0
  AtSink = RowSum (λ xs. InnerInRange v.sink_inner p.sink.inner xs) p.sink.inner

  abbrev Whole : ℤ → Type 0
  Whole = Sum (Sum Common AtSource) (Sum (λ w. AtSink (neg_ℤ w)) (λ w. p.source.constant -ℤ p.sink.constant ≡ w))

  whole_reach : Reach s Whole
  whole_reach =
      reach_sum s (Sum Common AtSource) (Sum (λ w. AtSink (neg_ℤ w)) (λ w. p.source.constant -ℤ p.sink.constant ≡ w))
      (reach_sum s Common AtSource (reach_common s v.loops vector p.source.common p.sink.common) (reach_inner s v.source_inner p.source.inner))
      (reach_sum s (λ w. AtSink (neg_ℤ w)) (λ w. p.source.constant -ℤ p.sink.constant ≡ w)
      (reach_turned s AtSink (reach_inner (not s) v.sink_inner p.sink.inner))
      (reach_alone s (p.source.constant -ℤ p.sink.constant)))

  joined : (w : ℤ) → Whole w → DifferenceAt v p vector w
  joined w u =
      let c = u.first.first in
      let f = u.first.second in
      let k = u.second.first in
      let n = u.second.second in
      let e1 = c.value in
      let e2 = f.value in
      let e3 = k.value in
      let s1 = u.first.sum in
      let s2 = u.second.sum in
      let s3 = u.sum in
      record {
        at = record { source = c.is; sink = c.js; source_inner = f.xs; sink_inner = k.xs };
        point = record {
          indices = record { source = c.source_long; sink = c.sink_long; source_inner = f.long; sink_inner = k.long };
          common = c.stand;
          source_inner = f.stand;
          sink_inner = k.stand;
        };
        is = omega (arith, linear);
      }

  parted : (w : ℤ) → DifferenceAt v p vector w → Whole w
  parted w u =
      let at = u.at in
      let q = u.point in
      let e = u.is in
      record {
        x = dot p.source.common at.source -ℤ dot p.sink.common at.sink +ℤ dot p.source.inner at.source_inner;
        y = neg_ℤ (dot p.sink.inner at.sink_inner) +ℤ (p.source.constant -ℤ p.sink.constant);
        first = record {
          x = dot p.source.common at.source -ℤ dot p.sink.common at.sink;
          y = dot p.source.inner at.source_inner;
          first = record { is = at.source; js = at.sink; source_long = q.indices.source; sink_long = q.indices.sink; stand = q.common; value = refl };
          second = record { xs = at.source_inner; long = q.indices.source_inner; stand = q.source_inner; value = refl };
          sum = refl;
        };
        second = record {
          x = neg_ℤ (dot p.sink.inner at.sink_inner);
          y = p.source.constant -ℤ p.sink.constant;
          first = record { xs = at.sink_inner; long = q.indices.sink_inner; stand = q.sink_inner; value = omega (arith, linear) };
          second = refl;
          sum = refl;
        };
        sum = omega (arith, linear);
      }

  difference_reach : Reach s (DifferenceAt v p vector)
  difference_reach = reach_same s Whole (DifferenceAt v p vector) joined parted whole_reach

pub beyond_extremes_decided : (v : View) (p : SubscriptPair) (vector : List Direction) → Decided (IsBeyondExtremes v p vector)
beyond_extremes_decided v p vector =
    by (reach_decides true (DifferenceAt v p vector) (pos 0) (difference_reach true v p vector)) (reach_decides false (DifferenceAt v p vector) (pos 0) (difference_reach false v p vector))
  where
    by : Decided ((w : ℤ) × DifferenceAt v p vector w × (w ≤ℤ pos 0)) → Decided ((w : ℤ) × DifferenceAt v p vector w × (pos 0 ≤ℤ w)) → Decided (IsBeyondExtremes v p vector)
    by (inr n) d = inl (λ low high a b x y. n (difference p low, record { at = low; point = a; is = refl }, x))
    by (inl l) (inr n) = inl (λ low high a b x y. n (difference p high, record { at = high; point = b; is = refl }, y))
    by (inl (w, l, x)) (inl (z, h, y)) = inr (λ beyond. let e = l.is in let f = h.is in beyond l.at h.at l.point h.point (omega (arith, linear)) (omega (arith, linear)))
