-- Whether any whole numbers make two subscripts equal: what they add is the multiples of one number, so divisibility
-- decides it. Rows of different lengths are settled too.
use Rattle.std.proofs.Common.{◌≡◌, refl, sym, ap, ◌∙◌, arith, ℤ, pos, ◌-ℤ◌, ◌*ℤ◌, neg_ℤ, List, [], ◌∷◌, length}
use Rattle.ped_rules.specs.ped_views.specs.declared.directions.Direction.{Direction}
use Rattle.ped_rules.specs.ped_views.specs.declared.directions.Direction.TheVariants.{Before, Same, After}
use Rattle.ped_rules.specs.ped_views.specs.Views.{SubscriptPair}
use Rattle.ped_rules.specs.ped_views.specs.Excluded.{Indices, HasIndices, SharesIndices, HasNoSolution, dot, difference}
use Rattle.ped_rules.specs.ped_views.proofs.Products.{linear, neg-mul, sub-mul}
use Rattle.ped_splits.proofs.Existence.Sentences.{Decided}
use Rattle.ped_splits.proofs.Existence.Deciding.{decided_same, decided_not, divides_decided}
use Rattle.ped_splits.proofs.Existence.Reaching.{Sum}
use Rattle.ped_splits.proofs.Existence.Spanning.{AreMultiples, Combined, multiples_same, multiples_of_zero, multiples_sum, multiples_turned, spanned}
use Rattle.ped_splits.proofs.Existence.Sums.{OneIndex, TwoIndices, RowSum, PairSum, Anything, row_end, row_end_back, row_joined, row_parted, pair_apart, pair_apart_back, pair_joined, pair_parted}

multiples_free : (row : List ℤ) → AreMultiples (RowSum Anything row)
multiples_free [] = multiples_same (λ v. pos 0 ≡ v) (RowSum Anything []) (row_end Anything tt) (row_end_back Anything) multiples_of_zero
multiples_free (a ∷ row) =
    multiples_same (Sum (OneIndex (λ i. Unit {0}) a) (RowSum Anything row)) (RowSum Anything (a ∷ row))
    (row_joined Anything Anything (λ i. Unit {0}) a row (λ i xs p q. tt))
    (row_parted Anything Anything (λ i. Unit {0}) a row (λ i xs c. (tt, tt)))
    (multiples_sum (OneIndex (λ i. Unit {0}) a) (RowSum Anything row)
    (record { of = a; to = λ v u. (u.i, u.is); from = λ v d. record { i = d.0; stand = tt; is = d.1 } })
    (multiples_free row))

multiples_apart : (C : List ℤ → List ℤ → Type 0) (source sink : List ℤ) → ((is js : List ℤ) → length is ≡ length source → length js ≡ length sink → C is js) → AreMultiples (PairSum C source sink)
multiples_apart C source sink all =
    multiples_same (Sum (RowSum Anything source) (λ w. RowSum Anything sink (neg_ℤ w))) (PairSum C source sink)
    (pair_apart C source sink all)
    (pair_apart_back C source sink)
    (multiples_sum (RowSum Anything source) (λ w. RowSum Anything sink (neg_ℤ w)) (multiples_free source) (multiples_turned (RowSum Anything sink) (multiples_free sink)))

-- two unknowns of one loop
two_unknowns : (a b : ℤ) → AreMultiples (TwoIndices (λ i. λ j. Unit {0}) a b)
two_unknowns a b =
    multiples_same (Combined a (neg_ℤ b)) (TwoIndices (λ i. λ j. Unit {0}) a b)
    (λ v u. record { i = u.i; j = u.j; stand = tt; is = let e = u.is in let n = neg-mul b u.j in omega (arith, linear) })
    (λ v u. record { i = u.i; j = u.j; is = let e = u.is in let n = neg-mul b u.j in omega (arith, linear) })
    (spanned a (neg_ℤ b))

-- one unknown
one_unknown : (a b : ℤ) → AreMultiples (TwoIndices (λ i. λ j. i ≡ j) a b)
one_unknown a b = record {
  of = a -ℤ b;
  to = λ v u. (u.i, let e = u.is in let s = sub-mul a b u.i in let t = ap (λ (x : ℤ). b *ℤ x) u.stand in omega (arith, linear));
  from = λ v d. record { i = d.0; j = d.0; stand = refl; is = sym (sub-mul a b d.0) ∙ d.1 };
}

multiples_opened : (C D : List ℤ → List ℤ → Type 0) (S : ℤ → ℤ → Type 0) (a b : ℤ) (source sink : List ℤ) → ((i j : ℤ) (is js : List ℤ) → S i j → D is js → C (i ∷ is) (j ∷ js)) → ((i j : ℤ) (is js : List ℤ) → C (i ∷ is) (j ∷ js) → S i j × D is js) → AreMultiples (TwoIndices S a b) → AreMultiples (PairSum D source sink) → AreMultiples (PairSum C (a ∷ source) (b ∷ sink))
multiples_opened C D S a b source sink join part m n =
    multiples_same (Sum (TwoIndices S a b) (PairSum D source sink)) (PairSum C (a ∷ source) (b ∷ sink))
    (pair_joined C D S a b source sink join)
    (pair_parted C D S a b source sink part)
    (multiples_sum (TwoIndices S a b) (PairSum D source sink) m n)

-- without indices on a side none are shared
none_at_source : (vector : List Direction) (is js : List ℤ) → length is ≡ 0 → SharesIndices vector is js
none_at_source vector (i ∷ is) js e = absurd (omega arith)
none_at_source [] [] js e = tt
none_at_source (Before ∷ ds) [] js e = tt
none_at_source (Same ∷ ds) [] js e = tt
none_at_source (After ∷ ds) [] js e = tt

none_at_sink : (vector : List Direction) (is js : List ℤ) → length js ≡ 0 → SharesIndices vector is js
none_at_sink vector is (j ∷ js) e = absurd (omega arith)
none_at_sink [] is [] e = tt
none_at_sink (d ∷ ds) [] [] e = none_at_source (d ∷ ds) [] [] refl
none_at_sink (Before ∷ ds) (i ∷ is) [] e = tt
none_at_sink (Same ∷ ds) (i ∷ is) [] e = tt
none_at_sink (After ∷ ds) (i ∷ is) [] e = tt

abbrev Shared : List Direction → List ℤ → List ℤ → Type 0
Shared vector is js = SharesIndices vector is js

abbrev Any : ℤ → ℤ → Type 0
Any i j = Unit {0}

multiples_shared : (vector : List Direction) (source sink : List ℤ) → AreMultiples (PairSum (Shared vector) source sink)
multiples_shared vector [] sink = multiples_apart (Shared vector) [] sink (λ is js e f. none_at_source vector is js e)
multiples_shared vector (a ∷ source) [] = multiples_apart (Shared vector) (a ∷ source) [] (λ is js e f. none_at_sink vector is js f)
multiples_shared [] (a ∷ source) (b ∷ sink) =
    multiples_opened (Shared []) (Shared []) Any a b source sink (λ i j is js p q. tt) (λ i j is js c. (tt, tt)) (two_unknowns a b) (multiples_shared [] source sink)
multiples_shared (Same ∷ ds) (a ∷ source) (b ∷ sink) =
    multiples_opened (Shared (Same ∷ ds)) (Shared ds) (λ i. λ j. i ≡ j) a b source sink (λ i j is js p q. (p, q)) (λ i j is js c. (c.0, c.1)) (one_unknown a b) (multiples_shared ds source sink)
multiples_shared (Before ∷ ds) (a ∷ source) (b ∷ sink) =
    multiples_opened (Shared (Before ∷ ds)) (Shared ds) Any a b source sink (λ i j is js p q. q) (λ i j is js c. (tt, c)) (two_unknowns a b) (multiples_shared ds source sink)
multiples_shared (After ∷ ds) (a ∷ source) (b ∷ sink) =
    multiples_opened (Shared (After ∷ ds)) (Shared ds) Any a b source sink (λ i j is js p q. q) (λ i j is js c. (tt, c)) (two_unknowns a b) (multiples_shared ds source sink)

-- what the unknowns add to the difference of the constants
module _ (p : SubscriptPair) (vector : List Direction) where
  abbrev Unknowns : ℤ → Type 0
  Unknowns = Sum (PairSum (Shared vector) p.source.common p.sink.common) (Sum (RowSum Anything p.source.inner) (λ w. RowSum Anything p.sink.inner (neg_ℤ w)))

  unknowns_multiples : AreMultiples Unknowns
  unknowns_multiples =
      multiples_sum (PairSum (Shared vector) p.source.common p.sink.common) (Sum (RowSum Anything p.source.inner) (λ w. RowSum Anything p.sink.inner (neg_ℤ w)))
      (multiples_shared vector p.source.common p.sink.common)
      (multiples_sum (RowSum Anything p.source.inner) (λ w. RowSum Anything p.sink.inner (neg_ℤ w)) (multiples_free p.source.inner) (multiples_turned (RowSum Anything p.sink.inner) (multiples_free p.sink.inner)))

  unknowns_at : (at : Indices) → HasIndices p at → SharesIndices vector at.source at.sink → difference p at ≡ pos 0 → Unknowns (p.sink.constant -ℤ p.source.constant)
  unknowns_at at h q e = record {
    x = dot p.source.common at.source -ℤ dot p.sink.common at.sink;
    y = dot p.source.inner at.source_inner -ℤ dot p.sink.inner at.sink_inner;
    first = record { is = at.source; js = at.sink; source_long = h.source; sink_long = h.sink; stand = q; value = refl };
    second = record {
      x = dot p.source.inner at.source_inner;
      y = neg_ℤ (dot p.sink.inner at.sink_inner);
      first = record { xs = at.source_inner; long = h.source_inner; stand = tt; value = refl };
      second = record { xs = at.sink_inner; long = h.sink_inner; stand = tt; value = omega (arith, linear) };
      sum = omega (arith, linear);
    };
    sum = omega (arith, linear);
  }

  solved : Unknowns (p.sink.constant -ℤ p.source.constant) → ¬ (HasNoSolution p vector)
  solved u never =
      let c = u.first in
      let f = u.second.first in
      let k = u.second.second in
      let e1 = c.value in
      let e2 = f.value in
      let e3 = k.value in
      let s1 = u.second.sum in
      let s2 = u.sum in
      never (record { source = c.is; sink = c.js; source_inner = f.xs; sink_inner = k.xs })
      (record { source = c.source_long; sink = c.sink_long; source_inner = f.long; sink_inner = k.long })
      c.stand (omega (arith, linear))

pub no_solution_decided : (p : SubscriptPair) (vector : List Direction) → Decided (HasNoSolution p vector)
no_solution_decided p vector =
    let m = unknowns_multiples p vector in
    let n : ℤ = p.sink.constant -ℤ p.source.constant in
    decided_same
    (λ none at h q e. none (m.to n (unknowns_at p vector at h q e)))
    (λ never d. solved p vector (m.from n d) never)
    (decided_not (divides_decided m.of n))
