-- The points of a view, loop by loop: the difference at a point is the sum of what its loops add.
use Rattle.std.proofs.Common.{◌≡◌, ◌↔◌, refl, sym, ap, arith, inl, inr, ◌⊎◌, ℤ, pos, ◌+ℤ◌, ◌-ℤ◌, ◌*ℤ◌, ◌≤ℤ◌, ◌<ℤ◌, List, [], ◌∷◌, length, Bool, true, false, ◌&&◌, IsTrue, None}
use Rattle.std.proofs.Math.IntN.{zero-*ℤ}
use Rattle.std.proofs.lemmas.Int.{by_lt_z, ints}
use lib.Signed.{lt_z}
use Rattle.ped_views.specs.declared.directions.Direction.{Direction}
use Rattle.ped_views.specs.Whole.{is_zero}
use Rattle.ped_views.specs.Views.{Range, SubscriptPair, View}
use Rattle.ped_views.specs.Limits.{FitsLoops}
use Rattle.ped_views.specs.Excluded.{InRange, Indices, dot, difference, CommonInRange, InnerInRange, IsPoint, IsBeyondExtremes}
use Rattle.ped_views.proofs.Products.{linear}
use Rattle.ped_miv.specs.Values.{Extreme, InLoop, CommonValue, InnerValue, DifferenceValue}

-- the indices of the common loops add what their loops add
pub common_value : (loops : List Range) (vector : List Direction) (source sink is js : List ℤ) → length source ≡ length loops → length sink ≡ length loops → length is ≡ length source → length js ≡ length sink → CommonInRange loops vector source sink is js → CommonValue loops vector source sink (dot source is -ℤ dot sink js)
common_value [] vector [] [] [] [] e f g h p = omega (arith, linear)
common_value (r ∷ loops) (d ∷ vector) (a ∷ source) (b ∷ sink) (i ∷ is) (j ∷ js) e f g h p = (
  a *ℤ i -ℤ b *ℤ j,
  dot source is -ℤ dot sink js,
  record { i = i; j = j; stand = p.0; is = refl },
  common_value loops vector source sink is js (omega arith) (omega arith) (omega arith) (omega arith) p.1,
  omega (arith, linear),
)
common_value (r ∷ loops) [] (a ∷ source) (b ∷ sink) (i ∷ is) (j ∷ js) e f g h p = (
  a *ℤ i -ℤ b *ℤ j,
  dot source is -ℤ dot sink js,
  record { i = i; j = j; stand = p.0; is = refl },
  common_value loops [] source sink is js (omega arith) (omega arith) (omega arith) (omega arith) p.1,
  omega (arith, linear),
)
common_value loops vector source sink is js e f g h p = absurd (omega arith)

-- what the common loops add is added by some indices
pub record CommonIndices (loops : List Range) (vector : List Direction) (source sink : List ℤ) (v : ℤ) : Type 0 where
  pub is : List ℤ
  pub js : List ℤ
  pub source_long : length is ≡ length source
  pub sink_long : length js ≡ length sink
  pub in_range : CommonInRange loops vector source sink is js
  pub value : dot source is -ℤ dot sink js ≡ v

pub common_indices : (loops : List Range) (vector : List Direction) (source sink : List ℤ) (v : ℤ) → length source ≡ length loops → length sink ≡ length loops → CommonValue loops vector source sink v → CommonIndices loops vector source sink v
common_indices [] vector [] [] v e f p = record { is = []; js = []; source_long = refl; sink_long = refl; in_range = tt; value = omega (arith, linear) }
common_indices (r ∷ loops) (d ∷ vector) (a ∷ source) (b ∷ sink) v e f (x, y, p, q, s) =
    let t = common_indices loops vector source sink y (omega arith) (omega arith) q in
    let u = p.is in
    let w = t.value in
    record { is = p.i ∷ t.is; js = p.j ∷ t.js; source_long = omega (arith, t.source_long); sink_long = omega (arith, t.sink_long); in_range = (p.stand, t.in_range); value = omega (arith, linear) }
common_indices (r ∷ loops) [] (a ∷ source) (b ∷ sink) v e f (x, y, p, q, s) =
    let t = common_indices loops [] source sink y (omega arith) (omega arith) q in
    let u = p.is in
    let w = t.value in
    record { is = p.i ∷ t.is; js = p.j ∷ t.js; source_long = omega (arith, t.source_long); sink_long = omega (arith, t.sink_long); in_range = (p.stand, t.in_range); value = omega (arith, linear) }
common_indices loops vector source sink v e f p = absurd (omega arith)

and_left : (x y : Bool) → IsTrue (x && y) → IsTrue x
and_left true y t = refl
and_left false y t = absurd (cc)

-- the index of a further loop stands as that of a loop that occurs at the source alone
beside_zero : (a i j : ℤ) → a *ℤ i -ℤ pos 0 *ℤ j ≡ a *ℤ i
beside_zero a i j = let z = zero-*ℤ j in omega (arith, linear)

into_loop : (r : Range) (a i : ℤ) → IsTrue (is_zero a) ⊎ InRange r i → InLoop r None a (pos 0) i i
into_loop r a i (inl z) = inl (ap (λ t. t && is_zero (pos 0)) z)
into_loop r a i (inr p) = inr (p, p)

out_of_loop : (r : Range) (a i j : ℤ) → InLoop r None a (pos 0) i j → IsTrue (is_zero a) ⊎ InRange r i
out_of_loop r a i j (inl z) = inl (and_left (is_zero a) (is_zero (pos 0)) z)
out_of_loop r a i j (inr p) = inr p.0

-- the indices of the further loops of one side add what their loops add
pub inner_value : (loops : List Range) (row xs : List ℤ) → length row ≡ length loops → length xs ≡ length row → InnerInRange loops row xs → InnerValue loops row (dot row xs)
inner_value [] [] [] e f p = refl
inner_value (r ∷ loops) (a ∷ row) (i ∷ xs) e f p = (
  a *ℤ i,
  dot row xs,
  record { i = i; j = i; stand = into_loop r a i p.0; is = beside_zero a i i },
  inner_value loops row xs (omega arith) (omega arith) p.1,
  refl,
)
inner_value loops row xs e f p = absurd (omega arith)

pub record InnerIndices (loops : List Range) (row : List ℤ) (v : ℤ) : Type 0 where
  pub xs : List ℤ
  pub long : length xs ≡ length row
  pub in_range : InnerInRange loops row xs
  pub value : dot row xs ≡ v

pub inner_indices : (loops : List Range) (row : List ℤ) (v : ℤ) → length row ≡ length loops → InnerValue loops row v → InnerIndices loops row v
inner_indices [] [] v e p = record { xs = []; long = refl; in_range = tt; value = sym p }
inner_indices (r ∷ loops) (a ∷ row) v e (x, y, p, q, s) =
    let t = inner_indices loops row y (omega arith) q in
    let u = p.is in
    let w = t.value in
    let z = beside_zero a p.i p.j in
    record { xs = p.i ∷ t.xs; long = omega (arith, t.long); in_range = (out_of_loop r a p.i p.j p.stand, t.in_range); value = omega (arith, linear) }
inner_indices loops row v e p = absurd (omega arith)

-- the parts of a view's difference
module _ (v : View) (p : SubscriptPair) (vector : List Direction) (fits : FitsLoops (length v.loops) (length v.source_inner) (length v.sink_inner) p) where
  abbrev common : ℤ → Type 0
  common x = CommonValue v.loops vector p.source.common p.sink.common x

  abbrev at_source : ℤ → Type 0
  at_source x = InnerValue v.source_inner p.source.inner x

  abbrev at_sink : ℤ → Type 0
  at_sink x = InnerValue v.sink_inner p.sink.inner x

  common_at : (at : Indices) → IsPoint v p vector at → common (dot p.source.common at.source -ℤ dot p.sink.common at.sink)
  common_at at q = common_value v.loops vector p.source.common p.sink.common at.source at.sink fits.source_common fits.sink_common q.indices.source q.indices.sink q.common

  source_at : (at : Indices) → IsPoint v p vector at → at_source (dot p.source.inner at.source_inner)
  source_at at q = inner_value v.source_inner p.source.inner at.source_inner fits.source_inner q.indices.source_inner q.source_inner

  sink_at : (at : Indices) → IsPoint v p vector at → at_sink (dot p.sink.inner at.sink_inner)
  sink_at at q = inner_value v.sink_inner p.sink.inner at.sink_inner fits.sink_inner q.indices.sink_inner q.sink_inner

  -- a part without values leaves no point
  pub no_common : ((x : ℤ) → ¬ (common x)) → (w : ℤ) → ¬ (DifferenceValue v p vector w)
  no_common none w (at, q, e) = none (dot p.source.common at.source -ℤ dot p.sink.common at.sink) (common_at at q)

  pub no_source : ((x : ℤ) → ¬ (at_source x)) → (w : ℤ) → ¬ (DifferenceValue v p vector w)
  no_source none w (at, q, e) = none (dot p.source.inner at.source_inner) (source_at at q)

  pub no_sink : ((x : ℤ) → ¬ (at_sink x)) → (w : ℤ) → ¬ (DifferenceValue v p vector w)
  no_sink none w (at, q, e) = none (dot p.sink.inner at.sink_inner) (sink_at at q)

  -- values of the parts are those of a point
  reached : (x y z w : ℤ) → common x → at_source y → at_sink z → x +ℤ y -ℤ z +ℤ (p.source.constant -ℤ p.sink.constant) ≡ w → DifferenceValue v p vector w
  reached x y z w a b c e =
      let s = common_indices v.loops vector p.source.common p.sink.common x fits.source_common fits.sink_common a in
      let t = inner_indices v.source_inner p.source.inner y fits.source_inner b in
      let u = inner_indices v.sink_inner p.sink.inner z fits.sink_inner c in
      let sx = s.value in
      let ty = t.value in
      let uz = u.value in (
        record { source = s.is; sink = s.js; source_inner = t.xs; sink_inner = u.xs },
        record {
          indices = record { source = s.source_long; sink = s.sink_long; source_inner = t.long; sink_inner = u.long };
          common = s.in_range;
          source_inner = t.in_range;
          sink_inner = u.in_range;
        },
        omega (arith, linear),
      )

  -- the extremes of the difference, from those of its parts
  pub difference_extreme : (cl ch sl sh kl kh n l h : ℤ) → Extreme common cl ch → Extreme at_source sl sh → Extreme at_sink kl kh → n ≡ p.source.constant -ℤ p.sink.constant → l ≡ cl +ℤ sl -ℤ kh +ℤ n → h ≡ ch +ℤ sh -ℤ kl +ℤ n → Extreme (DifferenceValue v p vector) l h
  difference_extreme cl ch sl sh kl kh n l h a b c en el eh = record {
    least = reached cl sl kh l a.least b.least c.greatest (omega (arith, linear));
    greatest = reached ch sh kl h a.greatest b.greatest c.least (omega (arith, linear));
    between = λ w (at, q, e).
        let x = a.between (dot p.source.common at.source -ℤ dot p.sink.common at.sink) (common_at at q) in
        let y = b.between (dot p.source.inner at.source_inner) (source_at at q) in
        let z = c.between (dot p.sink.inner at.sink_inner) (sink_at at q) in
        (omega (arith, linear, x, y, z, e), omega (arith, linear, x, y, z, e));
  }

-- the code's test of two numbers
pub lt_decided : (a b : ℤ) → IsTrue (lt_z a b) ↔ (a <ℤ b)
lt_decided a b = (λ t. to t, λ h. from h)
  where
    to : IsTrue (lt_z a b) → a <ℤ b
    to t = grind (arith, ints)

    from : a <ℤ b → IsTrue (lt_z a b)
    from h = grind (arith, ints)

-- zero and the extremes of the difference
module _ (v : View) (p : SubscriptPair) (vector : List Direction) where
  pub beyond_nothing : ((w : ℤ) → ¬ (DifferenceValue v p vector w)) → IsBeyondExtremes v p vector
  beyond_nothing none low high a b x y = none (difference p low) (low, a, refl)

  module _ (l h : ℤ) (extreme : Extreme (DifferenceValue v p vector) l h) where
    pub beyond_least : pos 0 <ℤ l → IsBeyondExtremes v p vector
    beyond_least k low high a b x y = let s = extreme.between (difference p low) (low, a, refl) in omega (arith, linear, s)

    pub beyond_greatest : h <ℤ pos 0 → IsBeyondExtremes v p vector
    beyond_greatest k low high a b x y = let s = extreme.between (difference p high) (high, b, refl) in omega (arith, linear, s)

    pub not_beyond : l ≤ℤ pos 0 → pos 0 ≤ℤ h → ¬ (IsBeyondExtremes v p vector)
    not_beyond k m beyond =
        let (low, a, e) = extreme.least in
        let (high, b, f) = extreme.greatest in
        beyond low high a b (omega (arith, linear)) (omega (arith, linear))

    -- the second half of the code's test, where the first fails
    pub beyond_decided : l ≤ℤ pos 0 → IsTrue (lt_z h (pos 0)) ↔ IsBeyondExtremes v p vector
    beyond_decided k =
        let d = lt_decided h (pos 0) in
        (λ x. beyond_greatest (d.0 x), λ b. d.1 (by_lt_z h (pos 0) (λ m. m) (λ m. absurd (not_beyond k m b))))
