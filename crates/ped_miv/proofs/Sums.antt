-- Sums of what the loops of a front add, and of what those behind it add, and the bounds of these over all directions.
use Rattle.std.proofs.Common.{◌≡◌, ◌↔◌, ℕ, ◌+◌, ◌-◌, ◌*◌, ◌^◌, ◌<◌, ◌≤◌, refl, sym, ap, subst, ◌∙◌, arith, ℤ, pos, ◌+ℤ◌, ◌-ℤ◌, List, [], ◌∷◌, ◌++◌, length, drop, get_or, Some, None, unsigned_abs, false, inl, inr, ◌≤ℤ◌, ◌<ℤ◌, replicate, Option, IsTrue, FitsSigned}
use Rattle.std.proofs.lemmas.List.{append-nil, append_assoc, length_push, get_or_default, length-replicate}
use Rattle.ped_views.specs.declared.directions.Direction.{Direction}
use Rattle.ped_views.specs.declared.intervals.Interval.{Interval}
use Rattle.ped_views.specs.Intervals.{IsWithin, IsImageOfBoth}
use Rattle.ped_views.specs.Limits.{FitsLoops}
use Rattle.ped_views.specs.Views.{Range, range, SubscriptPair, View}
use Rattle.ped_views.proofs.Products.{linear}
use Rattle.ped_views.proofs.Images.{add_ends, min_one, max_one}
use Rattle.ped_miv.specs.declared.parts.LoopParts.{LoopParts}
use Rattle.ped_miv.specs.Values.{Extreme, AreExtremes, Plus, LoopValue, CommonValue, InnerValue, DifferenceValue}
use Rattle.ped_miv.specs.Parts.{IsPart, ArePartsAt, CommonFrom, IsRest, IsSum, MaySum, part_of}
use Rattle.ped_miv.proofs.Ahead.{Ahead, Ahead-step, Ahead-stop, within_step}
use Rattle.ped_miv.proofs.Extremal.{extreme_plus}
use Rattle.ped_miv.proofs.Parted.{in_direction}
use Rattle.ped_miv.proofs.Points.{no_common, no_source, no_sink, difference_extreme, beyond_nothing, beyond_least, beyond_greatest, not_beyond, lt_decided}
use Rattle.ped_miv.proofs.Steps.{here, past}
use Rattle.std.specs.Int.{int_max, int_min, w128}
use lib.Signed.{lt_z}
use Rattle.std.proofs.lemmas.Int.{clamps, by_lt_z}
use Rattle.ped_views.specs.declared.directions.Direction.TheVariants.{Before, Same, After}
use Rattle.ped_views.specs.Excluded.{IsBeyondExtremes}
use Rattle.ped_miv.specs.declared.bounds.Bounds.{Bounds}
use Rattle.ped_miv.specs.Bounds.{BoundsLoop, AreDirectionsFrom, BoundsFrom, MayBound}

extreme_at : (P : ℤ → Type 0) (l h m n : ℤ) → l ≡ m → h ≡ n → Extreme P l h → Extreme P m n
extreme_at P l h m n e f x = subst (λ (y : ℤ). Extreme P m y) f (subst (λ (y : ℤ). Extreme P y h) e x)

-- a sum within a bound is so within a greater one
pub wider : (n m : ℕ) (x : Interval) → n ≤ m → IsWithin n x → IsWithin m x
wider n m x h w = record { ordered = w.ordered; lo_small = let s = w.lo_small in omega arith; hi_small = let s = w.hi_small in omega arith }

-- nothing is left behind the last loop
pub rest_none : (v : View) (p : SubscriptPair) (x : Interval) → x.lo ≡ pos 0 → x.hi ≡ pos 0 → IsRest v p (length v.loops) (Some x)
rest_none v p x e f = record {
  extremes = record {
    least = at x.lo e;
    greatest = at x.hi f;
    between = λ w h. let z = from w h in (omega (arith, linear), omega (arith, linear));
  };
  small = record { ordered = omega (arith, linear); lo_small = omega (arith, linear); hi_small = omega (arith, linear) };
}
  where
    none : drop (length v.loops) v.loops ≡ []
    none = past v.loops (length v.loops) (omega arith)

    at : (w : ℤ) → w ≡ pos 0 → CommonFrom v p (length v.loops) [] w
    at w z = subst (λ (xs : List Range). CommonValue xs [] (drop (length v.loops) p.source.common) (drop (length v.loops) p.sink.common) w) (sym none) z

    from : (w : ℤ) → CommonFrom v p (length v.loops) [] w → w ≡ pos 0
    from w h = subst (λ (xs : List Range). CommonValue xs [] (drop (length v.loops) p.source.common) (drop (length v.loops) p.sink.common) w) none h

module _ (v : View) (p : SubscriptPair) (fits : FitsLoops (length v.loops) (length v.source_inner) (length v.sink_inner) p) where
  -- the loop at a place, and those behind it
  module _ (k : ℕ) (below : k < length v.loops) where
    abbrev r : Range
    r = get_or v.loops k (range (pos 0) (pos 0) (pos 1) false)

    abbrev a : ℤ
    a = get_or p.source.common k (pos 0)

    abbrev b : ℤ
    b = get_or p.sink.common k (pos 0)

    its : r ≡ get_or v.loops k r
    its = get_or_default v.loops k (range (pos 0) (pos 0) (pos 1) false) r below

    in_row : (row : List ℤ) → length row ≡ length v.loops → drop k row ≡ get_or row k (pos 0) ∷ drop (k + 1) row
    in_row row e = here row k (pos 0) (get_or row k (pos 0)) (omega arith) refl

    split : (vector : List Direction) (w : ℤ) → CommonFrom v p k vector w ≡ CommonValue (r ∷ drop (k + 1) v.loops) vector (a ∷ drop (k + 1) p.source.common) (b ∷ drop (k + 1) p.sink.common) w
    split vector w =
        ap (λ (xs : List Range). CommonValue xs vector (drop k p.source.common) (drop k p.sink.common) w) (here v.loops k r r below its)
        ∙ ap (λ (xs : List ℤ). CommonValue (r ∷ drop (k + 1) v.loops) vector xs (drop k p.sink.common) w) (in_row p.source.common fits.source_common)
        ∙ ap (λ (xs : List ℤ). CommonValue (r ∷ drop (k + 1) v.loops) vector (a ∷ drop (k + 1) p.source.common) xs w) (in_row p.sink.common fits.sink_common)

    opens : (d : Direction) (vector : List Direction) (w : ℤ) → CommonFrom v p k (d ∷ vector) w ↔ Plus (LoopValue r (Some d) a b) (CommonFrom v p (k + 1) vector) w
    opens d vector w = (λ x. subst (λ (X : Type 0). X) (split (d ∷ vector) w) x, λ x. subst (λ (X : Type 0). X) (sym (split (d ∷ vector) w)) x)

    opens_any : (w : ℤ) → CommonFrom v p k [] w ↔ Plus (LoopValue r None a b) (CommonFrom v p (k + 1) []) w
    opens_any w = (λ x. subst (λ (X : Type 0). X) (split [] w) x, λ x. subst (λ (X : Type 0). X) (sym (split [] w)) x)

    module _ (parts : LoopParts) (are : ArePartsAt v.loops p.source.common p.sink.common k parts) where
      -- the loops from the place on in any directions
      pub rest_stops : IsRest v p (k + 1) None → IsRest v p k None
      rest_stops h = record { extremes = λ w x. let s = (opens_any w).0 x in h.extremes s.1 s.3; small = tt }

      pub rest_lacks : parts.any ≡ None → IsRest v p k None
      rest_lacks e = record {
        extremes = λ w x. let s = (opens_any w).0 x in subst (AreExtremes (LoopValue r None a b)) e (are r its).any.extremes s.0 s.2;
        small = tt;
      }

      pub any_small : (one : Interval) → parts.any ≡ Some one → IsWithin (2 ^ 125) one
      any_small one e = wider (2 ^ 94) (2 ^ 125) one (omega arith) (subst (IsPart r None a b) e (are r its).any).small

      pub rest_grows : (behind one more : Interval) → k < 6 → parts.any ≡ Some one → IsRest v p (k + 1) (Some behind) → IsImageOfBoth (λ x. λ y. x +ℤ y) behind one more → IsRest v p k (Some more)
      rest_grows behind one more few e h image =
          let part : IsPart r None a b (Some one) = subst (IsPart r None a b) e (are r its).any in
          let ends = add_ends behind one more h.small.ordered part.small.ordered image in
          let both = extreme_plus (LoopValue r None a b) (CommonFrom v p (k + 1) []) one.lo one.hi behind.lo behind.hi part.extremes h.extremes in
          let count : (6 - k) * 2 ^ 94 ≡ (6 - (k + 1) + 1) * 2 ^ 94 = ap (λ (n : ℕ). n * 2 ^ 94) (omega arith) in
          record {
            extremes = extreme_at (CommonFrom v p k []) (one.lo +ℤ behind.lo) (one.hi +ℤ behind.hi) more.lo more.hi (omega (arith, linear)) (omega (arith, linear))
                (record { least = (opens_any (one.lo +ℤ behind.lo)).1 both.least; greatest = (opens_any (one.hi +ℤ behind.hi)).1 both.greatest; between = λ w x. both.between w ((opens_any w).0 x) });
            small = within_step (2 ^ 94) (6 - (k + 1)) ((6 - k) * 2 ^ 94) behind one more h.small part.small image count;
          }

  -- a direction of one more loop
  module _ (front : List Direction) (sum : Interval) (h : IsSum v p front sum) (d : Direction) (below : length front < length v.loops) (parts : LoopParts) (are : ArePartsAt v.loops p.source.common p.sink.common (length front) parts) where
    part : IsPart (r (length front) below) (Some d) (a (length front) below) (b (length front) below) (part_of d parts)
    part = in_direction (r (length front) below) (a (length front) below) (b (length front) below) parts (are (r (length front) below) (its (length front) below)) d

    pub part_small : (one : Interval) → part_of d parts ≡ Some one → IsWithin (2 ^ 125) one
    part_small one e = wider (2 ^ 94) (2 ^ 125) one (omega arith) (subst (IsPart (r (length front) below) (Some d) (a (length front) below) (b (length front) below)) e part).small

    ahead : (rest : List Direction) → Ahead (DifferenceValue v p (front ++ d ∷ rest)) (CommonFrom v p (length front) (d ∷ rest)) sum
    ahead rest = record { some = h.some (d ∷ rest); none = h.none (d ∷ rest) }

    joined : (rest : List Direction) → (front ++ d ∷ []) ++ rest ≡ front ++ d ∷ rest
    joined rest = append_assoc front (d ∷ []) rest

    longer : length front + 1 ≡ length (front ++ d ∷ [])
    longer = let l = length_push front d in omega arith

    pub sum_stops : part_of d parts ≡ None → MaySum v p (front ++ d ∷ []) None
    sum_stops e rest x =
        let none = subst (AreExtremes (LoopValue (r (length front) below) (Some d) (a (length front) below) (b (length front) below))) e part.extremes in
        subst (λ (xs : List Direction). ¬ (DifferenceValue v p xs x)) (sym (joined rest))
        (Ahead-stop (DifferenceValue v p (front ++ d ∷ rest)) (CommonFrom v p (length front) (d ∷ rest)) (LoopValue (r (length front) below) (Some d) (a (length front) below) (b (length front) below)) (CommonFrom v p (length front + 1) rest) sum (ahead rest) (opens (length front) below d rest) none x)

    module _ (one more : Interval) (e : part_of d parts ≡ Some one) (image : IsImageOfBoth (λ x. λ y. x +ℤ y) sum one more) where
      its_part : IsPart (r (length front) below) (Some d) (a (length front) below) (b (length front) below) (Some one)
      its_part = subst (IsPart (r (length front) below) (Some d) (a (length front) below) (b (length front) below)) e part

      on : (rest : List Direction) → Ahead (DifferenceValue v p ((front ++ d ∷ []) ++ rest)) (CommonFrom v p (length (front ++ d ∷ [])) rest) more
      on rest =
          subst (λ (xs : List Direction). Ahead (DifferenceValue v p xs) (CommonFrom v p (length (front ++ d ∷ [])) rest) more) (sym (joined rest))
          (subst (λ (k : ℕ). Ahead (DifferenceValue v p (front ++ d ∷ rest)) (CommonFrom v p k rest) more) longer
          (Ahead-step (DifferenceValue v p (front ++ d ∷ rest)) (CommonFrom v p (length front) (d ∷ rest)) (LoopValue (r (length front) below) (Some d) (a (length front) below) (b (length front) below)) (CommonFrom v p (length front + 1) rest) sum (ahead rest) (opens (length front) below d rest)
          ((32 + length front) * 2 ^ 94) (2 ^ 94) one more h.small its_part.small its_part.extremes image))

      pub sum_grows : MaySum v p (front ++ d ∷ []) (Some more)
      sum_grows = record {
        some = λ rest. (on rest).some;
        none = λ rest. (on rest).none;
        small = within_step (2 ^ 94) (32 + length front) ((32 + length (front ++ d ∷ [])) * 2 ^ 94) sum one more h.small its_part.small image (ap (λ (n : ℕ). n * 2 ^ 94) (let l = longer in omega arith));
      }

  -- before the first direction
  pub start_lacks_source : ((x : ℤ) → ¬ (InnerValue v.source_inner p.source.inner x)) → MaySum v p [] None
  start_lacks_source none rest x = no_source v p rest fits none x

  pub start_lacks_sink : ((x : ℤ) → ¬ (InnerValue v.sink_inner p.sink.inner x)) → MaySum v p [] None
  start_lacks_sink none rest x = no_sink v p rest fits none x

  pub start_sum : (s k sum : Interval) (n : ℤ) → AreExtremes (InnerValue v.source_inner p.source.inner) (Some s) → AreExtremes (InnerValue v.sink_inner p.sink.inner) (Some k) → IsWithin (2 ^ 97) s → IsWithin (2 ^ 97) k → n ≡ p.source.constant -ℤ p.sink.constant → unsigned_abs n < 2 ^ 64
      → sum.lo ≡ pos 0 +ℤ s.lo -ℤ k.hi +ℤ n → sum.hi ≡ pos 0 +ℤ s.hi -ℤ k.lo +ℤ n → MaySum v p [] (Some sum)
  start_sum s k sum n at_source at_sink ws wk en small el eh = record {
    some = λ rest l h e. difference_extreme v p rest fits l h s.lo s.hi k.lo k.hi n (sum.lo +ℤ l) (sum.hi +ℤ h) e at_source at_sink en (omega (arith, linear)) (omega (arith, linear));
    none = λ rest none. no_common v p rest fits none;
    small =
        let a = ws.ordered in
        let b = wk.ordered in
        record { ordered = omega (arith, linear); lo_small = omega (arith, linear, ws.lo_small, wk.hi_small); hi_small = omega (arith, linear, ws.hi_small, wk.lo_small) };
  }

-- the sum of a front is small
pub sum_small : (v : View) (p : SubscriptPair) (front : List Direction) (sum : Interval) → IsSum v p front sum → length front ≤ 6 → IsWithin (2 ^ 125) sum
sum_small v p front sum h few = wider ((32 + length front) * 2 ^ 94) (2 ^ 125) sum (omega arith) h.small

-- the sum of a front and what is behind it
module _ (v : View) (p : SubscriptPair) (front : List Direction) (sum : Interval) (h : IsSum v p front sum) where
  pub total_none : IsRest v p (length front) None → AreExtremes (DifferenceValue v p front) None
  total_none r w x = h.none [] r.extremes w (subst (λ (xs : List Direction). DifferenceValue v p xs w) (sym (append-nil front)) x)

  pub total_some : (behind total : Interval) → IsRest v p (length front) (Some behind) → IsImageOfBoth (λ x. λ y. x +ℤ y) sum behind total → AreExtremes (DifferenceValue v p front) (Some total)
  total_some behind total r image =
      let ends = add_ends sum behind total h.small.ordered r.small.ordered image in
      subst (λ (xs : List Direction). Extreme (DifferenceValue v p xs) total.lo total.hi) (append-nil front)
      (extreme_at (DifferenceValue v p (front ++ [])) (sum.lo +ℤ behind.lo) (sum.hi +ℤ behind.hi) total.lo total.hi (omega (arith, linear)) (omega (arith, linear)) (h.some [] behind.lo behind.hi r.extremes))

-- the bounds of a loop, from what it adds in each direction
module _ (parts : LoopParts) (x y z : Interval) (w : Bounds) (ex : part_of Before parts ≡ Some x) (ey : part_of Same parts ≡ Some y) (ez : part_of After parts ≡ Some z) (lo : w.lo ≡ int_max (int_max x.lo y.lo) z.lo) (hi : w.hi ≡ int_min (int_min x.hi y.hi) z.hi) where
  in_each : (d : Direction) → (i : Interval) × (part_of d parts ≡ Some i) × (i.lo ≤ℤ w.lo) × (w.hi ≤ℤ i.hi)
  in_each Before = (x, ex, omega (arith, linear, clamps), omega (arith, linear, clamps))
  in_each Same = (y, ey, omega (arith, linear, clamps), omega (arith, linear, clamps))
  in_each After = (z, ez, omega (arith, linear, clamps), omega (arith, linear, clamps))

  pub bounds_loop : BoundsLoop parts w
  bounds_loop = record {
    each = in_each;
    lo = elim (max_one (int_max x.lo y.lo) z.lo) [
      | inl e ↦ elim (max_one x.lo y.lo) [ inl f ↦ (Before, x, ex, sym (lo ∙ e ∙ f)) | inr f ↦ (Same, y, ey, sym (lo ∙ e ∙ f)) ]
      | inr e ↦ (After, z, ez, sym (lo ∙ e))
    ];
    hi = elim (min_one (int_min x.hi y.hi) z.hi) [
      | inl e ↦ elim (min_one x.hi y.hi) [ inl f ↦ (Before, x, ex, sym (hi ∙ e ∙ f)) | inr f ↦ (Same, y, ey, sym (hi ∙ e ∙ f)) ]
      | inr e ↦ (After, z, ez, sym (hi ∙ e))
    ];
  }

-- behind the last loop
module _ (v : View) (p : SubscriptPair) (w : Bounds) (lo : w.lo ≡ pos 0) (hi : w.hi ≡ pos 0) where
  nothing : Extreme (CommonFrom v p (length v.loops) []) w.lo w.hi
  nothing =
      let h = rest_none v p (record { lo = pos 0; hi = pos 0 }) refl refl in
      extreme_at (CommonFrom v p (length v.loops) []) (pos 0) (pos 0) w.lo w.hi (sym lo) (sym hi) h.extremes

  none_behind : (rest : List Direction) → AreDirectionsFrom v (length v.loops) rest → (l : ℤ) × (h : ℤ) × Extreme (CommonFrom v p (length v.loops) rest) l h × (l ≤ℤ w.lo) × (w.hi ≤ℤ h)
  none_behind [] e = (w.lo, w.hi, nothing, omega (arith, linear), omega (arith, linear))
  none_behind (d ∷ rest) e = absurd (omega (arith, e))

  pub bounds_none : MayBound v p (length v.loops) (Some w)
  bounds_none = record {
    each = none_behind;
    lo = ([], omega arith, w.hi, nothing);
    hi = ([], omega arith, w.lo, nothing);
    lo_small = omega (arith, linear, lo);
    hi_small = omega (arith, linear, hi);
  }

module _ (v : View) (p : SubscriptPair) (fits : FitsLoops (length v.loops) (length v.source_inner) (length v.sink_inner) p) (k : ℕ) (below : k < length v.loops) (parts : LoopParts) (are : ArePartsAt v.loops p.source.common p.sink.common k parts) where
  abbrev Here : Direction → ℤ → Type 0
  Here d = LoopValue (r v p fits k below) (Some d) (a v p fits k below) (b v p fits k below)

  part_here : (d : Direction) → IsPart (r v p fits k below) (Some d) (a v p fits k below) (b v p fits k below) (part_of d parts)
  part_here d = in_direction (r v p fits k below) (a v p fits k below) (b v p fits k below) parts (are (r v p fits k below) (its v p fits k below)) d

  -- some directions behind the loop have no values
  pub bounds_stop : MayBound v p (k + 1) None → MayBound v p k None
  bounds_stop (rest, e, none) = (Same ∷ rest, omega (arith, e), λ x c. let s = (opens v p fits k below Same rest x).0 c in none s.1 s.3)

  -- the loop has no values in some direction
  pub bounds_lack : (d : Direction) → part_of d parts ≡ None → MayBound v p k None
  bounds_lack d e =
      let others = replicate (length v.loops - (k + 1)) Same in
      let l : length others ≡ length v.loops - (k + 1) = length-replicate (length v.loops - (k + 1)) Same in
      let none = subst (AreExtremes (Here d)) e (part_here d).extremes in
      (d ∷ others, omega (arith, l, below), λ x c. let s = (opens v p fits k below d others x).0 c in none s.0 s.2)

  small_here : (d : Direction) (x : Interval) → part_of d parts ≡ Some x → (unsigned_abs x.lo ≤ 2 ^ 94) × (unsigned_abs x.hi ≤ 2 ^ 94)
  small_here d x e =
      let part : IsPart (r v p fits k below) (Some d) (a v p fits k below) (b v p fits k below) (Some x) = subst (IsPart (r v p fits k below) (Some d) (a v p fits k below) (b v p fits k below)) e (part_here d) in
      (part.small.lo_small, part.small.hi_small)

  -- the bounds of the loop are small, and so are their sums with those of the loops behind it
  module _ (one behind : Bounds) (own : BoundsLoop parts one) (after : BoundsFrom v p (k + 1) behind) where
    pub grown_small : (unsigned_abs (behind.lo +ℤ one.lo) ≤ 2 ^ 100) × (unsigned_abs (behind.hi +ℤ one.hi) ≤ 2 ^ 100)
    grown_small =
        let (d, x, ex, xl) = own.lo in
        let (c, y, ey, yh) = own.hi in
        let xs = (small_here d x ex).0 in
        let ys = (small_here c y ey).1 in
        let s = after.lo_small in
        let t = after.hi_small in
        (omega (arith, linear, s, xs, xl), omega (arith, linear, t, ys, yh))

  module _ (one behind more : Bounds) (own : BoundsLoop parts one) (after : BoundsFrom v p (k + 1) behind) (lo : more.lo ≡ behind.lo +ℤ one.lo) (hi : more.hi ≡ behind.hi +ℤ one.hi) where
    -- the extremes in a direction of the loop and directions behind it
    together : (d : Direction) (rest : List Direction) (x : Interval) (l h : ℤ) → part_of d parts ≡ Some x → Extreme (CommonFrom v p (k + 1) rest) l h → Extreme (CommonFrom v p k (d ∷ rest)) (x.lo +ℤ l) (x.hi +ℤ h)
    together d rest x l h e tail =
        let part : IsPart (r v p fits k below) (Some d) (a v p fits k below) (b v p fits k below) (Some x) = subst (IsPart (r v p fits k below) (Some d) (a v p fits k below) (b v p fits k below)) e (part_here d) in
        let both = extreme_plus (Here d) (CommonFrom v p (k + 1) rest) x.lo x.hi l h part.extremes tail in
        record {
          least = (opens v p fits k below d rest (x.lo +ℤ l)).1 both.least;
          greatest = (opens v p fits k below d rest (x.hi +ℤ h)).1 both.greatest;
          between = λ w c. both.between w ((opens v p fits k below d rest w).0 c);
        }

    each_longer : (rest : List Direction) → AreDirectionsFrom v k rest → (l : ℤ) × (h : ℤ) × Extreme (CommonFrom v p k rest) l h × (l ≤ℤ more.lo) × (more.hi ≤ℤ h)
    each_longer [] e = absurd (omega (arith, e, below))
    each_longer (d ∷ rest) e =
        let (x, ex, xl, xh) = own.each d in
        let (l, h, tail, tl, th) = after.each rest (omega (arith, e)) in
        (x.lo +ℤ l, x.hi +ℤ h, together d rest x l h ex tail, omega (arith, linear, xl, tl, lo), omega (arith, linear, xh, th, hi))

    pub bounds_grow : k < 6 → MayBound v p k (Some more)
    bounds_grow few =
        let (d, x, ex, xl) = own.lo in
        let (rest, e, h, tail) = after.lo in
        let (c, y, ey, yh) = own.hi in
        let (others, f, l, end) = after.hi in
        let count : (6 - k) * 2 ^ 94 ≡ (6 - (k + 1) + 1) * 2 ^ 94 = ap (λ (n : ℕ). n * 2 ^ 94) (omega (arith, few)) in
        let xs = (small_here d x ex).0 in
        let ys = (small_here c y ey).1 in
        record {
          each = each_longer;
          lo = (d ∷ rest, omega (arith, e), x.hi +ℤ h, extreme_at (CommonFrom v p k (d ∷ rest)) (x.lo +ℤ behind.lo) (x.hi +ℤ h) more.lo (x.hi +ℤ h) (omega (arith, linear, xl, lo)) refl (together d rest x behind.lo h ex tail));
          hi = (c ∷ others, omega (arith, f), y.lo +ℤ l, extreme_at (CommonFrom v p k (c ∷ others)) (y.lo +ℤ l) (y.hi +ℤ behind.hi) (y.lo +ℤ l) more.hi refl (omega (arith, linear, yh, hi)) (together c others y l behind.hi ey end));
          lo_small = let s = after.lo_small in omega (arith, linear, count, s, xs, xl, lo);
          hi_small = let s = after.hi_small in omega (arith, linear, count, s, ys, yh, hi);
        }

-- the vectors with a front
module _ (v : View) (p : SubscriptPair) (front : List Direction) (sum : Interval) (h : IsSum v p front sum) where
  abbrev pub SomeBeyond : Type 0
  SomeBeyond = (rest : List Direction) × (length rest + length front ≡ length v.loops) × IsBeyondExtremes v p (front ++ rest)

  pub some_without : MayBound v p (length front) None → SomeBeyond
  some_without (rest, e, none) = (rest, e, beyond_nothing v p (front ++ rest) (h.none rest none))

  module _ (w : Bounds) (bounds : BoundsFrom v p (length front) w) where
    pub total_small : length front ≤ 6 → (unsigned_abs (sum.lo +ℤ w.lo) ≤ 2 ^ 100) × (unsigned_abs (sum.hi +ℤ w.hi) ≤ 2 ^ 100)
    total_small few =
        let sl = h.small.lo_small in
        let sh = h.small.hi_small in
        let wl = bounds.lo_small in
        let wh = bounds.hi_small in
        (omega (arith, linear, sl, wl, few), omega (arith, linear, sh, wh, few))

    pub some_above : pos 0 <ℤ (sum.lo +ℤ w.lo) → SomeBeyond
    some_above more =
        let (rest, e, top, x) = bounds.lo in
        (rest, e, beyond_least v p (front ++ rest) (sum.lo +ℤ w.lo) (sum.hi +ℤ top) (h.some rest w.lo top x) more)

    pub some_below : (sum.hi +ℤ w.hi) <ℤ pos 0 → SomeBeyond
    some_below less =
        let (rest, e, low, x) = bounds.hi in
        (rest, e, beyond_greatest v p (front ++ rest) (sum.lo +ℤ low) (sum.hi +ℤ w.hi) (h.some rest low w.hi x) less)

    none_beyond : (sum.lo +ℤ w.lo) ≤ℤ pos 0 → pos 0 ≤ℤ (sum.hi +ℤ w.hi) → ¬ SomeBeyond
    none_beyond from to (rest, e, beyond) =
        let (low, top, x, l, t) = bounds.each rest e in
        not_beyond v p (front ++ rest) (sum.lo +ℤ low) (sum.hi +ℤ top) (h.some rest low top x) (omega (arith, linear, from, l)) (omega (arith, linear, to, t)) beyond

    -- the second half of the code's test, where the first fails
    pub some_decided : (sum.lo +ℤ w.lo) ≤ℤ pos 0 → IsTrue (lt_z (sum.hi +ℤ w.hi) (pos 0)) ↔ SomeBeyond
    some_decided from =
        let d = lt_decided (sum.hi +ℤ w.hi) (pos 0) in
        (λ x. some_below (d.0 x), λ b. d.1 (by_lt_z (sum.hi +ℤ w.hi) (pos 0) (λ m. m) (λ m. absurd (none_beyond from m b))))

-- so small a number fits 128 bits
pub short : (x : ℤ) → unsigned_abs x ≤ 2 ^ 100 → FitsSigned w128 x
short x s = omega (arith, linear, s)
