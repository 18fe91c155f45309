-- Points at which two subscripts are equal: index values of one common loop that meet are those of a point.
use Rattle.std.proofs.Common.{◌≡◌, ℕ, zero, suc, ◌+◌, ℤ, pos, ◌+ℤ◌, ◌*ℤ◌, List, [], ◌∷◌, length, replicate, slice_index_or, Bool, true, false, ◌&&◌, not, refl, sym, ap, ◌∙◌, inl, inr, arith}
use Rattle.std.specs.List.{list_any}
use Rattle.std.proofs.Math.IntN.{zero-*ℤ, *ℤ-zero}
use Rattle.std.proofs.lemmas.Bool.{cases_Bool}
use Rattle.std.proofs.lemmas.List.{length-replicate}
use Rattle.ped_views.specs.declared.directions.Direction.{Direction}
use Rattle.ped_views.specs.declared.directions.Direction.TheVariants.{Same}
use Rattle.ped_views.specs.Whole.{is_zero}
use Rattle.ped_views.specs.Views.{Range, range, SubscriptPair, View}
use Rattle.ped_views.specs.Forms.{Occurrence, occurring, occurrences, has_inner}
use Rattle.ped_views.specs.Limits.{IsPosition}
use Rattle.ped_views.specs.Excluded.{InRange, Stands, Indices, dot, difference, CommonInRange, InnerInRange, IsPoint}
use Rattle.ped_views.proofs.Products.{linear}
use Rattle.ped_verdict.proofs.FormFacts.{both, neither, zero_is, occurring-none, occurring-some, occurs, IsOne}

-- one index value for each coefficient
abbrev pub all_at : ℤ → List ℤ → List ℤ
all_at i row = replicate (length row) i

pub nothing : (a i : ℤ) → is_zero a ≡ true → a *ℤ i ≡ pos 0
nothing a i z = ap (λ (x : ℤ). x *ℤ i) (zero_is a z) ∙ zero-*ℤ i

-- loops whose index doesn't occur
pub dot_zeros : (row : List ℤ) → dot row (all_at (pos 0) row) ≡ pos 0
dot_zeros [] = refl
dot_zeros (a ∷ row) = let z = *ℤ-zero a in let h = dot_zeros row in omega (arith, linear)

pub inner_free : (loops : List Range) (row : List ℤ) → list_any (λ a. not (is_zero a)) row ≡ false → InnerInRange loops row (all_at (pos 0) row)
inner_free [] row e = tt
inner_free (r ∷ loops) [] e = tt
inner_free (r ∷ loops) (a ∷ row) e =
    let h = neither (not (is_zero a)) (list_any (λ b. not (is_zero b)) row) e in
    (inl (was_zero (is_zero a) h.0), inner_free loops row h.1)
  where
    was_zero : (z : Bool) → not z ≡ false → z ≡ true
    was_zero true e = refl
    was_zero false e = absurd (cc)

module _ (i j : ℤ) where
  no_rows : (loops : List Range) (vector : List Direction) (is js : List ℤ) → CommonInRange loops vector [] [] is js
  no_rows [] vector is js = tt
  no_rows (r ∷ loops) [] is js = tt
  no_rows (r ∷ loops) (d ∷ vector) is js = tt

  -- both sides of loops that don't occur
  pub record Free (source sink : List ℤ) : Type 0 where
    pub at_source : dot source (all_at i source) ≡ pos 0
    pub at_sink : dot sink (all_at j sink) ≡ pos 0
    pub in_range : (loops : List Range) (vector : List Direction) → CommonInRange loops vector source sink (all_at i source) (all_at j sink)

  free_step : (a b : ℤ) (source sink is js : List ℤ) → (is_zero a && is_zero b) ≡ true → ((loops : List Range) (vector : List Direction) → CommonInRange loops vector source sink is js) → (loops : List Range) (vector : List Direction) → CommonInRange loops vector (a ∷ source) (b ∷ sink) (i ∷ is) (j ∷ js)
  free_step a b source sink is js z h [] vector = tt
  free_step a b source sink is js z h (r ∷ loops) [] = (inl z, h loops [])
  free_step a b source sink is js z h (r ∷ loops) (d ∷ vector) = (inl z, h loops vector)

  pub free : (k : ℕ) (source sink : List ℤ) → length source ≡ length sink → occurring k source sink ≡ [] → Free source sink
  free k [] [] l e = record { at_source = refl; at_sink = refl; in_range = λ loops vector. no_rows loops vector [] [] }
  free k [] (b ∷ sink) l e = absurd (omega arith)
  free k (a ∷ source) [] l e = absurd (omega arith)
  free k (a ∷ source) (b ∷ sink) l e =
      elim (cases_Bool (is_zero a && is_zero b)) [
        | inl z ↦
            let h = free (suc k) source sink (omega arith) (sym (occurring-none k a b source sink z) ∙ e) in
            let t = both (is_zero a) (is_zero b) z in
            let x = nothing a i t.0 in
            let y = nothing b j t.1 in
            let s = h.at_source in
            let u = h.at_sink in
            record { at_source = omega (arith, linear); at_sink = omega (arith, linear); in_range = free_step a b source sink (all_at i source) (all_at j sink) z h.in_range }
        | inr z ↦ let s = occurring-some k a b source sink z in absurd (cc)
      ]

  -- i and j lie in the range of the loop at place m, and stand in its direction
  pub record Stand (loops : List Range) (vector : List Direction) (m : ℕ) : Type 0 where
    pub source : InRange (slice_index_or loops m (range (pos 0) (pos 0) (pos 1) false)) i
    pub sink : InRange (slice_index_or loops m (range (pos 0) (pos 0) (pos 1) false)) j
    pub stands : Stands (slice_index_or loops m (range (pos 0) (pos 0) (pos 1) false)) (slice_index_or vector m Same) i j

  over : (a b : ℤ) (source sink is js : List ℤ) (m : ℕ) → (is_zero a && is_zero b) ≡ true → ((loops : List Range) (vector : List Direction) → Stand loops vector m → CommonInRange loops vector source sink is js) → (loops : List Range) (vector : List Direction) → Stand loops vector (suc m) → CommonInRange loops vector (a ∷ source) (b ∷ sink) (i ∷ is) (j ∷ js)
  over a b source sink is js m z h [] vector s = tt
  over a b source sink is js m z h (r ∷ loops) [] s = (inl z, h loops [] (record { source = s.source; sink = s.sink; stands = s.stands }))
  over a b source sink is js m z h (r ∷ loops) (d ∷ vector) s = (inl z, h loops vector (record { source = s.source; sink = s.sink; stands = s.stands }))

  here : (a b : ℤ) (source sink is js : List ℤ) → ((loops : List Range) (vector : List Direction) → CommonInRange loops vector source sink is js) → (loops : List Range) (vector : List Direction) → Stand loops vector 0 → CommonInRange loops vector (a ∷ source) (b ∷ sink) (i ∷ is) (j ∷ js)
  here a b source sink is js h [] vector s = tt
  here a b source sink is js h (r ∷ loops) [] s = (inr (s.source, s.sink), h loops [])
  here a b source sink is js h (r ∷ loops) (d ∷ vector) s = (inr (s.source, s.sink, s.stands), h loops vector)

  -- both sides of loops of which one occurs
  pub record Alone (o : Occurrence) (m : ℕ) (source sink : List ℤ) : Type 0 where
    pub at_source : dot source (all_at i source) ≡ o.at_source *ℤ i
    pub at_sink : dot sink (all_at j sink) ≡ o.at_sink *ℤ j
    pub in_range : (loops : List Range) (vector : List Direction) → Stand loops vector m → CommonInRange loops vector source sink (all_at i source) (all_at j sink)

  alone_ahead : (a b : ℤ) (o : Occurrence) (m : ℕ) (source sink : List ℤ) → (is_zero a && is_zero b) ≡ true → Alone o m source sink → Alone o (suc m) (a ∷ source) (b ∷ sink)
  alone_ahead a b o m source sink z h =
      let t = both (is_zero a) (is_zero b) z in
      let x = nothing a i t.0 in
      let y = nothing b j t.1 in
      let s = h.at_source in
      let u = h.at_sink in
      record { at_source = omega (arith, linear); at_sink = omega (arith, linear); in_range = over a b source sink (all_at i source) (all_at j sink) m z h.in_range }

  pub alone : (k m : ℕ) (source sink : List ℤ) (o : Occurrence) → length source ≡ length sink → occurring k source sink ≡ o ∷ [] → o.place ≡ k + m → Alone o m source sink
  alone k m [] sink o l e p = absurd (cc)
  alone k m (a ∷ source) [] o l e p = absurd (omega arith)
  alone k zero (a ∷ source) (b ∷ sink) o l e p =
      elim (cases_Bool (is_zero a && is_zero b)) [
        | inl z ↦ let h = occurs (suc k) source sink o [] (sym (occurring-none k a b source sink z) ∙ e) in let f = h.from in absurd (omega arith)
        | inr z ↦
            let s = sym (occurring-some k a b source sink z) ∙ e in
            let x : (record { place = k; at_source = a; at_sink = b }) ≡ o = cc in
            let none : occurring (suc k) source sink ≡ [] = cc in
            let h = free (suc k) source sink (omega arith) none in
            let ia = ap (λ (q : Occurrence). q.at_source *ℤ i) x in
            let jb = ap (λ (q : Occurrence). q.at_sink *ℤ j) x in
            let u = h.at_source in
            let w = h.at_sink in
            record { at_source = omega (arith, linear); at_sink = omega (arith, linear); in_range = here a b source sink (all_at i source) (all_at j sink) h.in_range }
      ]
  alone k (suc m) (a ∷ source) (b ∷ sink) o l e p =
      elim (cases_Bool (is_zero a && is_zero b)) [
        | inl z ↦ alone_ahead a b o m source sink z (alone (suc k) m source sink o (omega arith) (sym (occurring-none k a b source sink z) ∙ e) (omega arith))
        | inr z ↦
            let s = sym (occurring-some k a b source sink z) ∙ e in
            let x : (record { place = k; at_source = a; at_sink = b }) ≡ o = cc in
            let q = ap (λ (y : Occurrence). y.place) x in
            absurd (omega arith)
      ]

-- a point of the view at which the subscripts are equal
pub record EqualPoint (v : View) (p : SubscriptPair) (vector : List Direction) : Type 0 where
  pub at : Indices
  pub point : IsPoint v p vector at
  pub equal : difference p at ≡ pos 0

module _ (v : View) (p : SubscriptPair) (vector : List Direction) (long : IsPosition p) (no_inner : has_inner p ≡ false) (i j : ℤ) where
  abbrev indices : Indices
  indices = record { source = all_at i p.source.common; sink = all_at j p.sink.common; source_inner = all_at (pos 0) p.source.inner; sink_inner = all_at (pos 0) p.sink.inner }

  point_at : CommonInRange v.loops vector p.source.common p.sink.common (all_at i p.source.common) (all_at j p.sink.common) → dot p.source.common (all_at i p.source.common) +ℤ p.source.constant ≡ dot p.sink.common (all_at j p.sink.common) +ℤ p.sink.constant → EqualPoint v p vector
  point_at h e =
      let n = neither (list_any (λ a. not (is_zero a)) p.source.inner) (list_any (λ a. not (is_zero a)) p.sink.inner) no_inner in
      let s = dot_zeros p.source.inner in
      let t = dot_zeros p.sink.inner in
      record {
        at = indices;
        point = record {
          indices = record { source = length-replicate (length p.source.common) i; sink = length-replicate (length p.sink.common) j; source_inner = length-replicate (length p.source.inner) (pos 0); sink_inner = length-replicate (length p.sink.inner) (pos 0) };
          common = h;
          source_inner = inner_free v.source_inner p.source.inner n.0;
          sink_inner = inner_free v.sink_inner p.sink.inner n.1;
        };
        equal = omega (arith, linear);
      }

-- where no index occurs and the constants are equal
pub equal_constants : (v : View) (p : SubscriptPair) (vector : List Direction) → IsPosition p → has_inner p ≡ false → occurrences p ≡ [] → p.source.constant ≡ p.sink.constant → EqualPoint v p vector
equal_constants v p vector long inner none e =
    let h = free (pos 0) (pos 0) 0 p.source.common p.sink.common long none in
    let s = h.at_source in
    let t = h.at_sink in
    point_at v p vector long inner (pos 0) (pos 0) (h.in_range v.loops vector) (omega (arith, linear))

-- where one common index occurs, and two values of it meet
pub equal_values : (v : View) (p : SubscriptPair) (vector : List Direction) (o : Occurrence) → IsPosition p → IsOne p o → (i j : ℤ) → Stand i j v.loops vector o.place → o.at_source *ℤ i +ℤ p.source.constant ≡ o.at_sink *ℤ j +ℤ p.sink.constant → EqualPoint v p vector
equal_values v p vector o long one i j stand e =
    let h = alone i j 0 o.place p.source.common p.sink.common o long one.one (omega arith) in
    let s = h.at_source in
    let t = h.at_sink in
    point_at v p vector long one.no_inner i j (h.in_range v.loops vector stand) (omega (arith, linear))
