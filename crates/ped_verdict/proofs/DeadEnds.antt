-- What is beyond the extremes under a front is so under each vector that begins with it.
use Rattle.std.proofs.Common.{ℤ, List, [], ◌∷◌, ◌++◌, sym, subst, inl, inr}
use Rattle.ped_views.specs.declared.directions.Direction.{Direction}
use Rattle.ped_views.specs.Views.{Range, SubscriptPair, View}
use Rattle.ped_views.specs.Excluded.{CommonInRange, IsPoint, IsBeyondExtremes}
use Rattle.ped_verdict.specs.Marked.{BeginsWith}

-- a point under a vector is one under each of its fronts
widened : (loops : List Range) (vector : List Direction) (source sink is js : List ℤ) → CommonInRange loops vector source sink is js → CommonInRange loops [] source sink is js
widened (r ∷ loops) (d ∷ vector) (a ∷ source) (b ∷ sink) (i ∷ is) (j ∷ js) (inl z, h) = (inl z, widened loops vector source sink is js h)
widened (r ∷ loops) (d ∷ vector) (a ∷ source) (b ∷ sink) (i ∷ is) (j ∷ js) (inr s, h) = (inr (s.0, s.1), widened loops vector source sink is js h)
widened (r ∷ loops) [] (a ∷ source) (b ∷ sink) (i ∷ is) (j ∷ js) h = h
widened loops vector source sink is js h = tt

in_front : (loops : List Range) (front rest : List Direction) (source sink is js : List ℤ) → CommonInRange loops (front ++ rest) source sink is js → CommonInRange loops front source sink is js
in_front loops [] rest source sink is js h = widened loops rest source sink is js h
in_front (r ∷ loops) (d ∷ front) rest (a ∷ source) (b ∷ sink) (i ∷ is) (j ∷ js) h = (h.0, in_front loops front rest source sink is js h.1)
in_front loops (d ∷ front) rest source sink is js h = tt

pub point_in_front : (v : View) (p : SubscriptPair) (front vector : List Direction) → BeginsWith front vector → (at : _) → IsPoint v p vector at → IsPoint v p front at
point_in_front v p front vector (rest, e) at q = record {
  indices = q.indices;
  common = in_front v.loops front rest p.source.common p.sink.common at.source at.sink (subst (λ (w : List Direction). CommonInRange v.loops w p.source.common p.sink.common at.source at.sink) (sym e) q.common);
  source_inner = q.source_inner;
  sink_inner = q.sink_inner;
}

pub beyond_front : (v : View) (p : SubscriptPair) (front vector : List Direction) → BeginsWith front vector → IsBeyondExtremes v p front → IsBeyondExtremes v p vector
beyond_front v p front vector begins h low high a b x y = h low high (point_in_front v p front vector begins low a) (point_in_front v p front vector begins high b) x y
