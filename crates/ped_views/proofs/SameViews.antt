-- The test on views decides whether they are equal.
use Rattle.std.proofs.Common.{◌≡◌, refl, ap}
use Rattle.std.specs.Bool.{Decides}
use Rattle.std.specs.Cmp.{booleans_Decides}
use Rattle.std.proofs.lemmas.Bool.Decides.{Decides-int_eq, Decides-and, Decides-like}
use Rattle.std.proofs.lemmas.Slice.Eq.{slice_eq-Decides}
use Rattle.ped_views.specs.Views.{Row, SubscriptPair, View}
use Rattle.ped_views.specs.SameViews.{same_row, same_position, same_view}
use Rattle.ped_views.proofs.Equal.{range_decided}

row_decides : (a b : Row) → Decides (same_row a b) (a ≡ b)
row_decides a b =
    Decides-like _ (λ h. same h.0 h.1.0 h.1.1) (λ e. (ap (λ r. r.common) e, (ap (λ r. r.inner) e, ap (λ r. r.constant) e)))
    (Decides-and _ _ (slice_eq-Decides Decides-int_eq a.common b.common _ refl) (Decides-and _ _ (slice_eq-Decides Decides-int_eq a.inner b.inner _ refl) (Decides-int_eq a.constant b.constant)))
  where
    same : a.common ≡ b.common → a.inner ≡ b.inner → a.constant ≡ b.constant → a ≡ b
    same c n k = λ i. record { common = c i; inner = n i; constant = k i }

position_decides : (p q : SubscriptPair) → Decides (same_position p q) (p ≡ q)
position_decides p q =
    Decides-like _ (λ h. same h.0 h.1.0 h.1.1) (λ e. (ap (λ r. r.usable) e, (ap (λ r. r.source) e, ap (λ r. r.sink) e)))
    (Decides-and _ _ (booleans_Decides p.usable q.usable) (Decides-and _ _ (row_decides p.source q.source) (row_decides p.sink q.sink)))
  where
    same : p.usable ≡ q.usable → p.source ≡ q.source → p.sink ≡ q.sink → p ≡ q
    same u s k = λ i. record { usable = u i; source = s i; sink = k i }

-- the test on views decides whether they are equal
pub same_view_decides : (v w : View) → Decides (same_view v w) (v ≡ w)
unfolding same_view
same_view_decides v w =
    Decides-like _ (λ h. same h.0 h.1.0 h.1.1.0 h.1.1.1) (λ e. (ap (λ r. r.loops) e, (ap (λ r. r.source_inner) e, (ap (λ r. r.sink_inner) e, ap (λ r. r.positions) e))))
    (Decides-and _ _ (slice_eq-Decides range_decided v.loops w.loops _ refl)
    (Decides-and _ _ (slice_eq-Decides range_decided v.source_inner w.source_inner _ refl)
    (Decides-and _ _ (slice_eq-Decides range_decided v.sink_inner w.sink_inner _ refl)
    (slice_eq-Decides position_decides v.positions w.positions _ refl))))
  where
    same : v.loops ≡ w.loops → v.source_inner ≡ w.source_inner → v.sink_inner ≡ w.sink_inner → v.positions ≡ w.positions → v ≡ w
    same l s k p = λ i. record { loops = l i; source_inner = s i; sink_inner = k i; positions = p i }
