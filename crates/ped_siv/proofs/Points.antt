-- Values of an index that occurs on one side alone.
use Rattle.std.proofs.Common.{◌≡◌, ◌↔◌, refl, sym, ap, subst, ◌∙◌, arith, ℤ, pos, ◌-ℤ◌, ◌*ℤ◌, Bool, not, IsTrue, ◌⊎◌, inl, inr}
use Rattle.std.proofs.Math.IntN.{zero-*ℤ}
use Rattle.std.proofs.lemmas.Bool.Decides.{Decides-not, Decides-like}
use Rattle.ped_views.specs.declared.directions.Direction.{Direction}
use Rattle.ped_views.specs.declared.directions.Direction.TheVariants.{Before, Same, After}
use Rattle.ped_views.specs.Views.{Range}
use Rattle.ped_views.specs.Excluded.{StandsByValue, by_value, InRange, Meets, NeverMeets}
use Rattle.ped_views.specs.Excluded as excluded
use Rattle.ped_views.proofs.Products.{linear, mul-cancel}
use Rattle.ped_siv.specs.Fits.{HasPartner, HasNoPoint}

-- a value that stands so to another of the range
partner_of : (r : Range) (d : Direction) (i j : ℤ) → InRange r i → InRange r j → StandsByValue d i j → HasPartner d i r.lo r.hi
partner_of r Before i j p q s = (omega (arith, linear), omega (arith, linear))
partner_of r Same i j p q s = (omega (arith, linear), omega (arith, linear))
partner_of r After i j p q s = (omega (arith, linear), omega (arith, linear))

-- a value that i stands so to: an end of the range, or itself
record Partner (r : Range) (d : Direction) (i : ℤ) : Type 0 where
  j : ℤ
  source : InRange r i
  sink : InRange r j
  stands : StandsByValue d i j

partner_at : (r : Range) (d : Direction) (i : ℤ) → HasPartner d i r.lo r.hi → Partner r d i
partner_at r Before i f = record { j = r.hi; source = record { from = f.0; to = omega (arith, linear, f) }; sink = record { from = omega (arith, linear, f); to = omega (arith, linear) }; stands = f.1 }
partner_at r Same i f = record { j = i; source = record { from = f.0; to = f.1 }; sink = record { from = f.0; to = f.1 }; stands = refl }
partner_at r After i f = record { j = r.lo; source = record { from = omega (arith, linear, f); to = f.1 }; sink = record { from = omega (arith, linear); to = omega (arith, linear, f) }; stands = f.0 }

-- the one value has a partner, or there is no point
pub decided_by_partner : (a n : ℤ) (r : Range) (d : Direction) (i : ℤ) (has : Bool) → ¬ (a ≡ pos 0) → a *ℤ i ≡ n → (IsTrue has ↔ HasPartner d i r.lo r.hi) → IsTrue (not has) ↔ HasNoPoint a n r d
decided_by_partner a n r d i has some is h = Decides-like (not has) never (λ n f. at f n) (Decides-not has h)
  where
    never : ¬ (HasPartner d i r.lo r.hi) → HasNoPoint a n r d
    never none k j p q s e = none (subst (λ (x : ℤ). HasPartner d x r.lo r.hi) (mul-cancel a k i some (e ∙ sym is)) (partner_of r d k j p q s))

    at : HasPartner d i r.lo r.hi → ¬ (HasNoPoint a n r d)
    at f none = let p = partner_at r d i f in none i p.j p.source p.sink p.stands is

-- the code's test of the value, over the range that it reads
pub decided_by_partner_at : (a n : ℤ) (r now : Range) (d : Direction) (i lo hi : ℤ) (has : Bool) → ¬ (a ≡ pos 0) → r ≡ now → lo ≡ r.lo → hi ≡ r.hi → a *ℤ i ≡ n → (IsTrue has ↔ HasPartner d i lo hi) → IsTrue (not has) ↔ HasNoPoint a n now d
decided_by_partner_at a n r now d i lo hi has some shown l g is h =
    subst (λ (v : Range). IsTrue (not has) ↔ HasNoPoint a n v d) shown (decided_by_partner a n r d i has some is
    (subst (λ (x : ℤ). IsTrue has ↔ HasPartner d i r.lo x) g (subst (λ (x : ℤ). IsTrue has ↔ HasPartner d i x hi) l h)))

nothing : (b j : ℤ) → b ≡ pos 0 → b *ℤ j ≡ pos 0
nothing b j e = ap (λ (x : ℤ). x *ℤ j) e ∙ zero-*ℤ j

turned_stands : (d : Direction) (i j : ℤ) → StandsByValue d i j → StandsByValue (excluded.turned d) j i
turned_stands Before i j s = s
turned_stands Same i j s = sym s
turned_stands After i j s = s

turned_back : (d : Direction) (i j : ℤ) → StandsByValue (excluded.turned d) j i → StandsByValue d i j
turned_back Before i j s = s
turned_back Same i j s = sym s
turned_back After i j s = s

-- the index occurs at the source
pub at_source : (a b c1 c2 : ℤ) (r : Range) (d : Direction) (t : Bool) → b ≡ pos 0 → (IsTrue t ↔ HasNoPoint a (c2 -ℤ c1) r (by_value r.step d)) → IsTrue t ↔ NeverMeets a b c1 c2 r d
at_source a b c1 c2 r d t zero h = (λ x i j m. to (h.0 x) i j m, λ never. h.1 (from never))
  where
    to : HasNoPoint a (c2 -ℤ c1) r (by_value r.step d) → NeverMeets a b c1 c2 r d
    to none i j m = let z = nothing b j zero in let e = m.equal in none i j m.source m.sink m.stands (omega (arith, linear))

    from : NeverMeets a b c1 c2 r d → HasNoPoint a (c2 -ℤ c1) r (by_value r.step d)
    from never i j p q s e = let z = nothing b j zero in never i j (record { source = p; sink = q; stands = s; equal = omega (arith, linear) })

-- the index occurs at the sink
pub at_sink : (a b c1 c2 : ℤ) (r : Range) (d : Direction) (t : Bool) → a ≡ pos 0 → (IsTrue t ↔ HasNoPoint b (c1 -ℤ c2) r (excluded.turned (by_value r.step d))) → IsTrue t ↔ NeverMeets a b c1 c2 r d
at_sink a b c1 c2 r d t zero h = (λ x i j m. to (h.0 x) i j m, λ never. h.1 (from never))
  where
    to : HasNoPoint b (c1 -ℤ c2) r (excluded.turned (by_value r.step d)) → NeverMeets a b c1 c2 r d
    to none i j m = let z = nothing a i zero in let e = m.equal in none j i m.sink m.source (turned_stands (by_value r.step d) i j m.stands) (omega (arith, linear))

    from : NeverMeets a b c1 c2 r d → HasNoPoint b (c1 -ℤ c2) r (excluded.turned (by_value r.step d))
    from never j i q p s e = let z = nothing a i zero in never i j (record { source = p; sink = q; stands = turned_back (by_value r.step d) i j s; equal = omega (arith, linear) })

-- which of the two coefficients is 0
pub zero_at_source : (a b : ℤ) → ((a ≡ pos 0) × ¬ (b ≡ pos 0)) ⊎ (¬ (a ≡ pos 0) × (b ≡ pos 0)) → ¬ (b ≡ pos 0) → a ≡ pos 0
zero_at_source a b (inl f) n = f.0
zero_at_source a b (inr f) n = absurd (n f.1)

-- the code's answer where the index occurs at the source, and where it occurs at the sink
pub at_source_by_code : (a b c1 c2 n : ℤ) (r now : Range) (d e : Direction) (t : Bool) → b ≡ pos 0 → r ≡ now → e ≡ by_value r.step d → n ≡ c2 -ℤ c1 → (IsTrue t ↔ HasNoPoint a n now e) → IsTrue t ↔ NeverMeets a b c1 c2 now d
at_source_by_code a b c1 c2 n r now d e t zero shown turns is h =
    at_source a b c1 c2 now d t zero (subst (λ (x : ℤ). IsTrue t ↔ HasNoPoint a x now (by_value now.step d)) is
    (subst (λ (x : Direction). IsTrue t ↔ HasNoPoint a n now x) (turns ∙ ap (λ (v : Range). by_value v.step d) shown) h))

pub at_sink_by_code : (a b c1 c2 n : ℤ) (r now : Range) (d e u : Direction) (t : Bool) → a ≡ pos 0 → r ≡ now → e ≡ by_value r.step d → u ≡ excluded.turned e → n ≡ c1 -ℤ c2 → (IsTrue t ↔ HasNoPoint b n now u) → IsTrue t ↔ NeverMeets a b c1 c2 now d
at_sink_by_code a b c1 c2 n r now d e u t zero shown turns turns_back is h =
    at_sink a b c1 c2 now d t zero (subst (λ (x : ℤ). IsTrue t ↔ HasNoPoint b x now (excluded.turned (by_value now.step d))) is
    (subst (λ (x : Direction). IsTrue t ↔ HasNoPoint b n now x) (turns_back ∙ ap excluded.turned (turns ∙ ap (λ (v : Range). by_value v.step d) shown)) h))
