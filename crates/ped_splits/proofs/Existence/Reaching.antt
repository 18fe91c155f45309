-- How far a set of whole numbers reaches to one side: it is empty, it has a last number, or it has none. Finite unions,
-- sums and multiples have this from their parts, and so it is decided whether such a set has a number on a side of 0.
use Rattle.std.proofs.Common.{◌≡◌, ◌⊎◌, ℕ, zero, suc, refl, sym, ap, subst, ◌∙◌, inl, inr, arith, ℤ, pos, ◌+ℤ◌, ◌-ℤ◌, ◌*ℤ◌, neg_ℤ, ◌≤ℤ◌, ◌<ℤ◌, unsigned_abs, Bool, true, false, not}
use Rattle.std.proofs.Math.IntN.{*ℤ_comm, zero-*ℤ}
use Rattle.std.proofs.lemmas.Int.{by_lt_z, ints}
use Rattle.ped_rules.specs.ped_views.specs.Whole.{Divides}
use Rattle.ped_rules.specs.ped_views.proofs.Products.{linear, mul-neg, neg-mul, mul-le}
use Rattle.ped_splits.proofs.Existence.Sentences.{Decided}
use Rattle.ped_splits.proofs.Existence.Deciding.{at_most_decided}

-- looking down, x is no greater than y; looking up, no less
abbrev pub Under : Bool → ℤ → ℤ → Type 0
Under true x y = x ≤ℤ y
Under false x y = y ≤ℤ x

under_same : (s : Bool) (x y : ℤ) → x ≡ y → Under s x y
under_same true x y e = omega (arith, linear)
under_same false x y e = omega (arith, linear)

under_trans : (s : Bool) (x y z : ℤ) → Under s x y → Under s y z → Under s x z
under_trans true x y z p q = omega (arith, linear)
under_trans false x y z p q = omega (arith, linear)

under_or : (s : Bool) (x y : ℤ) → Under s x y ⊎ Under s y x
under_or true x y = by_lt_z x y (λ h. inl (omega (arith, linear))) (λ h. inr h)
under_or false x y = by_lt_z x y (λ h. inr (omega (arith, linear))) (λ h. inl h)

under_sum : (s : Bool) (x y l m v : ℤ) → Under s l x → Under s m y → x +ℤ y ≡ v → Under s (l +ℤ m) v
under_sum true x y l m v p q e = omega (arith, linear)
under_sum false x y l m v p q e = omega (arith, linear)

under_less : (s : Bool) (x y m : ℤ) → Under s x (m -ℤ y) → Under s (x +ℤ y) m
under_less true x y m p = omega (arith, linear)
under_less false x y m p = omega (arith, linear)

-- the last number decides
under_decided : (s : Bool) (x y : ℤ) → Decided (Under s x y)
under_decided true x y = at_most_decided x y
under_decided false x y = at_most_decided y x

-- how far the numbers of P reach
pub data Reach (s : Bool) (P : ℤ → Type 0) : Type 0 where
  nothing : ((v : ℤ) → ¬ (P v)) → Reach s P
  last : (l : ℤ) → P l → ((v : ℤ) → P v → Under s l v) → Reach s P
  endless : ((m : ℤ) → (v : ℤ) × P v × Under s v m) → Reach s P

-- some number of P lies on this side of m
pub reach_decides : (s : Bool) (P : ℤ → Type 0) (m : ℤ) → Reach s P → Decided ((v : ℤ) × P v × Under s v m)
reach_decides s P m (nothing none) = inr (λ x. none x.0 x.1)
reach_decides s P m (last l p most) = by (under_decided s l m)
  where
    by : Decided (Under s l m) → Decided ((v : ℤ) × P v × Under s v m)
    by (inl u) = inl (l, p, u)
    by (inr n) = inr (λ x. n (under_trans s l x.0 m (most x.0 x.1) x.2))
reach_decides s P m (endless f) = inl (f m)

-- P has a number
pub some_decided : (s : Bool) (P : ℤ → Type 0) → Reach s P → Decided ((v : ℤ) × P v)
some_decided s P (nothing none) = inr (λ x. none x.0 x.1)
some_decided s P (last l p most) = inl (l, p)
some_decided s P (endless f) = let x = f (pos 0) in inl (x.0, x.1)

pub reach_same : (s : Bool) (P Q : ℤ → Type 0) → ((v : ℤ) → P v → Q v) → ((v : ℤ) → Q v → P v) → Reach s P → Reach s Q
reach_same s P Q to from (nothing none) = nothing (λ v q. none v (from v q))
reach_same s P Q to from (last l p most) = last l (to l p) (λ v q. most v (from v q))
reach_same s P Q to from (endless f) = endless (λ m. let x = f m in (x.0, to x.0 x.1, x.2))

-- one number alone
pub reach_alone : (s : Bool) (x : ℤ) → Reach s (λ v. x ≡ v)
reach_alone s x = last x refl (λ v e. under_same s x v e)

-- the numbers of P, where C holds
pub reach_where : (s : Bool) (C : Type 0) (P : ℤ → Type 0) → Decided C → Reach s P → Reach s (λ v. C × P v)
reach_where s C P (inr n) r = nothing (λ v x. n x.0)
reach_where s C P (inl c) r = reach_same s P (λ v. C × P v) (λ v p. (c, p)) (λ v x. x.1) r

-- of two sets
reach_or : (s : Bool) (P Q : ℤ → Type 0) → Reach s P → Reach s Q → Reach s (λ v. P v ⊎ Q v)
reach_or s P Q (endless f) r = endless (λ m. let x = f m in (x.0, inl x.1, x.2))
reach_or s P Q (nothing none) r = reach_same s Q (λ v. P v ⊎ Q v) (λ v q. inr q) from r
  where
    from : (v : ℤ) → P v ⊎ Q v → Q v
    from v (inl p) = absurd (none v p)
    from v (inr q) = q
reach_or s P Q (last l p most) (endless f) = endless (λ m. let x = f m in (x.0, inr x.1, x.2))
reach_or s P Q (last l p most) (nothing none) = last l (inl p) all
  where
    all : (v : ℤ) → P v ⊎ Q v → Under s l v
    all v (inl p) = most v p
    all v (inr q) = absurd (none v q)
reach_or s P Q (last l p most) (last k q least) = by (under_or s l k)
  where
    first : Under s l k → (v : ℤ) → P v ⊎ Q v → Under s l v
    first u v (inl x) = most v x
    first u v (inr y) = under_trans s l k v u (least v y)

    second : Under s k l → (v : ℤ) → P v ⊎ Q v → Under s k v
    second u v (inl x) = under_trans s k l v u (most v x)
    second u v (inr y) = least v y

    by : Under s l k ⊎ Under s k l → Reach s (λ v. P v ⊎ Q v)
    by (inl u) = last l (inl p) (first u)
    by (inr u) = last k (inr q) (second u)

-- of n sets, one for each number from a place on
abbrev Among : (ℤ → ℤ → Type 0) → ℤ → ℕ → ℤ → Type 0
Among P lo n v = (i : ℤ) × (lo ≤ℤ i) × (i <ℤ (lo +ℤ pos n)) × P i v

reach_among : (s : Bool) (P : ℤ → ℤ → Type 0) → ((i : ℤ) → Reach s (P i)) → (lo : ℤ) (n : ℕ) → Reach s (Among P lo n)
reach_among s P each lo zero = nothing (λ v x. let (i, f, t, p) = x in omega (arith, ints, f, t))
reach_among s P each lo (suc n) =
    reach_same s (λ v. P (lo +ℤ pos n) v ⊎ Among P lo n v) (Among P lo (suc n)) to from
    (reach_or s (P (lo +ℤ pos n)) (Among P lo n) (each (lo +ℤ pos n)) (reach_among s P each lo n))
  where
    to : (v : ℤ) → P (lo +ℤ pos n) v ⊎ Among P lo n v → Among P lo (suc n) v
    to v (inl p) = (lo +ℤ pos n, omega (arith, ints), omega (arith, ints), p)
    to v (inr (i, f, t, p)) = (i, f, omega (arith, ints, t), p)

    from : (v : ℤ) → Among P lo (suc n) v → P (lo +ℤ pos n) v ⊎ Among P lo n v
    from v (i, f, t, p) = by_lt_z i (lo +ℤ pos n) (λ h. inr (i, f, h, p))
        (λ h. let e : i ≡ lo +ℤ pos n = omega (arith, ints, t) in inl (subst (λ (x : ℤ). P x v) e p))

-- of the sets for each number of a range
abbrev pub Within : ℤ → ℤ → (ℤ → ℤ → Type 0) → ℤ → Type 0
Within lo hi P v = (i : ℤ) × (lo ≤ℤ i) × (i ≤ℤ hi) × P i v

-- those of them for numbers up to hi
abbrev UpTo : ℤ → (ℤ → ℤ → Type 0) → ℤ → ℤ → Type 0
UpTo hi P i v = (i ≤ℤ hi) × P i v

pub reach_within : (s : Bool) (lo hi : ℤ) (P : ℤ → ℤ → Type 0) → ((i : ℤ) → Reach s (P i)) → Reach s (Within lo hi P)
reach_within s lo hi P each =
    reach_same s (Among (UpTo hi P) lo (suc (unsigned_abs (hi -ℤ lo)))) (Within lo hi P)
    (λ v x. (x.0, x.1, x.3.0, x.3.1))
    (λ v x. let (i, f, t, p) = x in (i, f, omega (arith, ints, f, t), (t, p)))
    (reach_among s (UpTo hi P) (λ i. reach_where s (i ≤ℤ hi) (P i) (at_most_decided i hi) (each i)) lo (suc (unsigned_abs (hi -ℤ lo))))

-- a number of P and one of Q have this sum
pub record Sum (P Q : ℤ → Type 0) (v : ℤ) : Type 0 where
  pub x : ℤ
  pub y : ℤ
  pub first : P x
  pub second : Q y
  pub sum : x +ℤ y ≡ v

-- numbers of P as far as is asked for, and one of Q
first_beside : (s : Bool) (P Q : ℤ → Type 0) → ((m : ℤ) → (v : ℤ) × P v × Under s v m) → (y : ℤ) → Q y → (m : ℤ) → (v : ℤ) × Sum P Q v × Under s v m
first_beside s P Q f y q m = let x = f (m -ℤ y) in (x.0 +ℤ y, record { x = x.0; y = y; first = x.1; second = q; sum = refl }, under_less s x.0 y m x.2)

pub reach_sum : (s : Bool) (P Q : ℤ → Type 0) → Reach s P → Reach s Q → Reach s (Sum P Q)
reach_sum s P Q (nothing none) r = nothing (λ v u. none u.x u.first)
reach_sum s P Q (last l p most) (nothing none) = nothing (λ v u. none u.y u.second)
reach_sum s P Q (endless f) (nothing none) = nothing (λ v u. none u.y u.second)
reach_sum s P Q (last l p most) (last m q least) =
    last (l +ℤ m) (record { x = l; y = m; first = p; second = q; sum = refl })
    (λ v u. under_sum s u.x u.y l m v (most u.x u.first) (least u.y u.second) u.sum)
reach_sum s P Q (endless f) (last m q least) = endless (first_beside s P Q f m q)
reach_sum s P Q (endless f) (endless g) = endless (first_beside s P Q f (g (pos 0)).0 (g (pos 0)).1)
reach_sum s P Q (last l p most) (endless g) = endless beside
  where
    beside : (m : ℤ) → (v : ℤ) × Sum P Q v × Under s v m
    beside m = let y = g (m -ℤ l) in (y.0 +ℤ l, record { x = l; y = y.0; first = p; second = y.1; sum = omega (arith, linear) }, under_less s y.0 l m y.2)

twice_turned : (x : ℤ) → x ≡ neg_ℤ (neg_ℤ x)
twice_turned x = omega (arith, linear)

under_turned : (s : Bool) (x y : ℤ) → Under (not s) x (neg_ℤ y) → Under s (neg_ℤ x) y
under_turned true x y u = omega (arith, linear)
under_turned false x y u = omega (arith, linear)

-- the numbers with the other sign, looked at from the other side
pub reach_turned : (s : Bool) (P : ℤ → Type 0) → Reach (not s) P → Reach s (λ v. P (neg_ℤ v))
reach_turned s P (nothing none) = nothing (λ v p. none (neg_ℤ v) p)
reach_turned s P (last l p most) = last (neg_ℤ l) (subst P (twice_turned l) p) (λ v q. under_turned s l v (most (neg_ℤ v) q))
reach_turned s P (endless f) = endless (λ m. let x = f (neg_ℤ m) in (neg_ℤ x.0, subst P (twice_turned x.0) x.1, under_turned s x.0 m x.2))

-- a multiple of a as far down as is asked for
lower_by : (a k m : ℤ) → pos 0 <ℤ a → pos 0 ≤ℤ k → neg_ℤ k ≤ℤ m → (a *ℤ neg_ℤ k) ≤ℤ m
lower_by a k m h o l =
    let e = mul-neg a k in
    let c = *ℤ_comm a k in
    let g = mul-le k (pos 1) a o (omega (arith, linear)) in
    let one : k *ℤ pos 1 ≡ k = omega (arith, ints) in
    omega (arith, linear)

lower : (a m : ℤ) → pos 0 <ℤ a → (i : ℤ) × ((a *ℤ i) ≤ℤ m)
lower a m h = (neg_ℤ (pos (unsigned_abs m)), lower_by a (pos (unsigned_abs m)) m h (omega (arith, linear)) (omega (arith, linear)))

far : (a m : ℤ) → ¬ (a ≡ pos 0) → (i : ℤ) × ((a *ℤ i) ≤ℤ m)
far a m n = by_lt_z (pos 0) a (λ h. lower a m h) (λ h. by_lt_z a (pos 0) below (λ k. absurd (n (omega (arith, linear)))))
  where
    below : a <ℤ pos 0 → (i : ℤ) × ((a *ℤ i) ≤ℤ m)
    below h =
        let x = lower (neg_ℤ a) m (omega (arith, linear)) in
        let u = x.1 in
        let e = neg-mul a x.0 in
        let f = mul-neg a x.0 in
        (neg_ℤ x.0, omega (arith, linear))

far_to : (s : Bool) (a m : ℤ) → ¬ (a ≡ pos 0) → (v : ℤ) × Divides a v × Under s v m
far_to true a m n = let x = far a m n in (a *ℤ x.0, (x.0, refl), x.1)
far_to false a m n =
    let x = far a (neg_ℤ m) n in
    let u = x.1 in
    let e = mul-neg a x.0 in
    (a *ℤ neg_ℤ x.0, (neg_ℤ x.0, refl), omega (arith, linear))

-- the multiples of a
pub reach_multiples : (s : Bool) (a : ℤ) → Reach s (Divides a)
reach_multiples s a = by_lt_z a (pos 0) (λ h. some (λ e. omega (arith, linear))) (λ h. by_lt_z (pos 0) a (λ k. some (λ e. omega (arith, linear))) (λ k. none (omega (arith, linear))))
  where
    some : ¬ (a ≡ pos 0) → Reach s (Divides a)
    some n = endless (λ m. far_to s a m n)

    zero_times : (e : a ≡ pos 0) (i : ℤ) → pos 0 ≡ a *ℤ i
    zero_times e i = sym (ap (λ (x : ℤ). x *ℤ i) e ∙ zero-*ℤ i)

    none : a ≡ pos 0 → Reach s (Divides a)
    none e = reach_same s (λ v. pos 0 ≡ v) (Divides a) (λ v f. (pos 0, sym (zero_times e (pos 0)) ∙ f)) (λ v x. zero_times e x.0 ∙ x.1) (reach_alone s (pos 0))
