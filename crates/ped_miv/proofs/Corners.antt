-- A linear form over the whole points of a square, a diagonal or a triangle has its extremes at the corners.
use Rattle.std.proofs.Common.{◌≡◌, refl, sym, ap, arith, ℤ, pos, ◌+ℤ◌, ◌-ℤ◌, ◌*ℤ◌, neg_ℤ, ◌≤ℤ◌, ◌<ℤ◌}
use Rattle.std.proofs.lemmas.Int.{ints}
use Rattle.std.specs.Int.{int_max, int_min}
use Rattle.ped_views.specs.declared.intervals.Interval.{Interval}
use Rattle.ped_views.proofs.Products.{linear, mul-add, neg-mul, sub-mul, multiple_from, multiple_to}
use Rattle.ped_miv.specs.Values.{Extreme, FormValue, InSquare, OnDiagonal, InTriangle}
use Rattle.ped_miv.proofs.Extremal.{extreme_of_two, extreme_of_four}

line_from : (y c a x b m : ℤ) → a ≤ℤ x → x ≤ℤ b → m ≤ℤ (y *ℤ a +ℤ c) → m ≤ℤ (y *ℤ b +ℤ c) → m ≤ℤ (y *ℤ x +ℤ c)
line_from y c a x b m f t l h =
    let k = multiple_from a x b y (m -ℤ c) f t (omega (arith, linear)) (omega (arith, linear)) in
    omega (arith, linear)

line_to : (y c a x b m : ℤ) → a ≤ℤ x → x ≤ℤ b → (y *ℤ a +ℤ c) ≤ℤ m → (y *ℤ b +ℤ c) ≤ℤ m → (y *ℤ x +ℤ c) ≤ℤ m
line_to y c a x b m f t l h =
    let k = multiple_to a x b y (m -ℤ c) f t (omega (arith, linear)) (omega (arith, linear)) in
    omega (arith, linear)

-- the form at a corner
abbrev form : ℤ → ℤ → ℤ → ℤ → ℤ
form a b i j = a *ℤ i -ℤ b *ℤ j

module _ (a b lo hi i j m : ℤ) where
  square_from : InSquare lo hi i j → m ≤ℤ form a b lo lo → m ≤ℤ form a b lo hi → m ≤ℤ form a b hi lo → m ≤ℤ form a b hi hi → m ≤ℤ form a b i j
  square_from s p q u v =
      let near : m ≤ℤ (a *ℤ i +ℤ neg_ℤ (b *ℤ lo)) = line_from a (neg_ℤ (b *ℤ lo)) lo i hi m s.0 s.1 (omega (arith, linear)) (omega (arith, linear)) in
      let far : m ≤ℤ (a *ℤ i +ℤ neg_ℤ (b *ℤ hi)) = line_from a (neg_ℤ (b *ℤ hi)) lo i hi m s.0 s.1 (omega (arith, linear)) (omega (arith, linear)) in
      let n1 = neg-mul b lo in
      let n2 = neg-mul b hi in
      let n3 = neg-mul b j in
      let k : m ≤ℤ (neg_ℤ b *ℤ j +ℤ a *ℤ i) = line_from (neg_ℤ b) (a *ℤ i) lo j hi m s.2 s.3 (omega (arith, linear)) (omega (arith, linear)) in
      omega (arith, linear)

  square_to : InSquare lo hi i j → form a b lo lo ≤ℤ m → form a b lo hi ≤ℤ m → form a b hi lo ≤ℤ m → form a b hi hi ≤ℤ m → form a b i j ≤ℤ m
  square_to s p q u v =
      let near : (a *ℤ i +ℤ neg_ℤ (b *ℤ lo)) ≤ℤ m = line_to a (neg_ℤ (b *ℤ lo)) lo i hi m s.0 s.1 (omega (arith, linear)) (omega (arith, linear)) in
      let far : (a *ℤ i +ℤ neg_ℤ (b *ℤ hi)) ≤ℤ m = line_to a (neg_ℤ (b *ℤ hi)) lo i hi m s.0 s.1 (omega (arith, linear)) (omega (arith, linear)) in
      let n1 = neg-mul b lo in
      let n2 = neg-mul b hi in
      let n3 = neg-mul b j in
      let k : (neg_ℤ b *ℤ j +ℤ a *ℤ i) ≤ℤ m = line_to (neg_ℤ b) (a *ℤ i) lo j hi m s.2 s.3 (omega (arith, linear)) (omega (arith, linear)) in
      omega (arith, linear)

  diagonal_from : OnDiagonal lo hi i j → m ≤ℤ form a b lo lo → m ≤ℤ form a b hi hi → m ≤ℤ form a b i j
  diagonal_from s p q =
      let d1 = sub-mul a b lo in
      let d2 = sub-mul a b hi in
      let d3 = sub-mul a b i in
      let e = ap (λ (x : ℤ). b *ℤ x) s.2 in
      let k = multiple_from lo i hi (a -ℤ b) m s.0 s.1 (omega (arith, linear)) (omega (arith, linear)) in
      omega (arith, linear)

  diagonal_to : OnDiagonal lo hi i j → form a b lo lo ≤ℤ m → form a b hi hi ≤ℤ m → form a b i j ≤ℤ m
  diagonal_to s p q =
      let d1 = sub-mul a b lo in
      let d2 = sub-mul a b hi in
      let d3 = sub-mul a b i in
      let e = ap (λ (x : ℤ). b *ℤ x) s.2 in
      let k = multiple_to lo i hi (a -ℤ b) m s.0 s.1 (omega (arith, linear)) (omega (arith, linear)) in
      omega (arith, linear)

-- the form just above the diagonal is linear in one index
above_diagonal : (a b i : ℤ) → (a -ℤ b) *ℤ i +ℤ neg_ℤ b ≡ form a b i (i +ℤ pos 1)
above_diagonal a b i =
    let s = sub-mul a b i in
    let t = mul-add b i (pos 1) in
    let one : b *ℤ pos 1 ≡ b = omega (arith, ints) in
    omega (arith, linear)

module _ (a b lo hi i j m : ℤ) where
  triangle_from : InTriangle lo hi i j → m ≤ℤ form a b lo (lo +ℤ pos 1) → m ≤ℤ form a b (hi -ℤ pos 1) hi → m ≤ℤ form a b lo hi → m ≤ℤ form a b i j
  triangle_from s near last far =
      let side : m ≤ℤ (a *ℤ i +ℤ neg_ℤ (b *ℤ hi)) = line_from a (neg_ℤ (b *ℤ hi)) lo i (hi -ℤ pos 1) m s.0 (omega (arith, linear, s)) (omega (arith, linear)) (omega (arith, linear)) in
      let d1 = above_diagonal a b lo in
      let d2 = above_diagonal a b (hi -ℤ pos 1) in
      let d3 = above_diagonal a b i in
      let end : hi -ℤ pos 1 +ℤ pos 1 ≡ hi = omega (arith, linear) in
      let end' = ap (λ (x : ℤ). b *ℤ x) end in
      let edge : m ≤ℤ ((a -ℤ b) *ℤ i +ℤ neg_ℤ b) = line_from (a -ℤ b) (neg_ℤ b) lo i (hi -ℤ pos 1) m s.0 (omega (arith, linear, s)) (omega (arith, linear)) (omega (arith, linear)) in
      let n1 = neg-mul b (i +ℤ pos 1) in
      let n2 = neg-mul b hi in
      let n3 = neg-mul b j in
      let k : m ≤ℤ (neg_ℤ b *ℤ j +ℤ a *ℤ i) = line_from (neg_ℤ b) (a *ℤ i) (i +ℤ pos 1) j hi m (omega (arith, linear, s)) s.2 (omega (arith, linear)) (omega (arith, linear)) in
      omega (arith, linear)

  triangle_to : InTriangle lo hi i j → form a b lo (lo +ℤ pos 1) ≤ℤ m → form a b (hi -ℤ pos 1) hi ≤ℤ m → form a b lo hi ≤ℤ m → form a b i j ≤ℤ m
  triangle_to s near last far =
      let side : (a *ℤ i +ℤ neg_ℤ (b *ℤ hi)) ≤ℤ m = line_to a (neg_ℤ (b *ℤ hi)) lo i (hi -ℤ pos 1) m s.0 (omega (arith, linear, s)) (omega (arith, linear)) (omega (arith, linear)) in
      let d1 = above_diagonal a b lo in
      let d2 = above_diagonal a b (hi -ℤ pos 1) in
      let d3 = above_diagonal a b i in
      let end : hi -ℤ pos 1 +ℤ pos 1 ≡ hi = omega (arith, linear) in
      let end' = ap (λ (x : ℤ). b *ℤ x) end in
      let edge : ((a -ℤ b) *ℤ i +ℤ neg_ℤ b) ≤ℤ m = line_to (a -ℤ b) (neg_ℤ b) lo i (hi -ℤ pos 1) m s.0 (omega (arith, linear, s)) (omega (arith, linear)) (omega (arith, linear)) in
      let n1 = neg-mul b (i +ℤ pos 1) in
      let n2 = neg-mul b hi in
      let n3 = neg-mul b j in
      let k : (neg_ℤ b *ℤ j +ℤ a *ℤ i) ≤ℤ m = line_to (neg_ℤ b) (a *ℤ i) (i +ℤ pos 1) j hi m (omega (arith, linear, s)) s.2 (omega (arith, linear)) (omega (arith, linear)) in
      omega (arith, linear)

-- the extremes as the code computes them
pub square_extreme : (a b lo hi w x y z : ℤ) (r : Interval) → lo ≤ℤ hi → w ≡ form a b lo lo → x ≡ form a b lo hi → y ≡ form a b hi lo → z ≡ form a b hi hi → r.lo ≡ int_min (int_min w x) (int_min y z) → r.hi ≡ int_max (int_max w x) (int_max y z) → Extreme (FormValue (InSquare lo hi) a b) r.lo r.hi
square_extreme a b lo hi w x y z r o p q s t l h =
    extreme_of_four w x y z r l h (FormValue (InSquare lo hi) a b)
    (record { i = lo; j = lo; stand = (at, o, at, o); is = sym p })
    (record { i = lo; j = hi; stand = (at, o, o, at'); is = sym q })
    (record { i = hi; j = lo; stand = (o, at', at, o); is = sym s })
    (record { i = hi; j = hi; stand = (o, at', o, at'); is = sym t })
    (λ v m u f1 f2 f3 f4. let e = u.is in let k = square_from a b lo hi u.i u.j m u.stand (omega (arith, linear)) (omega (arith, linear)) (omega (arith, linear)) (omega (arith, linear)) in omega (arith, linear))
    (λ v m u f1 f2 f3 f4. let e = u.is in let k = square_to a b lo hi u.i u.j m u.stand (omega (arith, linear)) (omega (arith, linear)) (omega (arith, linear)) (omega (arith, linear)) in omega (arith, linear))
  where
    at : lo ≤ℤ lo
    at = omega (arith, linear)

    at' : hi ≤ℤ hi
    at' = omega (arith, linear)

pub no_square : (a b lo hi v : ℤ) → hi <ℤ lo → ¬ (FormValue (InSquare lo hi) a b v)
no_square a b lo hi v h u = let s = u.stand.0 in let t = u.stand.1 in omega (arith, linear)

pub diagonal_extreme : (a b lo hi w z : ℤ) (r : Interval) → lo ≤ℤ hi → w ≡ form a b lo lo → z ≡ form a b hi hi → r.lo ≡ int_min w z → r.hi ≡ int_max w z → Extreme (FormValue (OnDiagonal lo hi) a b) r.lo r.hi
diagonal_extreme a b lo hi w z r o p t l h =
    extreme_of_two (FormValue (OnDiagonal lo hi) a b) w z r
    (record { i = lo; j = lo; stand = (omega (arith, linear), o, refl); is = sym p })
    (record { i = hi; j = hi; stand = (o, omega (arith, linear), refl); is = sym t })
    l h
    (λ v m u f1 f2. let e = u.is in let k = diagonal_from a b lo hi u.i u.j m u.stand (omega (arith, linear)) (omega (arith, linear)) in omega (arith, linear))
    (λ v m u f1 f2. let e = u.is in let k = diagonal_to a b lo hi u.i u.j m u.stand (omega (arith, linear)) (omega (arith, linear)) in omega (arith, linear))

pub no_diagonal : (a b lo hi v : ℤ) → hi <ℤ lo → ¬ (FormValue (OnDiagonal lo hi) a b v)
no_diagonal a b lo hi v h u = let s = u.stand.0 in let t = u.stand.1 in omega (arith, linear)

pub triangle_extreme : (a b lo hi near last far : ℤ) (r : Interval) → lo <ℤ hi → near ≡ form a b lo (lo +ℤ pos 1) → last ≡ form a b (hi -ℤ pos 1) hi → far ≡ form a b lo hi → r.lo ≡ int_min (int_min near last) (int_min far far) → r.hi ≡ int_max (int_max near last) (int_max far far) → Extreme (FormValue (InTriangle lo hi) a b) r.lo r.hi
triangle_extreme a b lo hi near last far r o p q s l h =
    extreme_of_four near last far far r l h (FormValue (InTriangle lo hi) a b)
    (record { i = lo; j = lo +ℤ pos 1; stand = (omega (arith, linear), omega (arith, linear), omega (arith, linear)); is = sym p })
    (record { i = hi -ℤ pos 1; j = hi; stand = (omega (arith, linear), omega (arith, linear), omega (arith, linear)); is = sym q })
    top top
    (λ v m u f1 f2 f3 f4. let e = u.is in let k = triangle_from a b lo hi u.i u.j m u.stand (omega (arith, linear)) (omega (arith, linear)) (omega (arith, linear)) in omega (arith, linear))
    (λ v m u f1 f2 f3 f4. let e = u.is in let k = triangle_to a b lo hi u.i u.j m u.stand (omega (arith, linear)) (omega (arith, linear)) (omega (arith, linear)) in omega (arith, linear))
  where
    top : FormValue (InTriangle lo hi) a b far
    top = record { i = lo; j = hi; stand = (omega (arith, linear), o, omega (arith, linear)); is = sym s }

pub no_triangle : (a b lo hi v : ℤ) → hi ≤ℤ lo → ¬ (FormValue (InTriangle lo hi) a b v)
no_triangle a b lo hi v h u = let s = u.stand.0 in let t = u.stand.1 in let w = u.stand.2 in omega (arith, linear)
