-- Iterations of a DO that make the subscripts of all rows of its group equal.
use Rattle.std.proofs.Common.{◌≡◌, ◌⊎◌, inl, inr, ℕ, suc, ◌-◌, ◌*◌, ◌≤◌, refl, sym, ap, subst, ◌∙◌, arith, ℤ, pos, negsuc, neg_ℤ, ◌+ℤ◌, ◌-ℤ◌, ◌*ℤ◌, ◌≤ℤ◌, ◌<ℤ◌, int_div, int_rem, int_eq, int_lt, unsigned_abs, List, [], ◌∷◌, IsTrue, if◌then◌else◌}
use Rattle.std.specs.List.{AllByRecursion}
use Rattle.std.proofs.Math.IntN.{*ℤ_comm, *ℤ-zero}
use Rattle.std.proofs.Math.Nat.{mul-le-mul}
use Rattle.std.proofs.lemmas.Bool.{cases_Bool}
use Rattle.std.proofs.lemmas.Bool.Decides.{Decides-int_eq}
use Rattle.std.proofs.lemmas.Int.{by_lt_z, ints, unsigned_abs-mul}
use Rattle.ped_laws.specs.ped_graph.specs.ped_views.specs.declared.directions.Direction.{Direction}
use Rattle.ped_laws.specs.ped_graph.specs.ped_views.specs.declared.directions.Direction.TheVariants.{Before, Same, After}
use Rattle.ped_laws.specs.ped_graph.specs.ped_views.specs.declared.strong_rows.StrongRow.{StrongRow}
use Rattle.ped_laws.specs.ped_graph.specs.ped_views.specs.Whole.{Divides}
use Rattle.ped_laws.specs.ped_graph.specs.ped_views.specs.Views.{Range}
use Rattle.ped_laws.specs.ped_graph.specs.ped_views.specs.Excluded.{StandsByValue, by_value, MeetTogether, NeverMeetTogether}
use Rattle.ped_laws.specs.ped_graph.specs.ped_views.proofs.Products.{linear, mul-sub, sub-mul, mul-neg, neg-mul, mul-le, mul-cancel, divides_by_rem, rem_by_divides}
use Rattle.ped_laws.specs.ped_graph.specs.ped_views.proofs.Dividing.{divides_zero}
use Rattle.ped_rows.proofs.Trips.{NumberStands}

-- the value with which a DO of this range begins: the lesser end, and with a negative step the greater (ANSI X3.9-1978, section 11.10.3)
abbrev pub begin : Range → ℤ
begin r = if int_lt r.step (pos 0) then r.hi else r.lo

-- the value of the variable in iteration k of a DO of this range, from 1 (ANSI X3.9-1978, section 11.10.7)
abbrev pub value_at : Range → ℕ → ℤ
value_at r k = begin r +ℤ pos (k - 1) *ℤ r.step

-- the DO has an iteration with this number: its value lies no further from the first than the range is long
pub record IsShort (r : Range) (k : ℕ) : Type 0 where
  pub from : 1 ≤ k
  pub to : pos ((k - 1) * unsigned_abs r.step) ≤ℤ (r.hi -ℤ r.lo)

-- two whole numbers are equal or not
pub same_or_not : (x y : ℤ) → (x ≡ y) ⊎ ¬ (x ≡ y)
same_or_not x y = elim (cases_Bool (int_eq x y)) [
  | inl t ↦ inl ((Decides-int_eq x y).0 t)
  | inr f ↦ inr (λ e. let t = (Decides-int_eq x y).1 e in absurd (cc))
]

-- a number divides another or not
divides_or_not : (d n : ℤ) → ¬ (d ≡ pos 0) → Divides d n ⊎ ¬ (Divides d n)
divides_or_not d n some = elim (same_or_not (int_rem n d) (pos 0)) [
  | inl e ↦ inl (int_div n d, divides_by_rem n d e)
  | inr f ↦ inr (λ h. f (rem_by_divides n d some h))
]

-- numbers of iterations that are so many apart, one of which is the first
record Numbers (q : ℤ) : Type 0 where
  k : ℕ
  m : ℕ
  first : 1 ≤ k
  second : 1 ≤ m
  first_small : k - 1 ≤ unsigned_abs q
  second_small : m - 1 ≤ unsigned_abs q
  apart : pos (m - 1) -ℤ pos (k - 1) ≡ q
  order : pos m -ℤ pos k ≡ q

numbers_at : (q : ℤ) → Numbers q
numbers_at (pos n) = record { k = 1; m = suc n; first = omega arith; second = omega arith; first_small = omega arith; second_small = omega (arith, ints); apart = omega (arith, ints); order = omega (arith, ints) }
numbers_at (negsuc n) = record { k = suc (suc n); m = 1; first = omega arith; second = omega arith; first_small = omega (arith, ints); second_small = omega arith; apart = omega (arith, ints); order = omega (arith, ints) }

-- the sign of a distance of values, or of numbers, that stand so
abbrev IsToward : Direction → ℤ → Type 0
IsToward Before n = pos 0 <ℤ n
IsToward Same n = n ≡ pos 0
IsToward After n = n <ℤ pos 0

-- a distance has this sign or not
toward_or_not : (d : Direction) (n : ℤ) → IsToward d n ⊎ ¬ (IsToward d n)
toward_or_not Before n = by_lt_z (pos 0) n (λ h. inl h) (λ h. inr (λ k. absurd (omega (arith, linear))))
toward_or_not Same n = same_or_not n (pos 0)
toward_or_not After n = by_lt_z n (pos 0) (λ h. inl h) (λ h. inr (λ k. absurd (omega (arith, linear))))

toward_of : (d : Direction) (i j n : ℤ) → j -ℤ i ≡ n → StandsByValue d i j → IsToward d n
toward_of Before i j n e h = omega (arith, linear)
toward_of Same i j n e h = omega (arith, linear)
toward_of After i j n e h = omega (arith, linear)

numbers_stand : (d : Direction) (k m : ℕ) (q : ℤ) → pos m -ℤ pos k ≡ q → IsToward d q → NumberStands d k m
numbers_stand Before k m q e h = omega (arith, ints)
numbers_stand Same k m q e h = omega (arith, ints)
numbers_stand After k m q e h = omega (arith, ints)

-- a factor of a positive product is positive where the other one is
factor : (a q : ℤ) → pos 0 <ℤ a → pos 0 <ℤ (a *ℤ q) → pos 0 <ℤ q
factor a q h k = by_lt_z (pos 0) q (λ u. u) (λ u. absurd (let m = mul-le a q (pos 0) (omega (arith, linear)) u in let z = *ℤ-zero a in omega (arith, linear)))

-- values stand in a direction where the numbers of their iterations do
quotient_toward : (step q : ℤ) (d : Direction) → ¬ (step ≡ pos 0) → IsToward (by_value step d) (step *ℤ q) → IsToward d q
quotient_toward step q Same some h = same step some h
  where
    same : (step : ℤ) → ¬ (step ≡ pos 0) → IsToward (by_value step Same) (step *ℤ q) → q ≡ pos 0
    same (pos n) some h = mul-cancel (pos n) q (pos 0) some (h ∙ sym (*ℤ-zero (pos n)))
    same (negsuc n) some h = mul-cancel (negsuc n) q (pos 0) some (h ∙ sym (*ℤ-zero (negsuc n)))
quotient_toward step q Before some h = ahead step some h
  where
    ahead : (step : ℤ) → ¬ (step ≡ pos 0) → IsToward (by_value step Before) (step *ℤ q) → pos 0 <ℤ q
    ahead (pos n) some h = factor (pos n) q (omega (arith, ints)) h
    ahead (negsuc n) some h = factor (neg_ℤ (negsuc n)) q (omega (arith, ints)) (let m = neg-mul (negsuc n) q in omega (arith, linear))
quotient_toward step q After some h = behind step some h
  where
    behind : (step : ℤ) → ¬ (step ≡ pos 0) → IsToward (by_value step After) (step *ℤ q) → q <ℤ pos 0
    behind (pos n) some h = let f = factor (pos n) (neg_ℤ q) (omega (arith, ints)) (let m = mul-neg (pos n) q in omega (arith, linear)) in omega (arith, linear)
    behind (negsuc n) some h =
        let f = factor (neg_ℤ (negsuc n)) (neg_ℤ q) (omega (arith, ints)) (let m = neg-mul (negsuc n) (neg_ℤ q) in let l = mul-neg (negsuc n) q in omega (arith, linear)) in
        omega (arith, linear)

-- the row's subscripts are equal at these values
abbrev pub IsEqualRow : ℤ → ℤ → StrongRow → Type 0
IsEqualRow i j s = s.a *ℤ i +ℤ s.c1 ≡ s.a *ℤ j +ℤ s.c2

-- at this distance the subscripts of every row are equal
abbrev AreApart : List StrongRow → ℤ → Type 0
AreApart rows n = AllByRecursion (λ s. s.a *ℤ n ≡ s.c1 -ℤ s.c2) rows

-- the subscripts of a row are equal at values this far apart, and values at which they are equal are so far apart
equal_at : (a c1 c2 n i j : ℤ) → a *ℤ n ≡ c1 -ℤ c2 → j -ℤ i ≡ n → a *ℤ i +ℤ c1 ≡ a *ℤ j +ℤ c2
equal_at a c1 c2 n i j e f =
    let m = mul-sub a j i in
    let g = ap (λ (x : ℤ). a *ℤ x) f in
    omega (arith, linear)

apart_at : (a c1 c2 n i j : ℤ) → j -ℤ i ≡ n → a *ℤ i +ℤ c1 ≡ a *ℤ j +ℤ c2 → a *ℤ n ≡ c1 -ℤ c2
apart_at a c1 c2 n i j e f =
    let m = mul-sub a j i in
    let g = ap (λ (x : ℤ). a *ℤ x) e in
    omega (arith, linear)

all_equal : (rows : List StrongRow) (n i j : ℤ) → j -ℤ i ≡ n → AreApart rows n → AllByRecursion (IsEqualRow i j) rows
all_equal [] n i j e h = tt
all_equal (s ∷ rows) n i j e h = (equal_at s.a s.c1 s.c2 n i j h.0 e, all_equal rows n i j e h.1)

all_apart : (rows : List StrongRow) (n i j : ℤ) → j -ℤ i ≡ n → AllByRecursion (IsEqualRow i j) rows → AreApart rows n
all_apart [] n i j e h = tt
all_apart (s ∷ rows) n i j e h = (apart_at s.a s.c1 s.c2 n i j e h.0, all_apart rows n i j e h.1)

-- all rows are equal at this distance or not
apart_or_not : (rows : List StrongRow) (n : ℤ) → AreApart rows n ⊎ ¬ (AreApart rows n)
apart_or_not [] n = inl tt
apart_or_not (s ∷ rows) n = elim (same_or_not (s.a *ℤ n) (s.c1 -ℤ s.c2)) [
  | inl e ↦ elim (apart_or_not rows n) [ inl h ↦ inl (e, h) | inr f ↦ inr (λ h. f h.1) ]
  | inr f ↦ inr (λ h. f h.0)
]

-- the iterations with these numbers stand in the direction and make the subscripts of all rows equal
pub record IsChosen (rows : List StrongRow) (r : Range) (d : Direction) (k m : ℕ) : Type 0 where
  pub source : IsShort r k
  pub sink : IsShort r m
  pub stands : NumberStands d k m
  pub equal : AllByRecursion (IsEqualRow (value_at r k) (value_at r m)) rows

-- two such iterations
pub record Choice (rows : List StrongRow) (r : Range) (d : Direction) : Type 0 where
  pub k : ℕ
  pub m : ℕ
  pub chosen : IsChosen rows r d k m

-- a distance that the step divides and that is no longer than the range is that of two iterations, one of which is the first
choice_at : (rows : List StrongRow) (r : Range) (d : Direction) (n : ℤ) → ¬ (r.step ≡ pos 0) → Divides r.step n → n ≤ℤ (r.hi -ℤ r.lo) → neg_ℤ n ≤ℤ (r.hi -ℤ r.lo) → IsToward (by_value r.step d) n → AreApart rows n → Choice rows r d
choice_at rows r d n some (q, e) over under toward apart =
    let at = numbers_at q in
    record {
      k = at.k;
      m = at.m;
      chosen = record {
        source = record { from = at.first; to = short at.k at.first_small };
        sink = record { from = at.second; to = short at.m at.second_small };
        stands = numbers_stand d at.k at.m q at.order (quotient_toward r.step q d some (subst (λ (x : ℤ). IsToward (by_value r.step d) x) (sym e) toward));
        equal = all_equal rows n (value_at r at.k) (value_at r at.m) (distance at) apart;
      };
    }
  where
    short : (k : ℕ) → k - 1 ≤ unsigned_abs q → pos ((k - 1) * unsigned_abs r.step) ≤ℤ (r.hi -ℤ r.lo)
    short k h =
        let m : (k - 1) * unsigned_abs r.step ≤ unsigned_abs q * unsigned_abs r.step = mul-le-mul h (omega arith) in
        let a = unsigned_abs-mul q r.step in
        let c : q *ℤ r.step ≡ n = *ℤ_comm q r.step ∙ e in
        let b : unsigned_abs (q *ℤ r.step) ≡ unsigned_abs n = ap unsigned_abs c in
        let whole : (k - 1) * unsigned_abs r.step ≤ unsigned_abs n = omega (arith, m, a, b) in
        near ((k - 1) * unsigned_abs r.step) n (r.hi -ℤ r.lo) whole over under
      where
        near : (x : ℕ) (n span : ℤ) → x ≤ unsigned_abs n → n ≤ℤ span → neg_ℤ n ≤ℤ span → pos x ≤ℤ span
        near x n span h o u = omega (arith, ints)

    distance : (at : Numbers q) → value_at r at.m -ℤ value_at r at.k ≡ n
    distance at =
        let p = sub-mul (pos (at.m - 1)) (pos (at.k - 1)) r.step in
        let f = ap (λ (x : ℤ). x *ℤ r.step) at.apart in
        let g = *ℤ_comm q r.step ∙ e in
        omega (arith, linear)

-- the distance of values of neighbouring iterations that stand so
abbrev one_step : ℤ → Direction → ℤ
one_step step Before = step
one_step step Same = pos 0
one_step step After = neg_ℤ step

step_divides : (step : ℤ) (d : Direction) → Divides step (one_step step d)
step_divides step Before = (pos 1, omega (arith, ints))
step_divides step Same = divides_zero step (pos 0) refl
step_divides step After = (neg_ℤ (pos 1), mul-neg step (pos 1) ∙ ap neg_ℤ (let e : step *ℤ pos 1 ≡ step = omega (arith, ints) in e))

step_short : (step : ℤ) (d : Direction) (span : ℤ) → pos (unsigned_abs step) ≤ℤ span → (one_step step d ≤ℤ span) × (neg_ℤ (one_step step d) ≤ℤ span)
step_short step Before span h = (omega (arith, linear), omega (arith, linear))
step_short step Same span h = (omega (arith, linear), omega (arith, linear))
step_short step After span h = (omega (arith, linear), omega (arith, linear))

step_toward : (step : ℤ) (d : Direction) → ¬ (step ≡ pos 0) → IsToward (by_value step d) (one_step step d)
step_toward (pos n) Before some = omega (arith, ints)
step_toward (pos n) Same some = refl
step_toward (pos n) After some = omega (arith, ints)
step_toward (negsuc n) Before some = omega (arith, ints)
step_toward (negsuc n) Same some = refl
step_toward (negsuc n) After some = omega (arith, ints)

-- a DO that runs twice has iterations in every direction
pub chosen_freely : (r : Range) (d : Direction) → ¬ (r.step ≡ pos 0) → (r.lo +ℤ pos (unsigned_abs r.step)) ≤ℤ r.hi → Choice [] r d
chosen_freely r d some twice =
    let short = step_short r.step d (r.hi -ℤ r.lo) (omega (arith, linear)) in
    choice_at [] r d (one_step r.step d) some (step_divides r.step d) short.0 short.1 (step_toward r.step d some) tt

-- the first row has one distance, at which the others are equal and which fits the DO, or nothing meets
module _ (row : StrongRow) (rows : List StrongRow) (r : Range) (d : Direction) (some : ¬ (row.a ≡ pos 0)) (some_step : ¬ (r.step ≡ pos 0)) (steady : IsTrue r.steady) (meet : ¬ (NeverMeetTogether (row ∷ rows) r d)) where
  abbrev Chosen : Type 0
  Chosen = Choice (row ∷ rows) r d

  abbrev Meet : ℤ → ℤ → Type 0
  Meet i j = MeetTogether (row ∷ rows) r d i j

  divided : Divides row.a (row.c1 -ℤ row.c2)
  divided = elim (divides_or_not row.a (row.c1 -ℤ row.c2) some) [
    | inl h ↦ h
    | inr f ↦ absurd (meet (λ i j m. f (j -ℤ i, apart_at row.a row.c1 row.c2 (j -ℤ i) i j refl m.equal.0)))
  ]

  abbrev n : ℤ
  n = divided.0

  distance : (i j : ℤ) → Meet i j → j -ℤ i ≡ n
  distance i j m = mul-cancel row.a (j -ℤ i) n some (apart_at row.a row.c1 row.c2 (j -ℤ i) i j refl m.equal.0 ∙ sym divided.1)

  -- what can be decided, and is so where values meet, is so
  by_meeting : (P : Type 0) → P ⊎ ¬ P → ((i j : ℤ) → Meet i j → P) → P
  by_meeting P (inl h) each = h
  by_meeting P (inr f) each = absurd (meet (λ i j m. f (each i j m)))

  pub chosen_by_rows : Chosen
  chosen_by_rows = choice_at (row ∷ rows) r d n some_step
      (by_meeting (Divides r.step n) (divides_or_not r.step n some_step) (λ i j m. subst (λ (x : ℤ). Divides r.step x) (distance i j m) (m.in_step steady)))
      (by_meeting (n ≤ℤ (r.hi -ℤ r.lo)) (at_most n (r.hi -ℤ r.lo)) (λ i j m. let e = distance i j m in omega (arith, linear, m.source.from, m.sink.to)))
      (by_meeting (neg_ℤ n ≤ℤ (r.hi -ℤ r.lo)) (at_most (neg_ℤ n) (r.hi -ℤ r.lo)) (λ i j m. let e = distance i j m in omega (arith, linear, m.source.to, m.sink.from)))
      (by_meeting (IsToward (by_value r.step d) n) (toward_or_not (by_value r.step d) n) (λ i j m. toward_of (by_value r.step d) i j n (distance i j m) m.stands))
      (by_meeting (AreApart (row ∷ rows) n) (apart_or_not (row ∷ rows) n) (λ i j m. all_apart (row ∷ rows) n i j (distance i j m) m.equal))
    where
      at_most : (x y : ℤ) → (x ≤ℤ y) ⊎ ¬ (x ≤ℤ y)
      at_most x y = by_lt_z y x (λ h. inr (λ k. absurd (omega (arith, linear)))) (λ h. inl h)
