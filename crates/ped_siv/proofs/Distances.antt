-- Distances of index values that meet under one coefficient.
use Rattle.std.proofs.Common.{◌≡◌, ◌↔◌, refl, sym, ap, subst, arith, ℤ, pos, ◌+ℤ◌, ◌-ℤ◌, ◌*ℤ◌, ◌<◌, List, [], ◌∷◌, length, drop, get_or, All, Bool, false, not, IsTrue}
use Rattle.std.specs.List.{AllByRecursion}
use Rattle.std.proofs.lemmas.Bool.Decides.{Decides-not, Decides-like}
use Rattle.ped_views.specs.declared.directions.Direction.{Direction}
use Rattle.ped_views.specs.declared.directions.Direction.TheVariants.{Before, Same, After}
use Rattle.ped_views.specs.declared.strong_rows.StrongRow.{StrongRow}
use Rattle.ped_views.specs.Whole.{Divides}
use Rattle.ped_views.specs.Views.{Range}
use Rattle.ped_views.specs.Excluded.{StandsByValue, by_value, InRange, MeetTogether, NeverMeetTogether}
use Rattle.ped_views.proofs.Products.{linear, mul-sub, mul-cancel}
use Rattle.ped_siv.specs.Fits.{AreApart, FitsSpan, FitsRange}

-- index values that make the subscripts equal stand at the distance, and those at the distance make them equal
distance_of : (a c1 c2 distance i j : ℤ) → ¬ (a ≡ pos 0) → a *ℤ distance ≡ c1 -ℤ c2 → a *ℤ i +ℤ c1 ≡ a *ℤ j +ℤ c2 → j -ℤ i ≡ distance
distance_of a c1 c2 distance i j n e f =
    let m = mul-sub a j i in
    let g : a *ℤ (j -ℤ i) ≡ a *ℤ distance = omega (arith, linear) in
    mul-cancel a (j -ℤ i) distance n g

equal_at : (a c1 c2 distance i j : ℤ) → a *ℤ distance ≡ c1 -ℤ c2 → j -ℤ i ≡ distance → a *ℤ i +ℤ c1 ≡ a *ℤ j +ℤ c2
equal_at a c1 c2 distance i j e f =
    let m = mul-sub a j i in
    let g = ap (λ (x : ℤ). a *ℤ x) f in
    omega (arith, linear)

apart_at : (a c1 c2 distance i j : ℤ) → j -ℤ i ≡ distance → a *ℤ i +ℤ c1 ≡ a *ℤ j +ℤ c2 → a *ℤ distance ≡ c1 -ℤ c2
apart_at a c1 c2 distance i j e f =
    let m = mul-sub a j i in
    let g = ap (λ (x : ℤ). a *ℤ x) e in
    omega (arith, linear)

divides_at : (a c1 c2 i j : ℤ) → a *ℤ i +ℤ c1 ≡ a *ℤ j +ℤ c2 → Divides a (c1 -ℤ c2)
divides_at a c1 c2 i j f = (j -ℤ i, let m = mul-sub a j i in omega (arith, linear))

-- the distance of two values of the range fits
fits_of : (r : Range) (d : Direction) (i j distance : ℤ) → InRange r i → InRange r j → StandsByValue d i j → j -ℤ i ≡ distance → FitsSpan d distance (r.hi -ℤ r.lo)
fits_of r Before i j distance p q s e = (omega (arith, linear), omega (arith, linear))
fits_of r Same i j distance p q s e = (omega (arith, linear), omega (arith, linear))
fits_of r After i j distance p q s e = (omega (arith, linear), omega (arith, linear))

-- two values of the range at a distance
record Pair (r : Range) (d : Direction) (distance : ℤ) : Type 0 where
  i : ℤ
  j : ℤ
  source : InRange r i
  sink : InRange r j
  stands : StandsByValue d i j
  apart : j -ℤ i ≡ distance

pair_of : (r : Range) (d : Direction) (distance : ℤ) → FitsSpan d distance (r.hi -ℤ r.lo) → Pair r d distance
pair_of r Before distance f = record {
  i = r.lo;
  j = r.lo +ℤ distance;
  source = record { from = omega (arith, linear); to = omega (arith, linear, f) };
  sink = record { from = omega (arith, linear, f); to = omega (arith, linear, f) };
  stands = omega (arith, linear, f);
  apart = omega (arith, linear);
}
pair_of r Same distance f = record {
  i = r.lo;
  j = r.lo;
  source = record { from = omega (arith, linear); to = omega (arith, linear, f) };
  sink = record { from = omega (arith, linear); to = omega (arith, linear, f) };
  stands = refl;
  apart = omega (arith, linear, f);
}
pair_of r After distance f = record {
  i = r.lo -ℤ distance;
  j = r.lo;
  source = record { from = omega (arith, linear, f); to = omega (arith, linear, f) };
  sink = record { from = omega (arith, linear, f); to = omega (arith, linear, f) };
  stands = omega (arith, linear, f);
  apart = omega (arith, linear);
}

-- a row whose coefficient doesn't divide its difference
never_whole : (row : StrongRow) (rows : List StrongRow) (r : Range) (d : Direction) → ¬ (Divides row.a (row.c1 -ℤ row.c2)) → NeverMeetTogether (row ∷ rows) r d
never_whole row rows r d n i j m = n (divides_at row.a row.c1 row.c2 i j m.equal.0)

-- where the first row tells the distance, each row is equal at it where the row is equal at these values, and the other way round
all_apart : (rows : List StrongRow) (distance i j : ℤ) → j -ℤ i ≡ distance → AllByRecursion (λ s. s.a *ℤ i +ℤ s.c1 ≡ s.a *ℤ j +ℤ s.c2) rows → AreApart rows distance
all_apart [] distance i j e h = tt
all_apart (s ∷ rows) distance i j e h = (apart_at s.a s.c1 s.c2 distance i j e h.0, all_apart rows distance i j e h.1)

all_equal : (rows : List StrongRow) (distance i j : ℤ) → j -ℤ i ≡ distance → AreApart rows distance → AllByRecursion (λ s. s.a *ℤ i +ℤ s.c1 ≡ s.a *ℤ j +ℤ s.c2) rows
all_equal [] distance i j e h = tt
all_equal (s ∷ rows) distance i j e h = (equal_at s.a s.c1 s.c2 distance i j h.0 e, all_equal rows distance i j e h.1)

-- index values meet exactly where their distance is that of all rows and fits the range
module _ (row : StrongRow) (rows : List StrongRow) (r : Range) (d : Direction) (distance : ℤ) (some : ¬ (row.a ≡ pos 0)) (is : row.a *ℤ distance ≡ row.c1 -ℤ row.c2) where
  apart : (i j : ℤ) → MeetTogether (row ∷ rows) r d i j → j -ℤ i ≡ distance
  apart i j m = distance_of row.a row.c1 row.c2 distance i j some is m.equal.0

  fit : (i j : ℤ) → MeetTogether (row ∷ rows) r d i j → AreApart (row ∷ rows) distance × FitsRange r d distance
  fit i j m = (
    all_apart (row ∷ rows) distance i j (apart i j m) m.equal,
    (
      fits_of r (by_value r.step d) i j distance m.source m.sink m.stands (apart i j m),
      subst (λ (x : ℤ). IsTrue r.steady → Divides r.step x) (apart i j m) m.in_step,
    ),
  )

  meet_at : AreApart (row ∷ rows) distance → FitsRange r d distance → ¬ (NeverMeetTogether (row ∷ rows) r d)
  meet_at h f never =
      let p = pair_of r (by_value r.step d) distance f.0 in
      never p.i p.j (record {
        source = p.source;
        sink = p.sink;
        stands = p.stands;
        in_step = subst (λ (x : ℤ). IsTrue r.steady → Divides r.step x) (sym p.apart) f.1;
        equal = all_equal (row ∷ rows) distance p.i p.j p.apart h;
      })

  -- the rows don't tell one distance
  differ : (all : Bool) → all ≡ false → (IsTrue all ↔ AreApart (row ∷ rows) distance) → NeverMeetTogether (row ∷ rows) r d
  differ all e h i j m = let t = h.1 (fit i j m).0 in absurd (cc)

  -- they do, and the range decides
  decided_by_distance : (all fits : Bool) → IsTrue all → (IsTrue all ↔ AreApart (row ∷ rows) distance) → (IsTrue fits ↔ FitsRange r d distance) → IsTrue (not fits) ↔ NeverMeetTogether (row ∷ rows) r d
  decided_by_distance all fits t h f = Decides-like (not fits) (λ n i j m. n (fit i j m).1) (λ n x. meet_at (h.0 t) x n) (Decides-not fits f)

-- rows with their first one
opened : (rows : List StrongRow) (none : StrongRow) → 0 < length rows → get_or rows 0 none ∷ drop 1 rows ≡ rows
opened [] none below = absurd (omega arith)
opened (row ∷ rows) none below = refl

-- the same of rows whose first one was read
module _ (rows : List StrongRow) (none : StrongRow) (below : 0 < length rows) (r : Range) (d : Direction) where
  abbrev first : StrongRow
  first = get_or rows 0 none

  of_rows : (P : List StrongRow → Type 0) → P (first ∷ drop 1 rows) → P rows
  of_rows P h = subst P (opened rows none below) h

  pub never_whole_at : ¬ (Divides first.a (first.c1 -ℤ first.c2)) → NeverMeetTogether rows r d
  never_whole_at n = of_rows (λ ss. NeverMeetTogether ss r d) (never_whole first (drop 1 rows) r d n)

  module _ (distance : ℤ) (all : Bool) (some : All (λ s. ¬ (s.a ≡ pos 0)) rows) (is : first.a *ℤ distance ≡ first.c1 -ℤ first.c2) (decides : IsTrue all ↔ AreApart rows distance) where
    decides_opened : IsTrue all ↔ AreApart (first ∷ drop 1 rows) distance
    decides_opened = subst (λ (ss : List StrongRow). IsTrue all ↔ AreApart ss distance) (sym (opened rows none below)) decides

    pub differ_at : all ≡ false → NeverMeetTogether rows r d
    differ_at e = of_rows (λ ss. NeverMeetTogether ss r d) (differ first (drop 1 rows) r d distance (some 0 none below) is all e decides_opened)

    pub decided_at : (fits : Bool) → IsTrue all → (IsTrue fits ↔ FitsRange r d distance) → IsTrue (not fits) ↔ NeverMeetTogether rows r d
    decided_at fits t f = of_rows (λ ss. IsTrue (not fits) ↔ NeverMeetTogether ss r d) (decided_by_distance first (drop 1 rows) r d distance (some 0 none below) is all fits t decides_opened f)

-- the second half of the test, where the first holds, over the range that the code reads
pub fits_range_at : (r now : Range) (d e : Direction) (distance span : ℤ) (spans steps : Bool) → r ≡ now → e ≡ by_value r.step d → span ≡ r.hi -ℤ r.lo → (IsTrue spans ↔ FitsSpan e distance span) → IsTrue spans → (IsTrue steps ↔ (IsTrue r.steady → Divides r.step distance)) → IsTrue steps ↔ FitsRange now d distance
fits_range_at r now d e distance span spans steps shown turns is h t s =
    subst (λ (v : Range). IsTrue steps ↔ FitsRange v d distance) shown (λ x. (fit, s.0 x), λ f. s.1 f.1)
  where
    fit : FitsSpan (by_value r.step d) distance (r.hi -ℤ r.lo)
    fit = subst (λ (x : Direction). FitsSpan x distance (r.hi -ℤ r.lo)) turns (subst (λ (x : ℤ). FitsSpan e distance x) is (h.0 t))
