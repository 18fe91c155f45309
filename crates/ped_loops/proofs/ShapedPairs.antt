-- The iterations of two loops with increments 1, where the inner bounds stay, rise or fall as the outer variable grows: with the loops in each other's place they are the same.
use Rattle.std.proofs.Common.{◌≡◌, ℕ, ◌+◌, ◌-◌, ◌≤◌, ◌<◌, ℤ, pos, negsuc, ◌+ℤ◌, ◌-ℤ◌, List, [], ◌∷◌, ◌++◌, fold, refl, arith}
use Rattle.std.specs.Prelude.{◌≤ℤ◌}
use Rattle.std.specs.Int.{int_max, int_min}
use Rattle.std.proofs.lemmas.Int.{ints, clamps}
use Rattle.ped_rules.proofs.NestLaws.PairOrders.{IsRegrouped}
use Rattle.ped_rules.specs.ped_store.specs.Storage.{natural}

-- a number that is at least 0, as a natural one
natural_is : (z : ℤ) → pos 0 ≤ℤ z → pos (natural z) ≡ z
natural_is (pos n) h = refl
natural_is (negsuc n) h = absurd (omega (arith, ints, h))

natural_some : (z : ℤ) (k : ℕ) → 1 ≤ k → k ≤ natural z → pos k ≤ℤ z
natural_some (pos n) k one h = omega (arith, ints, h)
natural_some (negsuc n) k one h = absurd (omega (arith, one, h))

natural_over : (z : ℤ) (k : ℕ) → pos k ≤ℤ z → k ≤ natural z
natural_over (pos n) k h = omega (arith, ints, h)
natural_over (negsuc n) k h = absurd (omega (arith, ints, h))

-- number k of the values from a first to a last one
in_count : (a b : ℤ) (k : ℕ) → 1 ≤ k → k ≤ natural (b -ℤ a +ℤ pos 1) → (a +ℤ pos k) ≤ℤ (b +ℤ pos 1)
in_count a b k one h = let some = natural_some (b -ℤ a +ℤ pos 1) k one h in omega (arith, ints, some)

count_has : (a b : ℤ) (k : ℕ) → (a +ℤ pos k) ≤ℤ (b +ℤ pos 1) → k ≤ natural (b -ℤ a +ℤ pos 1)
count_has a b k h = natural_over (b -ℤ a +ℤ pos 1) k (omega (arith, ints, h))

-- values of rows and columns that are the same pairs: the iterations are regrouped
module _ (e1 e2 l h : ℤ) (lo hi p q : ℤ → ℤ)
    (near : (x : ℤ) → e1 ≤ℤ x → x ≤ℤ e2 → (l ≤ℤ lo x) × (hi x ≤ℤ h))
    (within : (y : ℤ) → l ≤ℤ y → y ≤ℤ h → (e1 ≤ℤ p y) × (q y ≤ℤ e2))
    (forth : (x y : ℤ) → e1 ≤ℤ x → x ≤ℤ e2 → l ≤ℤ y → y ≤ℤ h → lo x ≤ℤ y → y ≤ℤ hi x → (p y ≤ℤ x) × (x ≤ℤ q y))
    (back : (x y : ℤ) → e1 ≤ℤ x → x ≤ℤ e2 → l ≤ℤ y → y ≤ℤ h → p y ≤ℤ x → x ≤ℤ q y → (lo x ≤ℤ y) × (y ≤ℤ hi x)) where
  -- the value of the outer variable in iteration i, and of the new outer one in iteration a
  abbrev pub outer_value : ℕ → ℤ
  outer_value i = e1 +ℤ pos (i - 1)

  abbrev pub new_value : ℕ → ℤ
  new_value a = l +ℤ pos (a - 1)

  abbrev pub row : ℕ → ℕ
  row i = natural (hi (outer_value i) -ℤ lo (outer_value i) +ℤ pos 1)

  abbrev pub column : ℕ → ℕ
  column a = natural (q (new_value a) -ℤ p (new_value a) +ℤ pos 1)

  abbrev pub later : ℕ → ℕ
  later i = natural (lo (outer_value i) -ℤ l)

  abbrev pub below : ℕ → ℕ
  below a = natural (p (new_value a) -ℤ e1)

  outer_lies : (i : ℕ) → 1 ≤ i → i ≤ natural (e2 -ℤ e1 +ℤ pos 1) → (e1 ≤ℤ outer_value i) × (outer_value i ≤ℤ e2)
  outer_lies i one h = let some = in_count e1 e2 i one h in (omega (arith, ints), omega (arith, ints, some, one))

  new_lies : (a : ℕ) → 1 ≤ a → a ≤ natural (h -ℤ l +ℤ pos 1) → (l ≤ℤ new_value a) × (new_value a ≤ℤ h)
  new_lies a one top = let some = in_count l h a one top in (omega (arith, ints), omega (arith, ints, some, one))

  -- the value of the inner variable is the same
  pub same_value : (i j : ℕ) → 1 ≤ i → i ≤ natural (e2 -ℤ e1 +ℤ pos 1) → 1 ≤ j → new_value (later i + j) ≡ lo (outer_value i) +ℤ pos (j - 1)
  same_value i j from to low =
      let lies = outer_lies i from to in
      let less = (near (outer_value i) lies.0 lies.1).0 in
      let is = natural_is (lo (outer_value i) -ℤ l) (omega (arith, ints, less)) in
      omega (arith, ints, is, low)

  pub same_outer : (a b : ℕ) → 1 ≤ a → a ≤ natural (h -ℤ l +ℤ pos 1) → 1 ≤ b → p (new_value a) +ℤ pos (b - 1) ≡ outer_value (below a + b)
  same_outer a b from to low =
      let lies = new_lies a from to in
      let less = (within (new_value a) lies.0 lies.1).0 in
      let is = natural_is (p (new_value a) -ℤ e1) (omega (arith, ints, less)) in
      omega (arith, ints, is, low)

  pub regrouped : IsRegrouped (natural (e2 -ℤ e1 +ℤ pos 1)) (natural (h -ℤ l +ℤ pos 1)) row column later below
  regrouped = record { forth = forth_so; back = back_so }
    where
      forth_so : (i j : ℕ) → 1 ≤ i → i ≤ natural (e2 -ℤ e1 +ℤ pos 1) → 1 ≤ j → j ≤ row i → (later i + j ≤ natural (h -ℤ l +ℤ pos 1)) × (below (later i + j) < i) × (i ≤ below (later i + j) + column (later i + j))
      forth_so i j from to low high =
          let x = outer_value i in
          let lies = outer_lies i from to in
          let near_x = near (outer_value i) lies.0 lies.1 in
          let some = in_count (lo (outer_value i)) (hi (outer_value i)) j low high in
          let is = same_value i j from to low in
          let y = new_value (later i + j) in
          let one : l ≤ℤ new_value (later i + j) = omega (arith, ints, near_x.0, is) in
          let two : new_value (later i + j) ≤ℤ h = omega (arith, ints, near_x.1, is, some, low) in
          let under : lo (outer_value i) ≤ℤ new_value (later i + j) = omega (arith, ints, is) in
          let over : new_value (later i + j) ≤ℤ hi (outer_value i) = omega (arith, ints, is, some, low) in
          let lies_new = forth (outer_value i) (new_value (later i + j)) lies.0 lies.1 one two under over in
          let its = within (new_value (later i + j)) one two in
          let shift = natural_is (p (new_value (later i + j)) -ℤ e1) (omega (arith, ints, its.0)) in
          let first = lies_new.0 in
          let last = lies_new.1 in
          let many = count_has (p (new_value (later i + j))) (q (new_value (later i + j))) (i - below (later i + j)) (omega (arith, ints, shift, first, last, from)) in
          (count_has l h (later i + j) (omega (arith, ints, two, low)), omega (arith, ints, shift, first, from), omega (arith, many))

      back_so : (a b : ℕ) → 1 ≤ a → a ≤ natural (h -ℤ l +ℤ pos 1) → 1 ≤ b → b ≤ column a → (below a + b ≤ natural (e2 -ℤ e1 +ℤ pos 1)) × (later (below a + b) < a) × (a ≤ later (below a + b) + row (below a + b))
      back_so a b from to low high =
          let lies = new_lies a from to in
          let near_y = within (new_value a) lies.0 lies.1 in
          let some = in_count (p (new_value a)) (q (new_value a)) b low high in
          let is = same_outer a b from to low in
          let one : e1 ≤ℤ outer_value (below a + b) = omega (arith, ints, near_y.0, is) in
          let two : outer_value (below a + b) ≤ℤ e2 = omega (arith, ints, near_y.1, is, some, low) in
          let under : p (new_value a) ≤ℤ outer_value (below a + b) = omega (arith, ints, is) in
          let over : outer_value (below a + b) ≤ℤ q (new_value a) = omega (arith, ints, is, some, low) in
          let lies_old = back (outer_value (below a + b)) (new_value a) one two lies.0 lies.1 under over in
          let its = near (outer_value (below a + b)) one two in
          let shift = natural_is (lo (outer_value (below a + b)) -ℤ l) (omega (arith, ints, its.0)) in
          let first = lies_old.0 in
          let last = lies_old.1 in
          let many = count_has (lo (outer_value (below a + b))) (hi (outer_value (below a + b))) (a - later (below a + b)) (omega (arith, ints, shift, first, last, from)) in
          (count_has e1 e2 (below a + b) (omega (arith, ints, two, low)), omega (arith, ints, shift, first, from), omega (arith, many))

-- how a bound of the inner loop goes with the outer variable: it stays at a number, it is the variable and a number, or a number less the variable
pub data Way : Type 0 where
  stays : ℤ → Way
  rises : ℤ → Way
  falls : ℤ → Way

-- the bound for a value of the outer variable
abbrev pub bound_by : Way → ℤ → ℤ
bound_by (stays c) x = c
bound_by (rises c) x = x +ℤ c
bound_by (falls c) x = c -ℤ x

-- the bound of the new outer loop, where this is the end of the old outer one at the same side, and that at the other side
abbrev pub moved_by : Way → (near far : ℤ) → ℤ
moved_by (stays c) near far = c
moved_by (rises c) near far = near +ℤ c
moved_by (falls c) near far = c -ℤ far

-- what the bound asks of the outer variable, for a value of the inner one: from above where it rises, from below where it falls, for a first bound; and the other way for a last one
abbrev pub when_rising : Way → ℤ → List ℤ
when_rising (stays c) y = []
when_rising (rises c) y = (y -ℤ c) ∷ []
when_rising (falls c) y = []

abbrev pub when_falling : Way → ℤ → List ℤ
when_falling (stays c) y = []
when_falling (rises c) y = []
when_falling (falls c) y = (c -ℤ y) ∷ []

-- each of these lies at or under the number, or at or over it
abbrev pub AllUnder : ℤ → List ℤ → Type 0
AllUnder x [] = Unit {0}
AllUnder x (y ∷ ys) = (y ≤ℤ x) × AllUnder x ys

abbrev pub AllOver : ℤ → List ℤ → Type 0
AllOver x [] = Unit {0}
AllOver x (y ∷ ys) = (x ≤ℤ y) × AllOver x ys

under_joined : (x : ℤ) (xs ys : List ℤ) → AllUnder x xs → AllUnder x ys → AllUnder x (xs ++ ys)
under_joined x [] ys a b = b
under_joined x (z ∷ xs) ys a b = (a.0, under_joined x xs ys a.1 b)

over_joined : (x : ℤ) (xs ys : List ℤ) → AllOver x xs → AllOver x ys → AllOver x (xs ++ ys)
over_joined x [] ys a b = b
over_joined x (z ∷ xs) ys a b = (a.0, over_joined x xs ys a.1 b)

under_parts : (x : ℤ) (xs ys : List ℤ) → AllUnder x (xs ++ ys) → AllUnder x xs × AllUnder x ys
under_parts x [] ys a = (tt, a)
under_parts x (z ∷ xs) ys a = let rest = under_parts x xs ys a.1 in ((a.0, rest.0), rest.1)

over_parts : (x : ℤ) (xs ys : List ℤ) → AllOver x (xs ++ ys) → AllOver x xs × AllOver x ys
over_parts x [] ys a = (tt, a)
over_parts x (z ∷ xs) ys a = let rest = over_parts x xs ys a.1 in ((a.0, rest.0), rest.1)

greatest_under : (e x : ℤ) (ys : List ℤ) → e ≤ℤ x → AllUnder x ys → fold int_max e ys ≤ℤ x
greatest_under e x [] h all = h
greatest_under e x (y ∷ ys) h all = let first = all.0 in greatest_under (int_max e y) x ys (omega (arith, ints, clamps, h, first)) all.1

greatest_over : (e : ℤ) (ys : List ℤ) → e ≤ℤ fold int_max e ys
greatest_over e [] = omega (arith, ints)
greatest_over e (y ∷ ys) = let rest = greatest_over (int_max e y) ys in omega (arith, ints, clamps, rest)

all_under_greatest : (e x : ℤ) (ys : List ℤ) → fold int_max e ys ≤ℤ x → AllUnder x ys
all_under_greatest e x [] h = tt
all_under_greatest e x (y ∷ ys) h = (let over = greatest_over (int_max e y) ys in omega (arith, ints, clamps, over, h), all_under_greatest (int_max e y) x ys h)

least_over : (e x : ℤ) (ys : List ℤ) → x ≤ℤ e → AllOver x ys → x ≤ℤ fold int_min e ys
least_over e x [] h all = h
least_over e x (y ∷ ys) h all = let first = all.0 in least_over (int_min e y) x ys (omega (arith, ints, clamps, h, first)) all.1

least_under : (e : ℤ) (ys : List ℤ) → fold int_min e ys ≤ℤ e
least_under e [] = omega (arith, ints)
least_under e (y ∷ ys) = let rest = least_under (int_min e y) ys in omega (arith, ints, clamps, rest)

all_over_least : (e x : ℤ) (ys : List ℤ) → x ≤ℤ fold int_min e ys → AllOver x ys
all_over_least e x [] h = tt
all_over_least e x (y ∷ ys) h = (let under = least_under (int_min e y) ys in omega (arith, ints, clamps, under, h), all_over_least (int_min e y) x ys h)

-- the first bound lies at or behind the new one, and asks what it says
first_near : (w : Way) (e1 e2 x : ℤ) → e1 ≤ℤ x → x ≤ℤ e2 → moved_by w e1 e2 ≤ℤ bound_by w x
first_near (stays c) e1 e2 x low high = omega (arith, ints)
first_near (rises c) e1 e2 x low high = omega (arith, ints, low)
first_near (falls c) e1 e2 x low high = omega (arith, ints, high)

last_near : (w : Way) (e1 e2 x : ℤ) → e1 ≤ℤ x → x ≤ℤ e2 → bound_by w x ≤ℤ moved_by w e2 e1
last_near (stays c) e1 e2 x low high = omega (arith, ints)
last_near (rises c) e1 e2 x low high = omega (arith, ints, high)
last_near (falls c) e1 e2 x low high = omega (arith, ints, low)

first_rising : (w : Way) (x y : ℤ) → bound_by w x ≤ℤ y → AllOver x (when_rising w y)
first_rising (stays c) x y h = tt
first_rising (rises c) x y h = (omega (arith, ints, h), tt)
first_rising (falls c) x y h = tt

first_falling : (w : Way) (x y : ℤ) → bound_by w x ≤ℤ y → AllUnder x (when_falling w y)
first_falling (stays c) x y h = tt
first_falling (rises c) x y h = tt
first_falling (falls c) x y h = (omega (arith, ints, h), tt)

first_back : (w : Way) (e1 e2 x y : ℤ) → moved_by w e1 e2 ≤ℤ y → AllOver x (when_rising w y) → AllUnder x (when_falling w y) → bound_by w x ≤ℤ y
first_back (stays c) e1 e2 x y low a b = low
first_back (rises c) e1 e2 x y low a b = let asked = a.0 in omega (arith, ints, asked)
first_back (falls c) e1 e2 x y low a b = let asked = b.0 in omega (arith, ints, asked)

last_rising : (w : Way) (x y : ℤ) → y ≤ℤ bound_by w x → AllUnder x (when_rising w y)
last_rising (stays c) x y h = tt
last_rising (rises c) x y h = (omega (arith, ints, h), tt)
last_rising (falls c) x y h = tt

last_falling : (w : Way) (x y : ℤ) → y ≤ℤ bound_by w x → AllOver x (when_falling w y)
last_falling (stays c) x y h = tt
last_falling (rises c) x y h = tt
last_falling (falls c) x y h = (omega (arith, ints, h), tt)

last_back : (w : Way) (e1 e2 x y : ℤ) → y ≤ℤ moved_by w e2 e1 → AllUnder x (when_rising w y) → AllOver x (when_falling w y) → y ≤ℤ bound_by w x
last_back (stays c) e1 e2 x y high a b = high
last_back (rises c) e1 e2 x y high a b = let asked = a.0 in omega (arith, ints, asked)
last_back (falls c) e1 e2 x y high a b = let asked = b.0 in omega (arith, ints, asked)

-- what is asked where the new outer variable lies between its bounds lies between the old outer bounds
falling_under : (w : Way) (e1 e2 y : ℤ) → moved_by w e1 e2 ≤ℤ y → AllUnder (int_max e1 e2) (when_falling w y)
falling_under (stays c) e1 e2 y h = tt
falling_under (rises c) e1 e2 y h = tt
falling_under (falls c) e1 e2 y h = (omega (arith, ints, clamps, h), tt)

rising_under : (w : Way) (e1 e2 y : ℤ) → y ≤ℤ moved_by w e2 e1 → AllUnder (int_max e1 e2) (when_rising w y)
rising_under (stays c) e1 e2 y h = tt
rising_under (rises c) e1 e2 y h = (omega (arith, ints, clamps, h), tt)
rising_under (falls c) e1 e2 y h = tt

rising_over : (w : Way) (e1 e2 y : ℤ) → moved_by w e1 e2 ≤ℤ y → AllOver (int_min e1 e2) (when_rising w y)
rising_over (stays c) e1 e2 y h = tt
rising_over (rises c) e1 e2 y h = (omega (arith, ints, clamps, h), tt)
rising_over (falls c) e1 e2 y h = tt

falling_over : (w : Way) (e1 e2 y : ℤ) → y ≤ℤ moved_by w e2 e1 → AllOver (int_min e1 e2) (when_falling w y)
falling_over (stays c) e1 e2 y h = tt
falling_over (rises c) e1 e2 y h = tt
falling_over (falls c) e1 e2 y h = (omega (arith, ints, clamps, h), tt)

-- the new inner bounds, for a value of the new outer variable
abbrev pub from_below : (first last : Way) (e1 y : ℤ) → ℤ
from_below first last e1 y = fold int_max e1 (when_falling first y ++ when_rising last y)

abbrev pub from_above : (first last : Way) (e2 y : ℤ) → ℤ
from_above first last e2 y = fold int_min e2 (when_rising first y ++ when_falling last y)

module _ (first last : Way) (e1 e2 : ℤ) where
  abbrev lo : ℤ → ℤ
  lo = bound_by first

  abbrev hi : ℤ → ℤ
  hi = bound_by last

  abbrev p : ℤ → ℤ
  p y = from_below first last e1 y

  abbrev q : ℤ → ℤ
  q y = from_above first last e2 y

  pub ways_near : (x : ℤ) → e1 ≤ℤ x → x ≤ℤ e2 → (moved_by first e1 e2 ≤ℤ bound_by first x) × (bound_by last x ≤ℤ moved_by last e2 e1)
  ways_near x low high = (first_near first e1 e2 x low high, last_near last e1 e2 x low high)

  pub ways_within : (y : ℤ) → (e1 ≤ℤ from_below first last e1 y) × (from_above first last e2 y ≤ℤ e2)
  ways_within y = (greatest_over e1 (when_falling first y ++ when_rising last y), least_under e2 (when_rising first y ++ when_falling last y))

  pub ways_forth : (x y : ℤ) → e1 ≤ℤ x → x ≤ℤ e2 → bound_by first x ≤ℤ y → y ≤ℤ bound_by last x → (from_below first last e1 y ≤ℤ x) × (x ≤ℤ from_above first last e2 y)
  ways_forth x y low high under over = (
    greatest_under e1 x (when_falling first y ++ when_rising last y) low (under_joined x (when_falling first y) (when_rising last y) (first_falling first x y under) (last_rising last x y over)),
    least_over e2 x (when_rising first y ++ when_falling last y) high (over_joined x (when_rising first y) (when_falling last y) (first_rising first x y under) (last_falling last x y over)),
  )

  pub ways_back : (x y : ℤ) → moved_by first e1 e2 ≤ℤ y → y ≤ℤ moved_by last e2 e1 → from_below first last e1 y ≤ℤ x → x ≤ℤ from_above first last e2 y → (bound_by first x ≤ℤ y) × (y ≤ℤ bound_by last x)
  ways_back x y low high under over =
      let belows = under_parts x (when_falling first y) (when_rising last y) (all_under_greatest e1 x (when_falling first y ++ when_rising last y) under) in
      let aboves = over_parts x (when_rising first y) (when_falling last y) (all_over_least e2 x (when_rising first y ++ when_falling last y) over) in
      (first_back first e1 e2 x y low aboves.0 belows.0, last_back last e1 e2 x y high belows.1 aboves.1)

  -- they lie between the old outer ones
  pub ways_bounded : (y : ℤ) → moved_by first e1 e2 ≤ℤ y → y ≤ℤ moved_by last e2 e1 → (from_below first last e1 y ≤ℤ int_max e1 e2) × (int_min e1 e2 ≤ℤ from_above first last e2 y)
  ways_bounded y low high = (
    greatest_under e1 (int_max e1 e2) (when_falling first y ++ when_rising last y) (omega (arith, ints, clamps)) (under_joined (int_max e1 e2) (when_falling first y) (when_rising last y) (falling_under first e1 e2 y low) (rising_under last e1 e2 y high)),
    least_over e2 (int_min e1 e2) (when_rising first y ++ when_falling last y) (omega (arith, ints, clamps)) (over_joined (int_min e1 e2) (when_rising first y) (when_falling last y) (rising_over first e1 e2 y low) (falling_over last e1 e2 y high)),
  )

  -- the iterations of the old inner loop in iteration i of the outer one, and of the new inner loop in iteration a of the new outer one; how many values of the new outer variable lie before those of the first, and of the old outer one before those of the second
  abbrev pub way_row : ℕ → ℕ
  way_row i = natural (bound_by last (e1 +ℤ pos (i - 1)) -ℤ bound_by first (e1 +ℤ pos (i - 1)) +ℤ pos 1)

  abbrev pub way_column : ℕ → ℕ
  way_column a = natural (from_above first last e2 (moved_by first e1 e2 +ℤ pos (a - 1)) -ℤ from_below first last e1 (moved_by first e1 e2 +ℤ pos (a - 1)) +ℤ pos 1)

  abbrev pub way_later : ℕ → ℕ
  way_later i = natural (bound_by first (e1 +ℤ pos (i - 1)) -ℤ moved_by first e1 e2)

  abbrev pub way_below : ℕ → ℕ
  way_below a = natural (from_below first last e1 (moved_by first e1 e2 +ℤ pos (a - 1)) -ℤ e1)

  -- so the iterations are regrouped
  pub ways_regrouped : IsRegrouped (natural (e2 -ℤ e1 +ℤ pos 1)) (natural (moved_by last e2 e1 -ℤ moved_by first e1 e2 +ℤ pos 1)) way_row way_column way_later way_below
  ways_regrouped = regrouped e1 e2 (moved_by first e1 e2) (moved_by last e2 e1) lo hi p q ways_near (λ y from to. ways_within y) (λ x y low high from to. ways_forth x y low high) (λ x y low high. ways_back x y)

  -- and the variables have the same values
  pub ways_value : (i j : ℕ) → 1 ≤ i → i ≤ natural (e2 -ℤ e1 +ℤ pos 1) → 1 ≤ j → moved_by first e1 e2 +ℤ pos (way_later i + j - 1) ≡ bound_by first (e1 +ℤ pos (i - 1)) +ℤ pos (j - 1)
  ways_value = same_value e1 e2 (moved_by first e1 e2) (moved_by last e2 e1) lo hi p q ways_near (λ y from to. ways_within y) (λ x y low high from to. ways_forth x y low high) (λ x y low high. ways_back x y)

  pub ways_outer : (a b : ℕ) → 1 ≤ a → a ≤ natural (moved_by last e2 e1 -ℤ moved_by first e1 e2 +ℤ pos 1) → 1 ≤ b → from_below first last e1 (moved_by first e1 e2 +ℤ pos (a - 1)) +ℤ pos (b - 1) ≡ e1 +ℤ pos (way_below a + b - 1)
  ways_outer = same_outer e1 e2 (moved_by first e1 e2) (moved_by last e2 e1) lo hi p q ways_near (λ y from to. ways_within y) (λ x y low high from to. ways_forth x y low high) (λ x y low high. ways_back x y)

  pub ways_lie : (a : ℕ) → 1 ≤ a → a ≤ natural (moved_by last e2 e1 -ℤ moved_by first e1 e2 +ℤ pos 1) → (moved_by first e1 e2 ≤ℤ (moved_by first e1 e2 +ℤ pos (a - 1))) × ((moved_by first e1 e2 +ℤ pos (a - 1)) ≤ℤ moved_by last e2 e1)
  ways_lie = new_lies e1 e2 (moved_by first e1 e2) (moved_by last e2 e1) lo hi p q ways_near (λ y from to. ways_within y) (λ x y low high from to. ways_forth x y low high) (λ x y low high. ways_back x y)
