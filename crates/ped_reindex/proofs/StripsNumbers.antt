-- Strips of so many iterations each: how many there are, and how many iterations the last one has.
use Rattle.std.proofs.Common.{Bool, List, ap, append_assoc, arith, false, if◌then◌else◌, inl, inr, int_div, int_lt, nat_le, negsuc, pos, refl, suc, sym, true, zero, ℕ, ℤ, ◌%◌, ◌*ℤ◌, ◌*◌, ◌++◌, ◌+ℤ◌, ◌+◌, ◌-ℤ◌, ◌-◌, ◌/◌, ◌<ℤ◌, ◌<◌, ◌∙◌, ◌≡◌, ◌≤ℤ◌, ◌≤◌, ◌⊎◌}
use Rattle.std.proofs.Math.Decide.{dec_lt}
use Rattle.std.proofs.Math.Logic.{dite}
use Rattle.std.proofs.Math.Nat.{add-mul-div_right, add-mul-mod_self_right, div-eq_of_lt, div-mul-le_self, mod-eq_of_lt, mod-lt, mul-le-mul_right, zero-mul}
use Rattle.std.proofs.lemmas.Bool.Decides.{nat_tests}
use Rattle.std.proofs.lemmas.Int.{ints}
use Rattle.std.proofs.lemmas.Nat.{div-add-mod'}
use Rattle.std.specs.Int.{int_min}
use Rattle.std.specs.List.{flat_map, range_with_len}
use Rattle.std.specs.Prelude.{cond}
use Rattle.ped_rules.proofs.HeadLaws.TurnedCounts.{div_one}
use Rattle.ped_rules.specs.ped_eval.specs.Loops.{iteration_count}
use Rattle.ped_rules.specs.ped_store.specs.Storage.{natural}
use Rattle.ped_rules.specs.ped_views.proofs.Products.{linear}

-- products by one more
one_more : (x K : ℕ) → suc x * K ≡ x * K + K
one_more x K = omega arith

one_less : (q K : ℕ) → 1 ≤ q → q * K ≡ (q - 1) * K + K
one_less q K h = ap (λ (n : ℕ). n * K) (let e : q ≡ suc (q - 1) = omega (arith, h) in e) ∙ one_more (q - 1) K

-- quotients of numbers that aren't negative
quotient_is : (y K : ℕ) → natural (int_div (pos y) (pos K)) ≡ y / K
quotient_is y K = omega (arith, ints)

quotient_none : (y K : ℕ) → natural (int_div (negsuc y) (pos K)) ≡ 0
quotient_none y K = omega (arith, ints)

not_less : (a b : ℤ) → int_lt a b ≡ false → b ≤ℤ a
not_less a b h = omega (arith, linear, h)

is_less : (a b : ℤ) → int_lt a b ≡ true → a <ℤ b
is_less a b h = omega (arith, linear, h)

-- whole numbers, or 0
natural_less : (z : ℤ) (a b : ℕ) → z ≡ pos a -ℤ pos b → natural z ≡ a - b
natural_less (pos n) a b e = omega (arith, ints, e)
natural_less (negsuc n) a b e = omega (arith, ints, e)

natural_most : (z : ℤ) (n : ℕ) → z ≤ℤ pos n → natural z ≤ n
natural_most (pos m) n e = omega (arith, ints, e)
natural_most (negsuc m) n e = omega (arith, ints, e)

unit_count : (m1 m2 : ℤ) → iteration_count m1 m2 (pos 1) ≡ natural (m2 -ℤ m1 +ℤ pos 1)
unit_count m1 m2 = ap natural (div_one (m2 -ℤ m1 +ℤ pos 1))

module _ (K : ℕ) (some : 2 ≤ K) (m1 m2 : ℤ) where
  abbrev pub whole : ℕ
  whole = iteration_count m1 m2 (pos 1)

  abbrev pub strips : ℕ
  strips = iteration_count m1 m2 (pos K)

  -- the first iteration of a strip is there, and the strips have all iterations
  pub record AreStrips : Type 0 where
    pub first : (q : ℕ) → 1 ≤ q → q ≤ strips → (q - 1) * K < whole
    pub all : whole ≤ strips * K

  pub are_strips : AreStrips
  are_strips = by (m2 -ℤ m1 +ℤ pos K) refl
    where
      by : (z : ℤ) → m2 -ℤ m1 +ℤ pos K ≡ z → AreStrips
      by (negsuc y) e =
          let none : strips ≡ 0 = ap (λ (z : ℤ). natural (int_div z (pos K))) e ∙ quotient_none y K in
          let empty : natural (m2 -ℤ m1 +ℤ pos 1) ≤ 0 = natural_most (m2 -ℤ m1 +ℤ pos 1) 0 (omega (arith, ints, e, some)) in
          record {
            first = λ q from to. absurd (omega (arith, none, from, to));
            all = let count = unit_count m1 m2 in omega (arith, count, empty);
          }
      by (pos y) e =
          let quotient : strips ≡ y / K = ap (λ (z : ℤ). natural (int_div z (pos K))) e ∙ quotient_is y K in
          let number : whole ≡ y + 1 - K = unit_count m1 m2 ∙ natural_less (m2 -ℤ m1 +ℤ pos 1) (y + 1) K (omega (arith, ints, e)) in
          record {
            first = λ q from to.
                let under : q * K ≤ y / K * K = mul-le-mul_right K (let low : q ≤ y / K = omega (arith, to, quotient) in low) in
                let below : y / K * K ≤ y = div-mul-le_self y K in
                let parts = one_less q K from in
                omega (arith, under, below, parts, number, some);
            all =
                let parts : y / K * K + y % K ≡ y = div-add-mod' y K in
                let small : y % K < K = mod-lt y (let more : 0 < K = omega (arith, some) in more) in
                let same : strips * K ≡ y / K * K = ap (λ (n : ℕ). n * K) quotient in
                omega (arith, parts, small, same, number);
          }

  -- the value of the first iteration of a strip, and of its last
  abbrev pub strip_first : ℕ → ℤ
  strip_first q = m1 +ℤ pos (q - 1) *ℤ pos K

  abbrev pub strip_last : ℕ → ℤ
  strip_last q = int_min (strip_first q +ℤ (pos K -ℤ pos 1)) m2

  -- so many iterations it has
  abbrev pub in_strip : ℕ → ℕ
  in_strip q = iteration_count (strip_first q) (strip_last q) (pos 1)

  -- where the strip's first value lies
  pub record IsStrip (q : ℕ) : Type 0 where
    pub from : 1 ≤ in_strip q
    pub to : in_strip q ≤ K
    pub within : (q - 1) * K + in_strip q ≤ whole
    pub full : (in_strip q ≡ K) ⊎ ((q - 1) * K + in_strip q ≡ whole)
    pub first : m1 ≤ℤ strip_first q
    pub last : strip_first q ≤ℤ strip_last q
    pub end : strip_last q ≤ℤ m2

  some_whole : (x : ℕ) → x < whole → m2 -ℤ m1 +ℤ pos 1 ≡ pos whole
  some_whole x less = by (m2 -ℤ m1 +ℤ pos 1) refl
    where
      count : whole ≡ natural (m2 -ℤ m1 +ℤ pos 1)
      count = unit_count m1 m2

      by : (z : ℤ) → m2 -ℤ m1 +ℤ pos 1 ≡ z → m2 -ℤ m1 +ℤ pos 1 ≡ pos whole
      by (pos y) e = e ∙ ap pos (sym (count ∙ ap natural e))
      by (negsuc y) e = absurd (let none : whole ≡ 0 = count ∙ ap natural e in omega (arith, none, less))

  product : (x : ℕ) → pos x *ℤ pos K ≡ pos (x * K)
  product x = omega (arith, ints)

  pub is_strip : (q : ℕ) → 1 ≤ q → q ≤ strips → IsStrip q
  is_strip q from to = by (int_lt m2 (strip_first q +ℤ (pos K -ℤ pos 1))) refl
    where
      below : (q - 1) * K < whole
      below = are_strips.first q from to

      length_is : m2 -ℤ m1 +ℤ pos 1 ≡ pos whole
      length_is = some_whole ((q - 1) * K) below

      at : strip_first q ≡ m1 +ℤ pos ((q - 1) * K)
      at = ap (λ (z : ℤ). m1 +ℤ z) (product (q - 1))

      by : (b : Bool) → int_lt m2 (strip_first q +ℤ (pos K -ℤ pos 1)) ≡ b → IsStrip q
      by true e =
          let last_is : strip_last q ≡ m2 = ap (λ (r : Bool). cond r m2 (strip_first q +ℤ (pos K -ℤ pos 1))) e in
          let less : m2 <ℤ (strip_first q +ℤ (pos K -ℤ pos 1)) = is_less m2 (strip_first q +ℤ (pos K -ℤ pos 1)) e in
          let count : in_strip q ≡ natural (m2 -ℤ (m1 +ℤ pos ((q - 1) * K)) +ℤ pos 1) = unit_count (strip_first q) (strip_last q) ∙ (λ i. natural (last_is i -ℤ at i +ℤ pos 1)) in
          let number : in_strip q ≡ whole - (q - 1) * K = count ∙ left (pos ((q - 1) * K)) ((q - 1) * K) refl in
          record {
            from = omega (arith, number, below);
            to = shorter less;
            within = omega (arith, number, below);
            full = inr (omega (arith, number, below));
            first = omega (arith, ints, at);
            last = omega (arith, ints, at, last_is, length_is, below);
            end = omega (arith, ints, last_is);
          }
        where
          left : (z : ℤ) (n : ℕ) → z ≡ pos n → natural (m2 -ℤ (m1 +ℤ z) +ℤ pos 1) ≡ whole - n
          left z n is = natural_less (m2 -ℤ (m1 +ℤ z) +ℤ pos 1) whole n (omega (arith, ints, is, length_is))

          small : (f : ℤ) → m2 <ℤ (f +ℤ (pos K -ℤ pos 1)) → in_strip q ≡ natural (m2 -ℤ f +ℤ pos 1) → in_strip q ≤ K
          small f less count = let most = natural_most (m2 -ℤ f +ℤ pos 1) K (omega (arith, ints, less)) in omega (arith, count, most)

          shorter : m2 <ℤ (strip_first q +ℤ (pos K -ℤ pos 1)) → in_strip q ≤ K
          shorter less =
              let last_is : strip_last q ≡ m2 = ap (λ (r : Bool). cond r m2 (strip_first q +ℤ (pos K -ℤ pos 1))) e in
              let count : in_strip q ≡ natural (m2 -ℤ strip_first q +ℤ pos 1) = unit_count (strip_first q) (strip_last q) ∙ (λ i. natural (last_is i -ℤ strip_first q +ℤ pos 1)) in
              small (strip_first q) less count
      by false e =
          let last_is : strip_last q ≡ strip_first q +ℤ (pos K -ℤ pos 1) = ap (λ (r : Bool). cond r m2 (strip_first q +ℤ (pos K -ℤ pos 1))) e in
          let count : in_strip q ≡ natural (strip_first q +ℤ (pos K -ℤ pos 1) -ℤ strip_first q +ℤ pos 1) = unit_count (strip_first q) (strip_last q) ∙ (λ i. natural (last_is i -ℤ strip_first q +ℤ pos 1)) in
          let number : in_strip q ≡ K = count ∙ full_is (strip_first q) in
          let most : (strip_first q +ℤ (pos K -ℤ pos 1)) ≤ℤ m2 = not_less m2 (strip_first q +ℤ (pos K -ℤ pos 1)) e in
          record {
            from = omega (arith, number, some);
            to = omega (arith, number);
            within = fits ((q - 1) * K) (strip_first q) at most number;
            full = inl number;
            first = omega (arith, ints, at);
            last = further (strip_first q) (strip_last q) last_is;
            end = omega (arith, ints, last_is, most);
          }
        where
          full_is : (f : ℤ) → natural (f +ℤ (pos K -ℤ pos 1) -ℤ f +ℤ pos 1) ≡ K
          full_is f = ap natural (let e : f +ℤ (pos K -ℤ pos 1) -ℤ f +ℤ pos 1 ≡ pos K = omega (arith, ints) in e)

          fits : (x : ℕ) (f : ℤ) → f ≡ m1 +ℤ pos x → (f +ℤ (pos K -ℤ pos 1)) ≤ℤ m2 → in_strip q ≡ K → x + in_strip q ≤ whole
          fits x f is most number = omega (arith, ints, is, most, number, length_is)

          further : (f g : ℤ) → g ≡ f +ℤ (pos K -ℤ pos 1) → f ≤ℤ g
          further f g is = omega (arith, ints, is, some)

  -- an iteration of the whole in its strip
  pub record IsInStrip (i : ℕ) : Type 0 where
    pub from : 1 ≤ (i - 1) / K + 1
    pub to : (i - 1) / K + 1 ≤ strips
    pub inner_from : 1 ≤ (i - 1) % K + 1
    pub inner_to : (i - 1) % K + 1 ≤ in_strip ((i - 1) / K + 1)
    pub is : ((i - 1) / K + 1 - 1) * K + ((i - 1) % K + 1) ≡ i

  pub is_in_strip : (i : ℕ) → 1 ≤ i → i ≤ whole → IsInStrip i
  is_in_strip i from to =
      let parts : (i - 1) / K * K + (i - 1) % K ≡ i - 1 = div-add-mod' (i - 1) K in
      let small : (i - 1) % K < K = mod-lt (i - 1) (let more : 0 < K = omega (arith, some) in more) in
      let same : ((i - 1) / K + 1 - 1) * K ≡ (i - 1) / K * K = ap (λ (n : ℕ). n * K) (let back : (i - 1) / K + 1 - 1 ≡ (i - 1) / K = omega arith in back) in
      let number : ((i - 1) / K + 1 - 1) * K + ((i - 1) % K + 1) ≡ i = omega (arith, parts, same, from) in
      let under : (i - 1) / K + 1 ≤ strips = there ((i - 1) / K) (omega (arith, parts, from, to)) in
      let strip = is_strip ((i - 1) / K + 1) (omega arith) under in
      record {
        from = omega arith;
        to = under;
        inner_from = omega arith;
        inner_to = elim strip.full [ inl k ↦ omega (arith, k, small) | inr k ↦ omega (arith, k, number, to) ];
        is = number;
      }
    where
      there : (z : ℕ) → z * K < whole → z + 1 ≤ strips
      there z less =
          let all = are_strips.all in
          let below : z * K < strips * K = omega (arith, less, all) in
          dite (dec_lt z strips) (λ k. omega (arith, k)) (λ k. absurd (let more : strips * K ≤ z * K = mul-le-mul_right K (omega (arith, k)) in omega (arith, more, below)))

  -- and back
  pub record IsOfStrip (q r : ℕ) : Type 0 where
    pub from : 1 ≤ (q - 1) * K + r
    pub to : (q - 1) * K + r ≤ whole
    pub strip : ((q - 1) * K + r - 1) / K + 1 ≡ q
    pub number : ((q - 1) * K + r - 1) % K + 1 ≡ r

  pub is_of_strip : (q r : ℕ) → 1 ≤ q → q ≤ strips → 1 ≤ r → r ≤ in_strip q → IsOfStrip q r
  is_of_strip q r from to low high =
      let strip = is_strip q from to in
      let most = strip.to in
      let within = strip.within in
      let before : (q - 1) * K + r - 1 ≡ (r - 1) + (q - 1) * K = omega (arith, low) in
      let small : r - 1 < K = omega (arith, low, high, most) in
      let more : 0 < K = omega (arith, some) in
      let quotient : ((q - 1) * K + r - 1) / K ≡ q - 1 = ap (λ (n : ℕ). n / K) before ∙ add-mul-div_right (r - 1) (q - 1) more ∙ (let none : (r - 1) / K ≡ 0 = div-eq_of_lt small in omega (arith, none)) in
      let remainder : ((q - 1) * K + r - 1) % K ≡ r - 1 = ap (λ (n : ℕ). n % K) before ∙ add-mul-mod_self_right (r - 1) (q - 1) K ∙ mod-eq_of_lt small in
      record {
        from = omega (arith, low);
        to = omega (arith, high, within);
        strip = omega (arith, quotient, from);
        number = omega (arith, remainder, low);
      }

  -- both have the same value
  pub same_value : (q r : ℕ) → 1 ≤ r → strip_first q +ℤ pos (r - 1) *ℤ pos 1 ≡ m1 +ℤ pos ((q - 1) * K + r - 1) *ℤ pos 1
  same_value q r low = ap (λ (z : ℤ). m1 +ℤ z +ℤ pos (r - 1) *ℤ pos 1) (product (q - 1)) ∙ by ((q - 1) * K)
    where
      by : (x : ℕ) → m1 +ℤ pos x +ℤ pos (r - 1) *ℤ pos 1 ≡ m1 +ℤ pos (x + r - 1) *ℤ pos 1
      by x = omega (arith, ints, low)

-- rows one behind the other are one row
shifted : {X : Type 0} (f : ℕ → List X) (k b s : ℕ) → flat_map (λ r. f (s + r)) (range_with_len b k) ≡ flat_map f (range_with_len (s + b) k)
shifted f zero b s = refl
shifted f (suc k) b s = ap (λ xs. f (s + b) ++ xs) (shifted f k (b + 1) s ∙ ap (λ (c : ℕ). flat_map f (range_with_len c k)) (let e : s + (b + 1) ≡ s + b + 1 = omega arith in e))

one_row : {X : Type 0} (f : ℕ → List X) (k n b : ℕ) → flat_map f (range_with_len b k) ++ flat_map f (range_with_len (b + k) n) ≡ flat_map f (range_with_len b (k + n))
one_row f zero n b = λ i. flat_map f (range_with_len (let e : b + 0 ≡ b = omega arith in e i) (let e : n ≡ 0 + n = omega arith in e i))
one_row f (suc k) n b =
    append_assoc (f b) (flat_map f (range_with_len (b + 1) k)) (flat_map f (range_with_len (b + suc k) n))
    ∙ ap (λ xs. f b ++ xs) (ap (λ (c : ℕ). flat_map f (range_with_len (b + 1) k) ++ flat_map f (range_with_len c n)) (let e : b + suc k ≡ b + 1 + k = omega arith in e) ∙ one_row f k n (b + 1))
    ∙ ap (λ (m : ℕ). flat_map f (range_with_len b m)) (let e : suc (k + n) ≡ suc k + n = omega arith in e)

rows_joined : {X : Type 0} (f : ℕ → List X) (start count : ℕ → ℕ) (m a : ℕ) → ((q : ℕ) → a ≤ q → q < a + m → start (q + 1) ≡ start q + count q)
    → (n : ℕ) × (start (a + m) ≡ start a + n) × (flat_map (λ q. flat_map (λ r. f (start q + r)) (range_with_len 1 (count q))) (range_with_len a m) ≡ flat_map f (range_with_len (start a + 1) n))
rows_joined f start count zero a steps = (0, ap start (let e : a + 0 ≡ a = omega arith in e) ∙ (let f : start a ≡ start a + 0 = omega arith in f), refl)
rows_joined f start count (suc m) a steps =
    let next : start (a + 1) ≡ start a + count a = steps a (omega arith) (omega arith) in
    let r = rows_joined f start count m (a + 1) (λ q from to. steps q (omega (arith, from)) (omega (arith, to))) in
    let rest = r.1 in (
      count a + r.0,
      ap start (let e : a + suc m ≡ a + 1 + m = omega arith in e) ∙ (let e : start (a + 1 + m) ≡ start a + (count a + r.0) = omega (arith, next, rest) in e),
      (λ i. shifted f (count a) 1 (start a) i ++ r.2 i)
          ∙ ap (λ (c : ℕ). flat_map f (range_with_len (start a + 1) (count a)) ++ flat_map f (range_with_len c r.0)) (let e : start (a + 1) + 1 ≡ start a + 1 + count a = omega (arith, next) in e)
          ∙ one_row f (count a) r.0 (start a + 1),
    )

-- so the strips have the iterations of the whole in order
module _ (K : ℕ) (some : 2 ≤ K) (m1 m2 : ℤ) where
  abbrev n : ℕ
  n = whole K some m1 m2

  abbrev rows : ℕ
  rows = strips K some m1 m2

  -- what stands before a strip
  abbrev start : ℕ → ℕ
  start q = if nat_le ((q - 1) * K) n then (q - 1) * K else n

  start_within : (q : ℕ) → (q - 1) * K ≤ n → start q ≡ (q - 1) * K
  start_within q less = ap (λ (b : Bool). if b then (q - 1) * K else n) (let test : nat_le ((q - 1) * K) n ≡ true = grind (arith, nat_tests, less) in test)

  start_behind : (q : ℕ) → n ≤ (q - 1) * K → start q ≡ n
  start_behind q more = go (nat_le ((q - 1) * K) n) refl
    where
      go : (b : Bool) → nat_le ((q - 1) * K) n ≡ b → (if b then (q - 1) * K else n) ≡ n
      go true e = let less : (q - 1) * K ≤ n = grind (arith, nat_tests, e) in omega (arith, less, more)
      go false e = refl

  next_product : (q : ℕ) → 1 ≤ q → (q + 1 - 1) * K ≡ (q - 1) * K + K
  next_product q h = ap (λ (n : ℕ). n * K) (let e : q + 1 - 1 ≡ q = omega arith in e) ∙ one_less q K h

  steps : (q : ℕ) → 1 ≤ q → q < 1 + rows → start (q + 1) ≡ start q + in_strip K some m1 m2 q
  steps q from less =
      let strip = is_strip K some m1 m2 q from (omega (arith, less)) in
      let within = strip.within in
      let here : start q ≡ (q - 1) * K = start_within q (omega (arith, within)) in
      let product = next_product q from in
      elim strip.full [
        | inl full ↦ (let there : start (q + 1) ≡ (q + 1 - 1) * K = start_within (q + 1) (omega (arith, product, full, within)) in omega (arith, here, there, product, full))
        | inr last ↦ (let most = strip.to in let there : start (q + 1) ≡ n = start_behind (q + 1) (omega (arith, product, last, most)) in omega (arith, here, there, last))
      ]

  all_before : start (1 + rows) ≡ n
  all_before = start_behind (1 + rows) (let all = (are_strips K some m1 m2).all in let same : (1 + rows - 1) * K ≡ rows * K = ap (λ (k : ℕ). k * K) (let e : 1 + rows - 1 ≡ rows = omega arith in e) in omega (arith, all, same))

  pub strips_joined : {X : Type 0} (f : ℕ → List X) → flat_map (λ q. flat_map (λ r. f ((q - 1) * K + r)) (range_with_len 1 (in_strip K some m1 m2 q))) (range_with_len 1 rows) ≡ flat_map f (range_with_len 1 n)
  strips_joined f =
      let r = rows_joined f start (in_strip K some m1 m2) rows 1 steps in
      let first : start 1 ≡ 0 = start_within 1 (let none = zero-mul K in omega (arith, none)) ∙ zero-mul K in
      let whole_is = r.1 in
      let end = all_before in
      same_rows rows 1 (omega arith) (omega arith)
      ∙ r.2 ∙ (λ i. flat_map f (range_with_len (let e : start 1 + 1 ≡ 1 = omega (arith, first) in e i) (let e : r.0 ≡ n = omega (arith, first, whole_is, end) in e i)))
    where
      same_rows : (m a : ℕ) → 1 ≤ a → a + m ≤ 1 + rows
          → flat_map (λ q. flat_map (λ r. f ((q - 1) * K + r)) (range_with_len 1 (in_strip K some m1 m2 q))) (range_with_len a m) ≡ flat_map (λ q. flat_map (λ r. f (start q + r)) (range_with_len 1 (in_strip K some m1 m2 q))) (range_with_len a m)
      same_rows zero a from to = refl
      same_rows (suc m) a from to =
          let within = (is_strip K some m1 m2 a from (omega (arith, to))).within in
          let here : start a ≡ (a - 1) * K = start_within a (omega (arith, within)) in
          λ i. flat_map (λ r. f (sym here i + r)) (range_with_len 1 (in_strip K some m1 m2 a)) ++ same_rows m (a + 1) (omega arith) (omega (arith, to)) i
