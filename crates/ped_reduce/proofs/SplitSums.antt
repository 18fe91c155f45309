-- What is added to a scalar, kept in a high and a low part: no part leaves its range, and together they tell the scalar.
use Rattle.std.proofs.Common.{◌≡◌, ◌^◌, ◌<◌, Bool, true, false, ◌&&◌, refl, sym, ap, ◌∙◌, arith, ℤ, pos, neg_ℤ, ◌+ℤ◌, ◌-ℤ◌, ◌*ℤ◌, ◌≤ℤ◌, ◌<ℤ◌, int_le, int_lt, int_div, int_rem, unsigned_abs, Result, Ok, Err, if◌then◌else◌}
use Rattle.std.proofs.lemmas.Bool.{and_parts}
use Rattle.std.proofs.lemmas.Int.{ints, quot-rem, rem_below}
use Rattle.ped_base.specs.declared.arithmetic.faults.Fault.{Fault}
use Rattle.ped_base.specs.declared.arithmetic.faults.Fault.TheVariants.{OutOfRange}
use Rattle.ped_base.specs.Arithmetic.Faults.{◌>>=◌}
use Rattle.ped_base.specs.Arithmetic.Arithmetic.{in_range, sum_of, difference_of, product_of, quotient_of, remainder_of}
use Rattle.ped_rules.specs.ped_views.proofs.Products.{linear}
use Rattle.ped_rules.specs.ped_store.specs.Stores.{is_storable}

le_is : (a b : ℤ) → a ≤ℤ b → int_le a b ≡ true
le_is a b h = go (int_le a b) refl
  where
    go : (c : Bool) → int_le a b ≡ c → int_le a b ≡ true
    go true e = e
    go false e = absurd (omega (arith, linear, e, h))

lt_is : (a b : ℤ) → a <ℤ b → int_lt a b ≡ true
lt_is a b h = go (int_lt a b) refl
  where
    go : (c : Bool) → int_lt a b ≡ c → int_lt a b ≡ true
    go true e = e
    go false e = absurd (omega (arith, linear, e, h))

-- a number of 32 bits
pub record Is32 (n : ℤ) : Type 0 where
  pub from : neg_ℤ (pos 2147483648) ≤ℤ n
  pub to : n ≤ℤ pos 2147483647

pub storable_32 : (n : ℤ) → is_storable n ≡ true → Is32 n
storable_32 n h =
    let parts = and_parts (int_le (neg_ℤ (pos (2 ^ 31))) n) (int_le n (pos (2 ^ 31) -ℤ pos 1)) h in
    let from = parts.0 in
    let to = parts.1 in
    record { from = omega (arith, linear, from); to = omega (arith, linear, to) }

pub storable_by : (n : ℤ) → Is32 n → is_storable n ≡ true
storable_by n h =
    let from : int_le (neg_ℤ (pos (2 ^ 31))) n ≡ true = le_is (neg_ℤ (pos (2 ^ 31))) n (omega (arith, linear, h.from)) in
    let to : int_le n (pos (2 ^ 31) -ℤ pos 1) ≡ true = le_is n (pos (2 ^ 31) -ℤ pos 1) (omega (arith, linear, h.to)) in
    (λ i. from i && int_le n (pos (2 ^ 31) -ℤ pos 1)) ∙ to

-- a number near zero, and so within 128 bits
pub record IsNear (n : ℤ) : Type 0 where
  pub from : neg_ℤ (pos 1099511627776) ≤ℤ n
  pub to : n ≤ℤ pos 1099511627776

pub near_in : (n : ℤ) → IsNear n → in_range n ≡ Ok n
near_in n near =
    let from : int_le (neg_ℤ (pos (2 ^ 127))) n ≡ true = le_is (neg_ℤ (pos (2 ^ 127))) n (omega (arith, linear, near.from)) in
    let to : int_lt n (pos (2 ^ 127)) ≡ true = lt_is n (pos (2 ^ 127)) (omega (arith, linear, near.to)) in
    ap (λ (b : Bool). if b && int_lt n (pos (2 ^ 127)) then Ok n else Err OutOfRange) from
    ∙ ap (λ (b : Bool). if b then Ok n else Err OutOfRange) to

-- parts of a sum: the low one is small, and x with both of them is y
pub record AreParts (x y a b : ℤ) : Type 0 where
  pub above : neg_ℤ (pos 65536) <ℤ b
  pub below : b <ℤ pos 65536
  pub together : y ≡ x +ℤ (a *ℤ pos 65536 +ℤ b)

-- nothing is added yet
pub no_parts : (x : ℤ) → AreParts x x (pos 0) (pos 0)
no_parts x = record { above = omega (arith, ints); below = omega (arith, ints); together = omega (arith, ints) }

-- what becomes of the parts where n is the low part with what is added: each operation gives its value, both parts are storable, and they tell the scalar's new value z
pub record AreNewParts (x z a n : ℤ) : Type 0 where
  pub sum : in_range n ≡ Ok n
  pub quotient : quotient_of n (pos 65536) ≡ Ok (int_div n (pos 65536))
  pub high : sum_of a (int_div n (pos 65536)) ≡ Ok (a +ℤ int_div n (pos 65536))
  pub low : remainder_of n (pos 65536) ≡ Ok (int_rem n (pos 65536))
  pub high_stored : is_storable (a +ℤ int_div n (pos 65536)) ≡ true
  pub low_stored : is_storable (int_rem n (pos 65536)) ≡ true
  pub parts : AreParts x z (a +ℤ int_div n (pos 65536)) (int_rem n (pos 65536))

-- the quotient and the rest by 65536
module _ (n : ℤ) where
  abbrev q : ℤ
  q = int_div n (pos 65536)

  abbrev r : ℤ
  r = int_rem n (pos 65536)

  whole : q *ℤ pos 65536 +ℤ r ≡ n
  whole = quot-rem n (pos 65536)

  rest_small : unsigned_abs r < 65536
  rest_small = rem_below n (pos 65536) (omega arith)

  rest_above : neg_ℤ (pos 65536) <ℤ r
  rest_above = let h = rest_small in omega (arith, linear, h)

  rest_below : r <ℤ pos 65536
  rest_below = let h = rest_small in omega (arith, linear, h)

  -- MOD is the rest
  remains : IsNear n → IsNear q → IsNear (q *ℤ pos 65536) → IsNear r → remainder_of n (pos 65536) ≡ Ok r
  remains near near_q near_p near_r =
      let d : n -ℤ q *ℤ pos 65536 ≡ r = omega (arith, ints, whole) in
      ap (λ (u : Result ℤ Fault). u >>= λ k. product_of k (pos 65536) >>= λ m. difference_of n m) (near_in q near_q)
      ∙ ap (λ (u : Result ℤ Fault). u >>= λ m. difference_of n m) (near_in (q *ℤ pos 65536) near_p)
      ∙ ap (λ (m : ℤ). in_range m) d
      ∙ near_in r near_r

-- where the scalar's old value y and its new one z have 32 bits, as that behind which the parts began, no part leaves its range
pub split_sum : (x y z a b n : ℤ) → Is32 x → Is32 y → Is32 z → AreParts x y a b → n -ℤ b ≡ z -ℤ y → AreNewParts x z a n
split_sum x y z a b n sx sy sz parts added =
    let above = parts.above in
    let below = parts.below in
    let together = parts.together in
    let w = whole n in
    let ra = rest_above n in
    let rb = rest_below n in
    let near : IsNear n = record { from = omega (arith, ints, above, below, added, sy.from, sy.to, sz.from, sz.to); to = omega (arith, ints, above, below, added, sy.from, sy.to, sz.from, sz.to) } in
    let near_q : IsNear (q n) = record { from = omega (arith, ints, w, ra, rb, near.from, near.to); to = omega (arith, ints, w, ra, rb, near.from, near.to) } in
    let near_p : IsNear (q n *ℤ pos 65536) = record { from = omega (arith, ints, w, ra, rb, near.from, near.to); to = omega (arith, ints, w, ra, rb, near.from, near.to) } in
    let near_r : IsNear (r n) = record { from = omega (arith, ints, ra, rb); to = omega (arith, ints, ra, rb) } in
    let tells : z ≡ x +ℤ ((a +ℤ q n) *ℤ pos 65536 +ℤ r n) = omega (arith, ints, w, together, added) in
    let high : Is32 (a +ℤ q n) = record { from = omega (arith, ints, tells, ra, rb, sx.from, sx.to, sz.from, sz.to); to = omega (arith, ints, tells, ra, rb, sx.from, sx.to, sz.from, sz.to) } in
    let near_h : IsNear (a +ℤ q n) = record { from = omega (arith, ints, high.from); to = omega (arith, ints, high.to) } in
    record {
      sum = near_in n near;
      quotient = near_in (q n) near_q;
      high = near_in (a +ℤ q n) near_h;
      low = remains n near near_q near_p near_r;
      high_stored = storable_by (a +ℤ q n) high;
      low_stored = storable_by (r n) (record { from = omega (arith, ints, ra, rb); to = omega (arith, ints, ra, rb) });
      parts = record { above = ra; below = rb; together = tells };
    }

-- at the exit the parts are put together and added to the scalar: each operation gives its value, and the sum is the scalar's value behind the iteration
pub record AreJoined (x y a b : ℤ) : Type 0 where
  pub product : product_of a (pos 65536) ≡ Ok (a *ℤ pos 65536)
  pub both : sum_of (a *ℤ pos 65536) b ≡ Ok (a *ℤ pos 65536 +ℤ b)
  pub added : sum_of x (a *ℤ pos 65536 +ℤ b) ≡ Ok (x +ℤ (a *ℤ pos 65536 +ℤ b))
  pub is : x +ℤ (a *ℤ pos 65536 +ℤ b) ≡ y

pub join_sum : (x y a b : ℤ) → Is32 x → Is32 y → AreParts x y a b → AreJoined x y a b
join_sum x y a b sx sy parts =
    let above = parts.above in
    let below = parts.below in
    let together = parts.together in
    record {
      product = near_in (a *ℤ pos 65536) (record { from = omega (arith, ints, above, below, together, sx.from, sx.to, sy.from, sy.to); to = omega (arith, ints, above, below, together, sx.from, sx.to, sy.from, sy.to) });
      both = near_in (a *ℤ pos 65536 +ℤ b) (record { from = omega (arith, ints, above, below, together, sx.from, sx.to, sy.from, sy.to); to = omega (arith, ints, above, below, together, sx.from, sx.to, sy.from, sy.to) });
      added = near_in (x +ℤ (a *ℤ pos 65536 +ℤ b)) (record { from = omega (arith, ints, together, sy.from, sy.to); to = omega (arith, ints, together, sy.from, sy.to) });
      is = sym together;
    }
