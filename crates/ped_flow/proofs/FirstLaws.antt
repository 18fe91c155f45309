-- The least number of which something holds.
use Rattle.std.proofs.Common.{◌≡◌, ℕ, ◌≤◌, Bool, true, false, ◌⊎◌, ◌↔◌, IsTrue, Option, Some, None, nat_le, refl, inl, inr, min, subst, arith}
use Rattle.ped_flow.specs.Questions.{IsFirst}
use Rattle.ped_flow.specs.Summaries.{least_of, when}
use Rattle.ped_flow.proofs.Truths.{untrue}

pub first_map : (P Q : ℕ → Type 0) (a : Option ℕ) → ((n : ℕ) → P n → Q n) → ((n : ℕ) → Q n → P n) → IsFirst P a → IsFirst Q a
first_map P Q None to from h = λ n q. h n (from n q)
first_map P Q (Some a) to from h = (to a h.0, λ n q. h.1 n (from n q))

pub first_or : (P Q : ℕ → Type 0) (a b : Option ℕ) → IsFirst P a → IsFirst Q b → IsFirst (λ n. P n ⊎ Q n) (least_of a b)
first_or P Q None None h k = none
  where
    none : (n : ℕ) → P n ⊎ Q n → ⊥
    none n (inl p) = h n p
    none n (inr q) = k n q
first_or P Q None (Some b) h k = (inr k.0, least)
  where
    least : (n : ℕ) → P n ⊎ Q n → b ≤ n
    least n (inl p) = absurd (h n p)
    least n (inr q) = k.1 n q
first_or P Q (Some a) None h k = (inl h.0, least)
  where
    least : (n : ℕ) → P n ⊎ Q n → a ≤ n
    least n (inl p) = h.1 n p
    least n (inr q) = absurd (k n q)
first_or P Q (Some a) (Some b) h k = by (nat_le a b) refl
  where
    below : (n : ℕ) → a ≤ b → P n ⊎ Q n → a ≤ n
    below n e (inl p) = h.1 n p
    below n e (inr q) = let f = k.1 n q in omega arith

    above : (n : ℕ) → b ≤ a → P n ⊎ Q n → b ≤ n
    above n e (inl p) = let f = h.1 n p in omega arith
    above n e (inr q) = k.1 n q

    by : (r : Bool) → nat_le a b ≡ r → IsFirst (λ n. P n ⊎ Q n) (Some (min a b))
    by true e =
        let f : a ≤ b = grind arith in
        let m : a ≡ min a b = omega arith in
        subst (λ (z : ℕ). IsFirst (λ n. P n ⊎ Q n) (Some z)) m (inl h.0, λ n s. below n f s)
    by false e =
        let f : b ≤ a = grind arith in
        let m : b ≡ min a b = omega arith in
        subst (λ (z : ℕ). IsFirst (λ n. P n ⊎ Q n) (Some z)) m (inr k.0, λ n s. above n f s)

pub first_when : (K : Type 0) (Q : ℕ → Type 0) (test : Bool) (b : Option ℕ) → IsTrue test ↔ K → IsFirst Q b → IsFirst (λ n. K × Q n) (when test b)
first_when K Q true None e h = λ n s. h n s.1
first_when K Q true (Some b) e h = ((e.0 refl, h.0), λ n s. h.1 n s.1)
first_when K Q false b e h = λ n s. untrue (e.1 s.0)
