-- What is decided by its parts: conjunctions, equations and orders of whole numbers, divisibility, sentences on lists.
use Rattle.std.proofs.Common.{◌≡◌, ◌⊎◌, refl, inl, inr, arith, ℤ, pos, ◌≤ℤ◌, ◌<ℤ◌, List, [], ◌∷◌, Bool, true, false, IsTrue, int_rem, int_div}
use Rattle.std.specs.List.{AllByRecursion}
use Rattle.std.proofs.lemmas.Int.{by_lt_z}
use Rattle.ped_rules.specs.ped_views.specs.Whole.{Divides}
use Rattle.ped_rules.specs.ped_views.proofs.Products.{linear, divides_by_rem, rem_by_divides}
use Rattle.ped_rules.specs.ped_views.proofs.Dividing.{divides_by_zero, divides_zero}
use Rattle.ped_splits.proofs.Existence.Sentences.{Decided}

pub decided_same : {P Q : Type 0} → (P → Q) → (Q → P) → Decided P → Decided Q
decided_same to from (inl p) = inl (to p)
decided_same to from (inr n) = inr (λ q. n (from q))

pub decided_not : {P : Type 0} → Decided P → Decided (¬ P)
decided_not (inl p) = inr (λ n. n p)
decided_not (inr n) = inl n

pub decided_both : {P Q : Type 0} → Decided P → Decided Q → Decided (P × Q)
decided_both (inl p) (inl q) = inl (p, q)
decided_both (inl p) (inr n) = inr (λ x. n x.1)
decided_both (inr n) d = inr (λ x. n x.0)

pub decided_either : {P Q : Type 0} → Decided P → Decided Q → Decided (P ⊎ Q)
decided_either (inl p) d = inl (inl p)
decided_either (inr n) (inl q) = inl (inr q)
decided_either {P} {Q} (inr n) (inr m) = inr neither
  where
    neither : ¬ (P ⊎ Q)
    neither (inl p) = n p
    neither (inr q) = m q

pub decided_where : {P Q : Type 0} → Decided P → Decided Q → Decided (P → Q)
decided_where (inl p) (inl q) = inl (λ x. q)
decided_where (inl p) (inr n) = inr (λ f. n (f p))
decided_where (inr n) d = inl (λ p. absurd (n p))

pub true_decided : (b : Bool) → Decided (IsTrue b)
true_decided true = inl refl
true_decided false = inr (λ t. absurd (cc))

pub less_decided : (x y : ℤ) → Decided (x <ℤ y)
less_decided x y = by_lt_z x y (λ h. inl h) (λ h. inr (λ k. omega (arith, linear)))

pub at_most_decided : (x y : ℤ) → Decided (x ≤ℤ y)
at_most_decided x y = by_lt_z y x (λ h. inr (λ k. omega (arith, linear))) (λ h. inl h)

pub equal_decided : (x y : ℤ) → Decided (x ≡ y)
equal_decided x y =
    by_lt_z x y (λ h. inr (λ e. omega (arith, linear)))
    (λ h. by_lt_z y x (λ k. inr (λ e. omega (arith, linear))) (λ k. inl (omega (arith, linear))))

-- by the remainder, where the divisor isn't 0
pub divides_decided : (d n : ℤ) → Decided (Divides d n)
divides_decided d n = by (equal_decided d (pos 0))
  where
    by : Decided (d ≡ pos 0) → Decided (Divides d n)
    by (inl z) = decided_same (divides_zero d n) (divides_by_zero d n z) (equal_decided n (pos 0))
    by (inr s) = decided_same (λ e. (int_div n d, divides_by_rem n d e)) (rem_by_divides n d s) (equal_decided (int_rem n d) (pos 0))

pub all_decided : {X : Type 0} (P : X → Type 0) → ((x : X) → Decided (P x)) → (xs : List X) → Decided (AllByRecursion P xs)
all_decided P each [] = inl tt
all_decided P each (x ∷ xs) = decided_both (each x) (all_decided P each xs)
