-- Coefficients of which one alone isn't 0, and the rows of the two parts of a branch that is divided.
use Rattle.std.proofs.Common.{◌≡◌, ℕ, ◌+◌, ◌-◌, ◌^◌, ◌≤◌, ap, ◌∙◌, arith, ℤ, pos, negsuc, ◌-ℤ◌, List, [], ◌∷◌, ◌++◌, replicate, length, take, All, unsigned_abs, append_assoc, length-append, w32, FitsSigned}
use Rattle.std.proofs.lemmas.List.{replicate_more, length-replicate}
use Rattle.std.proofs.lemmas.List.Elements.{All-append, All-cons, All-push, All-replicate, All-same}
use Rattle.ped_certificates.specs.declared.systems.Row.{Row}
use Rattle.ped_certificates.specs.Limits.{IsWithin, IsRow}
use Rattle.ped_certificates.specs.Certificates.{only_at, at_most, more_than}
use Rattle.ped_certificates.proofs.Products.{linear}

pub more_zeros : (front : List ℤ) (a : ℤ) (k u : ℕ) → u ≤ k → (front ++ (a ∷ replicate (k - u) (pos 0))) ++ pos 0 ∷ [] ≡ front ++ (a ∷ replicate (k + 1 - u) (pos 0))
more_zeros front a k u h =
    let e : k - u + 1 ≡ k + 1 - u = omega arith in
    append_assoc front (a ∷ replicate (k - u) (pos 0)) (pos 0 ∷ [])
    ∙ ap (λ (t : List ℤ). front ++ (a ∷ t)) (replicate_more (k - u) (pos 0) ∙ ap (λ (n : ℕ). replicate n (pos 0)) e)

only_length : (n u : ℕ) (a : ℤ) → 1 ≤ u → u ≤ n → length (only_at n u a) ≡ n
only_length n u a h k =
    let l = length-append (replicate (u - 1) (pos 0)) (a ∷ replicate (n - u) (pos 0)) in
    let p = length-replicate (u - 1) (pos 0) in
    let q = length-replicate (n - u) (pos 0) in
    omega arith

only_small : (n u : ℕ) (a : ℤ) → IsWithin (2 ^ 64) a → All (IsWithin (2 ^ 64)) (only_at n u a)
only_small n u a h =
    All-append (IsWithin (2 ^ 64)) (replicate (u - 1) (pos 0)) (a ∷ replicate (n - u) (pos 0))
    (All-replicate (IsWithin (2 ^ 64)) (u - 1) (pos 0) (omega arith))
    (All-cons (IsWithin (2 ^ 64)) a (replicate (n - u) (pos 0)) h (All-replicate (IsWithin (2 ^ 64)) (n - u) (pos 0) (omega arith)))

pub at_most_fits : (n u : ℕ) (k : ℤ) → 1 ≤ u → u ≤ n → FitsSigned w32 k → IsRow n (2 ^ 64) (at_most n u k)
at_most_fits n u k h l f = record {
  as_many = only_length n u (negsuc 0) h l;
  coefficients = only_small n u (negsuc 0) (omega arith);
  constant = small k f;
}
  where
    small : (x : ℤ) → FitsSigned w32 x → unsigned_abs x ≤ 2 ^ 64
    small x f = omega (arith, linear)

more_than_fits : (n u : ℕ) (k : ℤ) → 1 ≤ u → u ≤ n → FitsSigned w32 k → IsRow n (2 ^ 64) (more_than n u k)
more_than_fits n u k h l f = record {
  as_many = only_length n u (pos 1) h l;
  coefficients = only_small n u (pos 1) (omega arith);
  constant = small k f;
}
  where
    small : (x : ℤ) → FitsSigned w32 x → unsigned_abs (negsuc 0 -ℤ x) ≤ 2 ^ 64
    small x f = omega (arith, linear)

-- the rows with which the second part begins
pub second_fits : (n u kept : ℕ) (k : ℤ) (before front now : List Row) (row : Row) → 1 ≤ u → u ≤ n → FitsSigned w32 k → All (IsRow n (2 ^ 64)) (take kept before) → row ≡ more_than n u k → front ≡ take kept before → now ≡ front ++ row ∷ [] → All (IsRow n (2 ^ 64)) now
second_fits n u kept k before front now row h l f all is e same =
    All-same (IsRow n (2 ^ 64)) now (take kept before ++ more_than n u k ∷ []) (same ∙ (λ i. e i ++ is i ∷ []))
    (All-push (IsRow n (2 ^ 64)) (take kept before) (more_than n u k) all (more_than_fits n u k h l f))

-- for `grind`: the row with which the first part begins
pub ruleset split_rows = (at_most_fits, All-push)
