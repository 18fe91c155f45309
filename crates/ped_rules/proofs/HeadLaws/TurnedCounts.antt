-- A DO that goes through its values one by one, with its bounds exchanged and the increment negated: it has as many iterations, and the same values from the last to the first.
use Rattle.std.proofs.Common.{◌≡◌, ℕ, ◌+◌, ◌-◌, ◌≤◌, ℤ, pos, negsuc, neg_ℤ, ◌+ℤ◌, ◌-ℤ◌, ◌*ℤ◌, int_div, refl, sym, ap, ◌∙◌, arith}
use Rattle.std.proofs.lemmas.Int.{ints}
use Rattle.ped_loop_runs.specs.ped_store.specs.Storage.{natural}

pub div_one : (n : ℤ) → int_div n (pos 1) ≡ n
div_one (pos n) = omega (arith, ints)
div_one (negsuc n) = omega (arith, ints)

div_less : (n : ℤ) → int_div n (negsuc 0) ≡ neg_ℤ n
div_less (pos n) = omega (arith, ints)
div_less (negsuc n) = omega (arith, ints)

pub counts_down : (m1 m2 : ℤ) → natural (int_div (m1 -ℤ m2 +ℤ negsuc 0) (negsuc 0)) ≡ natural (int_div (m2 -ℤ m1 +ℤ pos 1) (pos 1))
counts_down m1 m2 = ap natural (div_less (m1 -ℤ m2 +ℤ negsuc 0) ∙ same ∙ sym (div_one (m2 -ℤ m1 +ℤ pos 1)))
  where
    same : neg_ℤ (m1 -ℤ m2 +ℤ negsuc 0) ≡ m2 -ℤ m1 +ℤ pos 1
    same = omega (arith, ints)

some_natural : (q : ℤ) (n : ℕ) → 1 ≤ n → n ≤ natural q → q ≡ pos (natural q)
some_natural (pos q) n one h = refl
some_natural (negsuc q) n one h = absurd (omega (arith, one, h))

pub values_down : (m1 m2 : ℤ) (n k : ℕ) → n ≡ natural (int_div (m2 -ℤ m1 +ℤ pos 1) (pos 1)) → 1 ≤ k → k ≤ n → m2 +ℤ pos (k - 1) *ℤ negsuc 0 ≡ m1 +ℤ pos (n + 1 - k - 1) *ℤ pos 1
values_down m1 m2 n k count from to =
    let whole : m2 -ℤ m1 +ℤ pos 1 ≡ pos n = some_natural (m2 -ℤ m1 +ℤ pos 1) k from (omega (arith, to, ap natural (sym (div_one (m2 -ℤ m1 +ℤ pos 1))), count)) ∙ ap pos (ap natural (sym (div_one (m2 -ℤ m1 +ℤ pos 1))) ∙ sym count) in
    omega (arith, ints, whole, from, to)

pub values_up : (m1 m2 : ℤ) (n k : ℕ) → n ≡ natural (int_div (m2 -ℤ m1 +ℤ negsuc 0) (negsuc 0)) → 1 ≤ k → k ≤ n → m2 +ℤ pos (k - 1) *ℤ pos 1 ≡ m1 +ℤ pos (n + 1 - k - 1) *ℤ negsuc 0
values_up m1 m2 n k count from to =
    let whole : m1 -ℤ m2 +ℤ pos 1 ≡ pos n = same_count in
    omega (arith, ints, whole, from, to)
  where
    turned : natural (m1 -ℤ m2 +ℤ pos 1) ≡ n
    turned = ap natural (sym (div_one (m1 -ℤ m2 +ℤ pos 1))) ∙ sym (counts_down m2 m1) ∙ sym count

    same_count : m1 -ℤ m2 +ℤ pos 1 ≡ pos n
    same_count = some_natural (m1 -ℤ m2 +ℤ pos 1) k from (omega (arith, to, turned)) ∙ ap pos turned
