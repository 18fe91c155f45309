-- Sums and products that are cut at the greatest number of 64 bits.
use Rattle.std.proofs.Common.{◌≡◌, ℕ, zero, suc, ◌+◌, ◌*◌, ◌≤◌, Bool, true, false, refl, ap, ◌∙◌, arith}
use Rattle.std.specs.Prelude.{min, nat_le}
use Rattle.ped_symbols.specs.Passes.{capped}

-- a sum cut once more
pub capped_plus : (a b : ℕ) → capped (capped a + b) ≡ capped (a + b)
capped_plus a b = omega arith

no_less : (m a b : ℕ) → m ≤ a → m ≤ a * suc b
no_less m a b h = omega arith

cut_times : (m a b : ℕ) (within : Bool) → nat_le a m ≡ within → min (min a m * b) m ≡ min (a * b) m
cut_times m a b true e =
    let same : min a m ≡ a = grind (arith, e) in
    ap (λ x. min (x * b) m) same
cut_times m a zero false e = omega arith
cut_times m a (suc b) false e =
    let over : m ≤ a = grind (arith, e) in
    let same : min a m ≡ m = omega arith in
    let left : m ≤ min a m * suc b = no_less m (min a m) b (omega arith) in
    let right : m ≤ a * suc b = no_less m a b over in
    grind (arith, left, right)

-- a product cut once more
pub capped_times : (a b : ℕ) → capped (capped a * b) ≡ capped (a * b)
capped_times a b = cut_times _ a b (nat_le a _) refl

swapped : (p s r : ℕ) → p * s * r ≡ s * (p * r)
swapped p s r = omega arith

-- one more factor, which is cut, before others
pub capped_step : (p s r : ℕ) → capped (capped (p * capped s) * r) ≡ capped (p * (s * r))
capped_step p s r =
    capped_times (p * capped s) r
    ∙ ap capped (swapped p (capped s) r)
    ∙ capped_times s (p * r)
    ∙ ap capped (let e : s * (p * r) ≡ p * (s * r) = omega arith in e)
