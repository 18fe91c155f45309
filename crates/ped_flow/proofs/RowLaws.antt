-- Rows of bits, place by place.
use Rattle.std.proofs.Common.{◌≡◌, ℕ, zero, suc, ◌<◌, List, [], ◌∷◌, length, replicate, Bool, true, false, ◌&&◌, ◌||◌, not, refl, ap, arith}
use Rattle.ped_bits.specs.Places.{union, without}
use Rattle.ped_flow.specs.RowPlaces.{bit}

pub length-union : (a b : List Bool) → length a ≡ length b → length (union a b) ≡ length a
length-union [] b e = refl
length-union (x ∷ a) [] e = absurd (omega arith)
length-union (x ∷ a) (y ∷ b) e = ap suc (length-union a b (omega arith))

pub length-without : (a b : List Bool) → length a ≡ length b → length (without a b) ≡ length a
length-without [] b e = refl
length-without (x ∷ a) [] e = absurd (omega arith)
length-without (x ∷ a) (y ∷ b) e = ap suc (length-without a b (omega arith))

pub union_at : (a b : List Bool) (i : ℕ) → length a ≡ length b → bit (union a b) i ≡ (bit a i || bit b i)
union_at [] [] i e = refl
union_at [] (y ∷ b) i e = absurd (omega arith)
union_at (x ∷ a) [] i e = absurd (omega arith)
union_at (x ∷ a) (y ∷ b) zero e = refl
union_at (x ∷ a) (y ∷ b) (suc i) e = union_at a b i (omega arith)

pub without_at : (a b : List Bool) (i : ℕ) → length a ≡ length b → bit (without a b) i ≡ (bit a i && not (bit b i))
without_at [] [] i e = refl
without_at [] (y ∷ b) i e = absurd (omega arith)
without_at (x ∷ a) [] i e = absurd (omega arith)
without_at (x ∷ a) (y ∷ b) zero e = refl
without_at (x ∷ a) (y ∷ b) (suc i) e = without_at a b i (omega arith)

pub union-nothing : (n : ℕ) (a : List Bool) → length a ≡ n → union (replicate n false) a ≡ a
union-nothing zero [] e = refl
union-nothing zero (x ∷ a) e = absurd (omega arith)
union-nothing (suc n) [] e = absurd (omega arith)
union-nothing (suc n) (x ∷ a) e = ap (λ (r : List Bool). x ∷ r) (union-nothing n a (omega arith))

pub nothing_at : (n i : ℕ) → bit (replicate n false) i ≡ false
nothing_at zero i = refl
nothing_at (suc n) zero = refl
nothing_at (suc n) (suc i) = nothing_at n i

pub all_at : (n i : ℕ) → i < n → bit (replicate n true) i ≡ true
all_at zero i h = absurd (omega arith)
all_at (suc n) zero h = refl
all_at (suc n) (suc i) h = all_at n i (omega arith)
