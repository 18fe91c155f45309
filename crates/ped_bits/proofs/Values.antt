-- The values of a function as a list, and what the sets of places are by the values at each place.
use Rattle.std.proofs.Common.{◌≡◌, ℕ, zero, suc, ◌<◌, ◌≤◌, ◌∷◌, length, replicate, slice_set, slice_index_or, Bool, true, false, ◌&&◌, ◌||◌, not, refl, ap, arith}
use Rattle.std.proofs.lemmas.List.{get_or_past}
use Rattle.ped_bits.specs.Places.{union, without}
use Rattle.ped_bits.specs.Words.{values}

pub length-values : (f : ℕ → Bool) (n : ℕ) → length (values f n) ≡ n
length-values f zero = refl
length-values f (suc n) = ap suc (length-values (λ k. f (suc k)) n)

pub values_at : (f : ℕ → Bool) (n k : ℕ) (d : Bool) → k < n → slice_index_or (values f n) k d ≡ f k
values_at f zero k d h = absurd (omega arith)
values_at f (suc n) zero d h = refl
values_at f (suc n) (suc k) d h = values_at (λ j. f (suc j)) n k d (omega arith)

pub values_past : (f : ℕ → Bool) (n k : ℕ) (d : Bool) → n ≤ k → slice_index_or (values f n) k d ≡ d
values_past f n k d h = get_or_past (values f n) k d (rw (length-values f n) h)

pub values_same : (f g : ℕ → Bool) (n : ℕ) → ((k : ℕ) → f k ≡ g k) → values f n ≡ values g n
values_same f g zero e = refl
values_same f g (suc n) e = λ i. e 0 i ∷ values_same (λ k. f (suc k)) (λ k. g (suc k)) n (λ k. e (suc k)) i

pub values_none : (f : ℕ → Bool) (n : ℕ) → ((k : ℕ) → f k ≡ false) → values f n ≡ replicate n false
values_none f zero e = refl
values_none f (suc n) e = λ i. e 0 i ∷ values_none (λ k. f (suc k)) n (λ k. e (suc k)) i

pub values_union : (f g h : ℕ → Bool) (n : ℕ) → ((k : ℕ) → f k ≡ (g k || h k)) → values f n ≡ union (values g n) (values h n)
values_union f g h zero e = refl
values_union f g h (suc n) e = λ i. e 0 i ∷ values_union (λ k. f (suc k)) (λ k. g (suc k)) (λ k. h (suc k)) n (λ k. e (suc k)) i

pub values_without : (f g h : ℕ → Bool) (n : ℕ) → ((k : ℕ) → f k ≡ (g k && not (h k))) → values f n ≡ without (values g n) (values h n)
values_without f g h zero e = refl
values_without f g h (suc n) e = λ i. e 0 i ∷ values_without (λ k. f (suc k)) (λ k. g (suc k)) (λ k. h (suc k)) n (λ k. e (suc k)) i

pub values_set : (f g : ℕ → Bool) (n p : ℕ) → f p ≡ true → ((k : ℕ) → ¬ (k ≡ p) → f k ≡ g k) → values f n ≡ slice_set (values g n) p true
values_set f g zero p t e = refl
values_set f g (suc n) zero t e = λ i. t i ∷ values_same (λ k. f (suc k)) (λ k. g (suc k)) n (λ k. e (suc k) (λ (z : suc k ≡ 0). absurd (omega arith))) i
values_set f g (suc n) (suc p) t e = λ i. e 0 (λ (z : 0 ≡ suc p). absurd (omega arith)) i ∷ values_set (λ k. f (suc k)) (λ k. g (suc k)) n p t (λ k z. e (suc k) (λ (y : suc k ≡ suc p). z (omega arith))) i
