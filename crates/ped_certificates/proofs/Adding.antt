-- Coefficients to which a multiple of others is added place by place, and how large they become.
use Rattle.std.proofs.Common.{◌≡◌, ℕ, zero, suc, ◌+◌, ◌-◌, ◌*◌, ◌^◌, ◌<◌, ◌≤◌, refl, ap, ◌∙◌, arith, ℤ, ◌+ℤ◌, ◌*ℤ◌, List, [], ◌∷◌, ◌++◌, map, length, take, drop, set, get_or, All, unsigned_abs, mul-le-mul, append-nil, w32, FitsSigned}
use Rattle.std.specs.Int.{w128}
use Rattle.std.proofs.lemmas.Int.{unsigned_abs-mul, fits_signed_from_abs}
use Rattle.std.proofs.lemmas.List.{take_all, drop_all}
use Rattle.std.proofs.lemmas.List.Elements.{All-nil, All-cons, All-head, All-tail}
use Rattle.ped_certificates.specs.Limits.{IsWithin}
use Rattle.ped_certificates.specs.Certificates.{plus}
use Rattle.ped_certificates.proofs.Products.{linear}

module _ (f : ℤ → ℤ) where
  -- the sums at the first places, and the other numbers as they were
  abbrev pub front : ℕ → List ℤ → List ℤ → List ℤ
  front k row initial = plus (map f (take k row)) (take k initial) ++ drop k initial

  pub front_read : (k : ℕ) (row initial : List ℤ) (d : ℤ) → k < length row → length row ≡ length initial → get_or (front k row initial) k d ≡ get_or initial k d
  front_read k [] initial d h e = absurd (omega arith)
  front_read k (a ∷ row) [] d h e = absurd (omega arith)
  front_read zero (a ∷ row) (b ∷ initial) d h e = refl
  front_read (suc k) (a ∷ row) (b ∷ initial) d h e = front_read k row initial d (omega arith) (omega arith)

  pub front_more : (k : ℕ) (row initial : List ℤ) (d v : ℤ) → k < length row → length row ≡ length initial → v ≡ f (get_or row k d) +ℤ get_or initial k d → set (front k row initial) k v ≡ front (suc k) row initial
  front_more k [] initial d v h e is = absurd (omega arith)
  front_more k (a ∷ row) [] d v h e is = absurd (omega arith)
  front_more zero (a ∷ row) (b ∷ initial) d v h e is = ap (λ y. y ∷ initial) is
  front_more (suc k) (a ∷ row) (b ∷ initial) d v h e is = ap (λ y. (f a +ℤ b) ∷ y) (front_more k row initial d v (omega arith) (omega arith) is)

  pub front_all : (k : ℕ) (row initial : List ℤ) → length row ≤ k → length row ≡ length initial → front k row initial ≡ plus (map f row) initial
  front_all k row initial h e =
      let l : length initial ≤ k = omega arith in
      ap (λ (xs : List ℤ). plus (map f xs) (take k initial) ++ drop k initial) (take_all k row h)
      ∙ ap (λ (xs : List ℤ). plus (map f row) xs ++ drop k initial) (take_all k initial l)
      ∙ ap (λ (xs : List ℤ). plus (map f row) initial ++ xs) (drop_all k initial l)
      ∙ append-nil (plus (map f row) initial)

pub length-plus : (first second : List ℤ) → length first ≡ length second → length (plus first second) ≡ length second
length-plus [] second e = refl
length-plus (a ∷ first) [] e = e
length-plus (a ∷ first) (b ∷ second) e = ap suc (length-plus first second (omega arith))

-- a multiple of a number of a row, by a factor of 32 bits, with another number
pub multiple_small : (m a x : ℤ) (most : ℕ) → unsigned_abs m ≤ 2 ^ 31 → IsWithin (2 ^ 64) a → IsWithin most x → IsWithin (most + 2 ^ 95) (m *ℤ a +ℤ x)
multiple_small m a x most p q r =
    let s : unsigned_abs (m *ℤ a) ≤ 2 ^ 31 * 2 ^ 64 = rw (unsigned_abs-mul m a) (mul-le-mul p q) in
    omega (arith, linear)

pub plus_small : (m : ℤ) (most : ℕ) (row initial : List ℤ) → unsigned_abs m ≤ 2 ^ 31 → length row ≡ length initial → All (IsWithin (2 ^ 64)) row → All (IsWithin most) initial → All (IsWithin (most + 2 ^ 95)) (plus (map (λ a. m *ℤ a) row) initial)
plus_small m most [] [] p e h k = All-nil (IsWithin (most + 2 ^ 95))
plus_small m most [] (b ∷ initial) p e h k = absurd (omega arith)
plus_small m most (a ∷ row) [] p e h k = absurd (omega arith)
plus_small m most (a ∷ row) (b ∷ initial) p e h k =
    All-cons (IsWithin (most + 2 ^ 95)) (m *ℤ a +ℤ b) (plus (map (λ x. m *ℤ x) row) initial)
    (multiple_small m a b most p (All-head (IsWithin (2 ^ 64)) a row h) (All-head (IsWithin most) b initial k))
    (plus_small m most row initial p (omega arith) (All-tail (IsWithin (2 ^ 64)) a row h) (All-tail (IsWithin most) b initial k))

-- one more part
pub grown : (count left : ℕ) → 0 < left → left ≤ count → (count - left) * 2 ^ 95 + 2 ^ 95 ≡ (count - (left - 1)) * 2 ^ 95
grown count left h k = let e : count - left + 1 ≡ count - (left - 1) = omega arith in let f = ap (λ (n : ℕ). n * 2 ^ 95) e in omega arith

pub few : (count left : ℕ) → count ≤ 500 → (count - left) * 2 ^ 95 ≤ 2 ^ 105
few count left h = omega arith

pub factor_small : (m : ℤ) → FitsSigned w32 m → IsWithin (2 ^ 31) m
factor_small m f = omega (arith, linear)

pub product_within : (m a : ℤ) → FitsSigned w32 m → IsWithin (2 ^ 64) a → IsWithin (2 ^ 95) (m *ℤ a)
product_within m a f q =
    let s : unsigned_abs (m *ℤ a) ≤ 2 ^ 31 * 2 ^ 64 = rw (unsigned_abs-mul m a) (mul-le-mul (factor_small m f) q) in
    omega arith

pub product_fits : (m a : ℤ) → FitsSigned w32 m → IsWithin (2 ^ 64) a → FitsSigned w128 (m *ℤ a)
product_fits m a f q = let s = product_within m a f q in fits_signed_from_abs w128 (m *ℤ a) (omega arith)

pub sum_fits : (a x : ℤ) → IsWithin (2 ^ 95) a → IsWithin (2 ^ 105) x → FitsSigned w128 (a +ℤ x)
sum_fits a x q r = fits_signed_from_abs w128 (a +ℤ x) (within a x q r)
  where
    within : (a x : ℤ) → IsWithin (2 ^ 95) a → IsWithin (2 ^ 105) x → unsigned_abs (a +ℤ x) < 2 ^ 127
    within a x q r = omega (arith, linear)

-- for `grind`: products and sums of 128 bits
pub ruleset fitting = (factor_small, product_within, product_fits, sum_fits)
