-- The values of forms over unknowns, and rows that hold.
use Rattle.std.proofs.Common.{◌≡◌, ℕ, zero, suc, ◌-◌, refl, sym, ap, arith, ℤ, pos, neg_ℤ, ◌+ℤ◌, ◌-ℤ◌, ◌*ℤ◌, ◌≤ℤ◌, ◌<ℤ◌, List, [], ◌∷◌, ◌++◌, map, length, replicate, drop, get_or}
use Rattle.std.proofs.Math.IntN.{*ℤ_comm, *ℤ-zero, zero-*ℤ}
use Rattle.std.proofs.lemmas.Int.{ints}
use Rattle.ped_views.proofs.Products.{linear, mul-add, neg-mul}
use Rattle.ped_certificates.specs.Rows.{dot, Holds}
use Rattle.ped_certificates.specs.Certificates.{plus}
use Rattle.ped_affine.specs.AffineForms.{AffineForm}
use Rattle.ped_evidence.specs.Forms.{multiple, unknown, number, less, at_most, below, is_zero, equal}

-- the value of a form for these values of the unknowns
abbrev pub form_value : AffineForm → List ℤ → ℤ
form_value f xs = dot f.coefficients xs +ℤ f.constant

-- ---- sums of products

add-mul : (a b c : ℤ) → (a +ℤ b) *ℤ c ≡ a *ℤ c +ℤ b *ℤ c
add-mul a b c =
    let s = *ℤ_comm (a +ℤ b) c in
    let d = mul-add c a b in
    let e = *ℤ_comm c a in
    let f = *ℤ_comm c b in
    omega (arith, linear)

dot-plus : (first second xs : List ℤ) → dot (plus first second) xs ≡ dot first xs +ℤ dot second xs
dot-plus [] second xs = omega (arith, linear)
dot-plus (a ∷ first) [] xs = let e = dot (a ∷ first) xs in omega (arith, linear)
dot-plus (a ∷ first) (b ∷ second) [] = refl
dot-plus (a ∷ first) (b ∷ second) (x ∷ xs) =
    let h = dot-plus first second xs in
    let p = add-mul a b x in
    omega (arith, linear)

dot-negative : (cs xs : List ℤ) → dot (map neg_ℤ cs) xs ≡ neg_ℤ (dot cs xs)
dot-negative [] xs = refl
dot-negative (a ∷ cs) [] = refl
dot-negative (a ∷ cs) (x ∷ xs) = let h = dot-negative cs xs in let z = neg-mul a x in omega (arith, linear)

pub dot-zeros : (n : ℕ) (xs : List ℤ) → dot (replicate n (pos 0)) xs ≡ pos 0
dot-zeros zero xs = refl
dot-zeros (suc n) [] = refl
dot-zeros (suc n) (x ∷ xs) =
    let h = dot-zeros n xs in
    let z = zero-*ℤ x in
    omega (arith, linear)

one_times : (x : ℤ) → pos 1 *ℤ x ≡ x
one_times x = omega (arith, ints)

-- one coefficient alone
dot-only : (k m : ℕ) (a : ℤ) (xs : List ℤ) → dot (replicate k (pos 0) ++ (a ∷ replicate m (pos 0))) xs ≡ a *ℤ get_or xs k (pos 0)
dot-only zero m a [] = sym (*ℤ-zero a)
dot-only zero m a (x ∷ xs) = let h = dot-zeros m xs in omega (arith, linear)
dot-only (suc k) m a [] = sym (*ℤ-zero a)
dot-only (suc k) m a (x ∷ xs) =
    let h = dot-only k m a xs in
    let z = zero-*ℤ x in
    omega (arith, linear)

-- coefficients behind zeros
pub dot-behind : (n : ℕ) (cs xs : List ℤ) → dot (replicate n (pos 0) ++ cs) xs ≡ dot cs (drop n xs)
dot-behind zero cs xs = refl
dot-behind (suc n) [] [] = refl
dot-behind (suc n) (a ∷ cs) [] = refl
dot-behind (suc n) cs (x ∷ xs) =
    let h = dot-behind n cs xs in
    let z = zero-*ℤ x in
    omega (arith, linear)

-- coefficients one after the other
pub dot-append : (cs bs xs : List ℤ) → dot (cs ++ bs) xs ≡ dot cs xs +ℤ dot bs (drop (length cs) xs)
dot-append [] bs xs = omega (arith, linear)
dot-append (a ∷ cs) [] [] = refl
dot-append (a ∷ cs) (b ∷ bs) [] = refl
dot-append (a ∷ cs) bs (x ∷ xs) = let h = dot-append cs bs xs in omega (arith, linear)

-- ---- forms

pub value-less : (a b : AffineForm) (xs : List ℤ) → form_value (less a b) xs ≡ form_value a xs -ℤ form_value b xs
value-less a b xs =
    let p = dot-plus a.coefficients (map neg_ℤ b.coefficients) xs in
    let n = dot-negative b.coefficients xs in
    omega (arith, linear)

pub value-number : (n : ℕ) (c : ℤ) (xs : List ℤ) → form_value (number n c) xs ≡ c
value-number n c xs = let z = dot-zeros n xs in omega (arith, linear)

pub value-multiple : (n u k : ℕ) (m : ℤ) (xs : List ℤ) → u - 1 ≡ k → form_value (multiple n u m) xs ≡ m *ℤ get_or xs k (pos 0)
value-multiple n u k m xs e =
    let o = dot-only (u - 1) (n - u) m xs in
    let g : m *ℤ get_or xs (u - 1) (pos 0) ≡ m *ℤ get_or xs k (pos 0) = ap (λ (i : ℕ). m *ℤ get_or xs i (pos 0)) e in
    omega (arith, linear)

pub value-unknown : (n u k : ℕ) (xs : List ℤ) → u - 1 ≡ k → form_value (unknown n u) xs ≡ get_or xs k (pos 0)
value-unknown n u k xs e =
    let v = value-multiple n u k (pos 1) xs e in
    let o = one_times (get_or xs k (pos 0)) in
    omega (arith, linear)

-- ---- rows

pub at_most_holds : (a b : AffineForm) (xs : List ℤ) → form_value a xs ≤ℤ form_value b xs → Holds (at_most a b) xs
at_most_holds a b xs h = let v = value-less b a xs in omega (arith, linear)

pub below_holds : (n : ℕ) (a b : AffineForm) (xs : List ℤ) → form_value a xs <ℤ form_value b xs → Holds (below n a b) xs
below_holds n a b xs h =
    let v = value-less b a xs in
    let w = value-less (less b a) (number n (pos 1)) xs in
    let o = value-number n (pos 1) xs in
    omega (arith, linear)

pub equal_holds : (a b : AffineForm) (xs : List ℤ) → form_value a xs ≡ form_value b xs → Holds (equal a b) xs
equal_holds a b xs h = let v = value-less a b xs in omega (arith, linear)

-- the first is the second and the third
pub stride_holds : (a b q : AffineForm) (xs : List ℤ) → form_value a xs ≡ form_value b xs +ℤ form_value q xs → Holds (is_zero (less (less a b) q)) xs
stride_holds a b q xs h =
    let v = value-less a b xs in
    let w = value-less (less a b) q xs in
    omega (arith, linear)
