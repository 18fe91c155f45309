-- The values of sums, multiples and quotients of rows.
use Rattle.std.proofs.Common.{◌≡◌, ℕ, zero, suc, refl, sym, ap, arith, ℤ, pos, ◌+ℤ◌, ◌*ℤ◌, List, [], ◌∷◌, ◌++◌, map, replicate, get_or, true, int_div, int_rem}
use Rattle.std.specs.List.{list_all}
use Rattle.std.specs.Ordering.{int_eq}
use Rattle.std.proofs.Math.IntN.{*ℤ-zero, zero-*ℤ}
use Rattle.std.proofs.lemmas.Bool.{and_parts}
use Rattle.std.proofs.lemmas.Bool.Decides.{Decides-int_eq}
use Rattle.ped_certificates.specs.Rows.{dot}
use Rattle.ped_certificates.specs.Certificates.{plus, divides}
use Rattle.ped_certificates.proofs.Products.{linear, mul-add, add-mul, mul-assoc, divides_by_rem}

pub dot-plus : (first second values : List ℤ) → dot (plus first second) values ≡ dot first values +ℤ dot second values
dot-plus [] second values = omega (arith, linear)
dot-plus (a ∷ first) [] values = let e = dot (a ∷ first) values in omega (arith, linear)
dot-plus (a ∷ first) (b ∷ second) [] = refl
dot-plus (a ∷ first) (b ∷ second) (x ∷ values) =
    let h = dot-plus first second values in
    let p = add-mul a b x in
    omega (arith, linear)

pub dot-multiple : (m : ℤ) (coefficients values : List ℤ) → dot (map (λ a. m *ℤ a) coefficients) values ≡ m *ℤ dot coefficients values
dot-multiple m [] values = sym (*ℤ-zero m)
dot-multiple m (a ∷ coefficients) [] = sym (*ℤ-zero m)
dot-multiple m (a ∷ coefficients) (x ∷ values) =
    let h = dot-multiple m coefficients values in
    let p = mul-assoc m a x in
    let s = mul-add m (a *ℤ x) (dot coefficients values) in
    omega (arith, linear)

pub dot-zeros : (n : ℕ) (values : List ℤ) → dot (replicate n (pos 0)) values ≡ pos 0
dot-zeros zero values = refl
dot-zeros (suc n) [] = refl
dot-zeros (suc n) (x ∷ values) =
    let h = dot-zeros n values in
    let z = zero-*ℤ x in
    omega (arith, linear)

-- one coefficient alone
pub dot-only : (k m : ℕ) (a : ℤ) (values : List ℤ) → dot (replicate k (pos 0) ++ (a ∷ replicate m (pos 0))) values ≡ a *ℤ get_or values k (pos 0)
dot-only zero m a [] = sym (*ℤ-zero a)
dot-only zero m a (x ∷ values) = let h = dot-zeros m values in omega (arith, linear)
dot-only (suc k) m a [] = sym (*ℤ-zero a)
dot-only (suc k) m a (x ∷ values) =
    let h = dot-only k m a values in
    let z = zero-*ℤ x in
    omega (arith, linear)

-- coefficients that are all 0
pub dot-none : (coefficients values : List ℤ) → list_all (λ a. int_eq a (pos 0)) coefficients ≡ true → dot coefficients values ≡ pos 0
dot-none [] values h = refl
dot-none (a ∷ coefficients) [] h = refl
dot-none (a ∷ coefficients) (x ∷ values) h =
    let p = and_parts (int_eq a (pos 0)) (list_all (λ b. int_eq b (pos 0)) coefficients) h in
    let none = dot-none coefficients values p.1 in
    let e = ap (λ (y : ℤ). y *ℤ x) ((Decides-int_eq a (pos 0)).0 p.0) in
    let z = zero-*ℤ x in
    omega (arith, linear)

-- coefficients that d divides
pub dot-divided : (d : ℕ) (coefficients values : List ℤ) → list_all (divides d) coefficients ≡ true → dot coefficients values ≡ pos d *ℤ dot (map (λ a. int_div a (pos d)) coefficients) values
dot-divided d [] values h = sym (*ℤ-zero (pos d))
dot-divided d (a ∷ coefficients) [] h = sym (*ℤ-zero (pos d))
dot-divided d (a ∷ coefficients) (x ∷ values) h =
    let p = and_parts (divides d a) (list_all (divides d) coefficients) h in
    let rest = dot-divided d coefficients values p.1 in
    let e = divides_by_rem a (pos d) ((Decides-int_eq (int_rem a (pos d)) (pos 0)).0 p.0) in
    let f = ap (λ (y : ℤ). y *ℤ x) e in
    let g = mul-assoc (pos d) (int_div a (pos d)) x in
    let s = mul-add (pos d) (int_div a (pos d) *ℤ x) (dot (map (λ b. int_div b (pos d)) coefficients) values) in
    omega (arith, linear)
