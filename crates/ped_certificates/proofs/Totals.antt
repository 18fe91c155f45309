-- Values that satisfy rows satisfy what is made of them: multiples, sums and quotients.
use Rattle.std.proofs.Common.{◌≡◌, ℕ, zero, suc, ◌-◌, refl, ap, subst, ◌∙◌, arith, ℤ, pos, negsuc, ◌+ℤ◌, ◌*ℤ◌, neg_ℤ, ◌≤ℤ◌, List, [], ◌∷◌, map, Bool, true, false, ◌&&◌, ◌||◌, not, cond, ◌==◌, Option, Some, None, option_map, slice_get, nat_le, int_le, int_lt, int_div, int_rem}
use Rattle.std.specs.List.{list_all}
use Rattle.std.specs.Ordering.{int_eq}
use Rattle.std.proofs.Math.IntN.{*ℤ-zero}
use Rattle.std.proofs.lemmas.Bool.{and_parts, leb-true, not-true, both_ways}
use Rattle.std.proofs.lemmas.Bool.Decides.{Decides-int_eq}
use Rattle.std.proofs.lemmas.Option.{none-some, same_Some, option_and_then_some, cond_some}
use Rattle.ped_certificates.specs.declared.systems.Part.{Part}
use Rattle.ped_certificates.specs.declared.systems.Row.{Row}
use Rattle.ped_certificates.specs.Rows.{dot, value_of, IsAs, Holds, Meets}
use Rattle.ped_certificates.specs.Certificates.{row_at, multiple, sum, zero_row, may_multiply, part_of, sum_of, divides, divides_each, divided, has_small_numbers, if_small, cut_of, is_never, is_indivisible}
use Rattle.ped_certificates.proofs.Products.{linear, mul-add, mul-neg, mul-le, rem_by_divides, rounded}
use Rattle.ped_certificates.proofs.Values.{dot-plus, dot-multiple, dot-zeros, dot-none, dot-divided}

pub option_map_some : {A B : Type 0} (f : A → B) (o : Option A) (y : B) → option_map f o ≡ Some y → (x : A) × (o ≡ Some x) × (f x ≡ y)
option_map_some f (Some x) y h = (x, refl, same_Some (f x) y h)
option_map_some f None y h = absurd (none-some y h)

as_sum : (p q : Bool) (x y : ℤ) → IsAs p x → IsAs q y → IsAs (p && q) (x +ℤ y)
as_sum true true x y h k = omega (arith, linear)
as_sum true false x y h k = omega (arith, linear)
as_sum false true x y h k = omega (arith, linear)
as_sum false false x y h k = omega (arith, linear)

as_multiple : (p : Bool) (m x : ℤ) → (p || int_le (pos 0) m) ≡ true → IsAs p x → IsAs p (m *ℤ x)
as_multiple true m x may h = ap (λ (y : ℤ). m *ℤ y) h ∙ *ℤ-zero m
as_multiple false (pos m) x may h = let l = mul-le m (pos 0) x h in let z = *ℤ-zero (pos m) in omega (arith, linear)
as_multiple false (negsuc m) x may h = absurd (both_ways false refl may)

pub as_at_least : (p : Bool) (x : ℤ) → IsAs p x → pos 0 ≤ℤ x
as_at_least true x h = omega (arith, linear)
as_at_least false x h = h

module _ (values : List ℤ) where
  sum_holds : (r s : Row) → Holds r values → Holds s values → Holds (sum r s) values
  sum_holds r s h k =
      let e = dot-plus r.coefficients s.coefficients values in
      let f : value_of r values +ℤ value_of s values ≡ value_of (sum r s) values = omega (arith, linear) in
      subst (IsAs (r.equation && s.equation)) f (as_sum r.equation s.equation (value_of r values) (value_of s values) h k)

  multiple_holds : (m : ℤ) (r : Row) → may_multiply m r ≡ true → Holds r values → Holds (multiple m r) values
  multiple_holds m r may h =
      let e = dot-multiple m r.coefficients values in
      let d = mul-add m (dot r.coefficients values) r.constant in
      let f : m *ℤ value_of r values ≡ value_of (multiple m r) values = omega (arith, linear) in
      subst (IsAs r.equation) f (as_multiple r.equation m (value_of r values) may h)

  zero_holds : (n : ℕ) → Holds (zero_row n) values
  zero_holds n = let z = dot-zeros n values in omega (arith, linear)

  got : (rows : List Row) (k : ℕ) (r : Row) → slice_get rows k ≡ Some r → Meets rows values → Holds r values
  got [] k r e h = absurd (none-some r e)
  got (s ∷ rows) zero r e h = subst (λ (x : Row). Holds x values) (same_Some s r e) h.0
  got (s ∷ rows) (suc k) r e h = got rows k r e h.1

  not_none : (b : Bool) (o : Option Row) (r : Row) → cond b None o ≡ Some r → o ≡ Some r
  not_none true o r e = absurd (none-some r e)
  not_none false o r e = e

  row_holds : (rows : List Row) (n : ℕ) (r : Row) → row_at rows n ≡ Some r → Meets rows values → Holds r values
  row_holds rows n r e h = got rows (n - 1) r (not_none (n == 0) (slice_get rows (n - 1)) r e) h

  part_holds : (rows : List Row) (part : Part) (r : Row) → part_of rows part ≡ Some r → Meets rows values → Holds r values
  part_holds rows part r e h =
      option_and_then_some (λ row. cond (may_multiply part.factor row) (Some (multiple part.factor row)) None) (row_at rows part.row) r e
      (λ row at made.
      let t = cond_some (may_multiply part.factor row) (multiple part.factor row) r made in
      subst (λ (x : Row). Holds x values) t.1 (multiple_holds part.factor row t.0 (row_holds rows part.row row at h)))

  -- what the parts add up to
  pub total_holds : (n : ℕ) (rows : List Row) (parts : List Part) (r : Row) → sum_of n rows parts ≡ Some r → Meets rows values → Holds r values
  total_holds n rows [] r e h = subst (λ (x : Row). Holds x values) (same_Some (zero_row n) r e) (zero_holds n)
  total_holds n rows (part ∷ parts) r e h =
      option_and_then_some (λ rest. option_map (λ row. sum row rest) (part_of rows part)) (sum_of n rows parts) r e
      (λ rest from made.
      let t = option_map_some (λ row. sum row rest) (part_of rows part) r made in
      subst (λ (x : Row). Holds x values) t.2
      (sum_holds t.0 rest (part_holds rows part t.0 t.1 h) (total_holds n rows parts rest from h)))

  -- a row that is divided
  divided_holds : (d : ℕ) (r : Row) → divides_each d r ≡ true → Holds r values → Holds (divided d r) values
  divided_holds d r each h =
      let p = and_parts (nat_le 1 d) (list_all (divides d) r.coefficients) each in
      let e = dot-divided d r.coefficients values p.1 in
      let l = as_at_least r.equation (value_of r values) h in
      rounded (dot (map (λ a. int_div a (pos d)) r.coefficients) values) r.constant d (leb-true 1 d p.0) (omega (arith, linear))

  -- what a cut adds
  pub cut_holds : (n : ℕ) (rows : List Row) (parts : List Part) (d : ℕ) (r : Row) → cut_of n rows parts d ≡ Some r → Meets rows values → Holds r values
  cut_holds n rows parts d r e h =
      option_and_then_some (λ row. cond (divides_each d row) (if_small (divided d row)) None) (sum_of n rows parts) r e
      (λ row from made. by (divides_each d row) row refl from made)
    where
      by : (t : Bool) (row : Row) → divides_each d row ≡ t → sum_of n rows parts ≡ Some row → cond t (if_small (divided d row)) None ≡ Some r → Holds r values
      by true row each from made =
          let s = cond_some (has_small_numbers (divided d row)) (divided d row) r made in
          subst (λ (x : Row). Holds x values) s.1 (divided_holds d row each (total_holds n rows parts row from h))
      by false row each from made = absurd (none-some r made)

  -- no values satisfy a row that is never true
  pub never_holds : (r : Row) → is_never r ≡ true → Holds r values → ⊥
  never_holds r never h =
      let p = and_parts (list_all (λ a. int_eq a (pos 0)) r.coefficients) (int_lt r.constant (pos 0)) never in
      let z = dot-none r.coefficients values p.0 in
      let l = as_at_least r.equation (value_of r values) h in
      let b = p.1 in
      omega (arith, linear)

  pub indivisible_holds : (d : ℕ) (r : Row) → is_indivisible d r ≡ true → Holds r values → ⊥
  indivisible_holds d r never h =
      let p = and_parts (r.equation && divides_each d r) (not (divides d r.constant)) never in
      let q = and_parts r.equation (divides_each d r) p.0 in
      let w = and_parts (nat_le 1 d) (list_all (divides d) r.coefficients) q.1 in
      let zero : value_of r values ≡ pos 0 = subst (λ (t : Bool). IsAs t (value_of r values)) q.0 h in
      let y = dot (map (λ a. int_div a (pos d)) r.coefficients) values in
      let e = dot-divided d r.coefficients values w.1 in
      let m = mul-neg (pos d) y in
      let is : pos d *ℤ neg_ℤ y ≡ r.constant = omega (arith, linear) in
      both_ways (divides d r.constant) (not-true (divides d r.constant) p.1)
      ((Decides-int_eq (int_rem r.constant (pos d)) (pos 0)).1 (rem_by_divides r.constant (neg_ℤ y) d (leb-true 1 d w.0) is))
