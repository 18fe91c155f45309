-- A step of the loop that adds parts, the last one first.
use Rattle.std.proofs.Common.{◌≡◌, ℕ, ◌+◌, ◌-◌, ◌*◌, ◌^◌, ◌<◌, ◌≤◌, sym, ap, subst, ◌∙◌, arith, ℤ, pos, ◌+ℤ◌, ◌*ℤ◌, List, map, length, drop, replicate, get_or, Bool, true, ◌&&◌, Some, None, All}
use Rattle.std.proofs.lemmas.List.{length-map}
use Rattle.std.proofs.lemmas.List.Elements.{All-replicate, All-same}
use Rattle.ped_certificates.specs.declared.systems.Part.{Part}
use Rattle.ped_certificates.specs.declared.systems.Row.{Row}
use Rattle.ped_certificates.specs.Limits.{IsWithin, IsRow}
use Rattle.ped_certificates.specs.Certificates.{multiple, plus, part_of, sum_of}
use Rattle.ped_certificates.proofs.Adding.{length-plus, multiple_small, plus_small, grown}
use Rattle.ped_certificates.proofs.PartSums.{one_more, nothing_left, no_more}

abbrev pub made : List ℤ → ℤ → Bool → Row
made coefficients constant equation = record { coefficients = coefficients; constant = constant; equation = equation }

-- the sum of the parts behind a place, whose numbers grow with their number
pub record IsSumBehind (n : ℕ) (rows : List Row) (parts : List Part) (left : ℕ) (coefficients : List ℤ) (constant : ℤ) (equation : Bool) : Type 0 where
  pub so_far : sum_of n rows (drop left parts) ≡ Some (made coefficients constant equation)
  pub within : left ≤ length parts
  pub as_many : length coefficients ≡ n
  pub small : All (IsWithin ((length parts - left) * 2 ^ 95)) coefficients
  pub constant_small : IsWithin ((length parts - left) * 2 ^ 95) constant

module _ (n : ℕ) (rows : List Row) (parts : List Part) where
  pub sum_begins : (coefficients : List ℤ) → coefficients ≡ replicate n (pos 0) → length coefficients ≡ n → IsSumBehind n rows parts (length parts) coefficients (pos 0) true
  sum_begins coefficients e l = record {
    so_far = nothing_left n rows (length parts) parts (omega arith) ∙ ap (λ xs. Some (made xs (pos 0) true)) (sym e);
    within = omega arith;
    as_many = l;
    small = All-same (IsWithin ((length parts - length parts) * 2 ^ 95)) coefficients (replicate n (pos 0)) e (All-replicate (IsWithin ((length parts - length parts) * 2 ^ 95)) n (pos 0) (omega arith));
    constant_small = omega arith;
  }

  module _ (left : ℕ) (coefficients : List ℤ) (constant : ℤ) (equation : Bool) (behind : IsSumBehind n rows parts left coefficients constant equation) (some : 0 < left) (part : Part) (is : part ≡ get_or parts (left - 1) part) where
    before : sum_of n rows (drop (left - 1 + 1) parts) ≡ Some (made coefficients constant equation)
    before = let e : left - 1 + 1 ≡ left = omega arith in ap (λ (k : ℕ). sum_of n rows (drop k parts)) e ∙ behind.so_far

    below : left - 1 < length parts
    below = let w = behind.within in omega arith

    pub sum_fails : part_of rows part ≡ None → sum_of n rows parts ≡ None
    sum_fails h = no_more n rows parts (left - 1) part (made coefficients constant equation) below is before h

    pub sum_goes_on : (row : Row) (new : List ℤ) (new_constant : ℤ) (joined : Bool) → part_of rows part ≡ Some (multiple part.factor row) → IsRow n (2 ^ 64) row → IsWithin (2 ^ 31) part.factor → new ≡ plus (map (λ a. part.factor *ℤ a) row.coefficients) coefficients → new_constant ≡ part.factor *ℤ row.constant +ℤ constant → joined ≡ row.equation && equation → IsSumBehind n rows parts (left - 1) new new_constant joined
    sum_goes_on row new new_constant joined h fits f e k j =
        let g = grown (length parts) left some behind.within in
        let same : length row.coefficients ≡ length coefficients = fits.as_many ∙ sym behind.as_many in
        let all = plus_small part.factor ((length parts - left) * 2 ^ 95) row.coefficients coefficients f same fits.coefficients behind.small in
        let one = multiple_small part.factor row.constant constant ((length parts - left) * 2 ^ 95) f fits.constant behind.constant_small in
        record {
          so_far = one_more n rows parts (left - 1) part (made coefficients constant equation) below is before (multiple part.factor row) h
              ∙ ap (λ xs. Some (made xs (part.factor *ℤ row.constant +ℤ constant) (row.equation && equation))) (sym e)
              ∙ ap (λ x. Some (made new x (row.equation && equation))) (sym k)
              ∙ ap (λ b. Some (made new new_constant b)) (sym j);
          within = let w = behind.within in omega arith;
          as_many = ap length e ∙ length-plus (map (λ a. part.factor *ℤ a) row.coefficients) coefficients (length-mapped row.coefficients same) ∙ behind.as_many;
          small = subst (λ (m : ℕ). All (IsWithin m) new) g (All-same (IsWithin ((length parts - left) * 2 ^ 95 + 2 ^ 95)) new (plus (map (λ a. part.factor *ℤ a) row.coefficients) coefficients) e all);
          constant_small = subst (λ (m : ℕ). IsWithin m new_constant) g (subst (IsWithin ((length parts - left) * 2 ^ 95 + 2 ^ 95)) (sym k) one);
        }
      where
        length-mapped : (xs : List ℤ) → length xs ≡ length coefficients → length (map (λ a. part.factor *ℤ a) xs) ≡ length coefficients
        length-mapped xs l = length-map xs (λ a. part.factor *ℤ a) ∙ l
