-- The sum of the parts behind a place, and with one more.
use Rattle.std.proofs.Common.{◌≡◌, ℕ, zero, suc, ◌+◌, ◌<◌, ◌≤◌, sym, ap, ◌∙◌, List, [], ◌∷◌, length, drop, get_or, cond, Some, None, option_map, option_and_then}
use Rattle.std.proofs.lemmas.List.{drop_more, drop_all}
use Rattle.ped_certificates.specs.declared.systems.Part.{Part}
use Rattle.ped_certificates.specs.declared.systems.Row.{Row}
use Rattle.ped_certificates.specs.Certificates.{row_at, multiple, sum, zero_row, may_multiply, part_of, sum_of}

module _ (n : ℕ) (rows : List Row) where
  -- no sum of the last parts is none of all
  pub none_before : (k : ℕ) (parts : List Part) → sum_of n rows (drop k parts) ≡ None → sum_of n rows parts ≡ None
  none_before zero parts h = h
  none_before (suc k) [] h = h
  none_before (suc k) (part ∷ parts) h = ap (option_and_then (λ rest. option_map (λ row. sum row rest) (part_of rows part))) (none_before k parts h)

  pub nothing_left : (k : ℕ) (parts : List Part) → length parts ≤ k → sum_of n rows (drop k parts) ≡ Some (zero_row n)
  nothing_left k parts h = ap (sum_of n rows) (drop_all k parts h)

  module _ (parts : List Part) (k : ℕ) (part : Part) (rest : Row) (below : k < length parts) (is : part ≡ get_or parts k part) (behind : sum_of n rows (drop (k + 1) parts) ≡ Some rest) where
    opened : sum_of n rows (drop k parts) ≡ option_map (λ row. sum row rest) (part_of rows part)
    opened =
        ap (sum_of n rows) (drop_more parts k part below ∙ ap (λ p. p ∷ drop (k + 1) parts) (sym is))
        ∙ ap (option_and_then (λ r. option_map (λ row. sum row r) (part_of rows part))) behind

    pub one_more : (row : Row) → part_of rows part ≡ Some row → sum_of n rows (drop k parts) ≡ Some (sum row rest)
    one_more row h = opened ∙ ap (option_map (λ r. sum r rest)) h

    pub no_more : part_of rows part ≡ None → sum_of n rows parts ≡ None
    no_more h = none_before k parts (opened ∙ ap (option_map (λ r. sum r rest)) h)

-- what a part names, by the row of its number
pub part_is : (rows : List Row) (part : Part) (row : Row) → row_at rows part.row ≡ Some row → part_of rows part ≡ cond (may_multiply part.factor row) (Some (multiple part.factor row)) None
part_is rows part row h = ap (option_and_then (λ r. cond (may_multiply part.factor r) (Some (multiple part.factor r)) None)) h

pub no_part : (rows : List Row) (part : Part) → row_at rows part.row ≡ None → part_of rows part ≡ None
no_part rows part h = ap (option_and_then (λ r. cond (may_multiply part.factor r) (Some (multiple part.factor r)) None)) h
