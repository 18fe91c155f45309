-- The rows of symbols hold for numbers of 32 bits.
use Rattle.std.proofs.Common.{◌≡◌, ℕ, zero, suc, ◌+◌, ◌<◌, ◌^◌, refl, ap, ◌∙◌, arith, ℤ, pos, neg_ℤ, ◌-ℤ◌, List, [], ◌∷◌, length, drop, get_or, Bool, true, false, if◌then◌else◌}
use Rattle.ped_base.specs.Lists.{is_among}
use Rattle.ped_views.specs.Intervals.{Lies}
use Rattle.ped_views.proofs.Products.{linear}
use Rattle.ped_certificates.specs.Rows.{Meets}
use Rattle.ped_affine.specs.Ranges.{any_value}
use Rattle.ped_evidence.specs.Forms.{number, at_most}
use Rattle.ped_evidence.specs.Layouts.{Layout, width, symbol}
use Rattle.ped_evidence.specs.Systems.{symbol_row, symbol_rows}
use Rattle.ped_evidence.specs.Facts.{Values, in_order, AreFor, AreSmall}
use Rattle.ped_evidence.proofs.Weighing.{value-number, at_most_holds}
use Rattle.ped_evidence.proofs.Arranging.{symbol_value}
use Rattle.ped_evidence.proofs.Meeting.{meets_both}

module _ (y : Layout) (w : Values) (fit : AreFor y.columns w) where
  abbrev all : List ℤ
  all = in_order w

  symbol_row_meets : (k : ℕ) (x : List ℕ) (n : ℤ) → k < y.columns.symbols → get_or w.symbols k (pos 0) ≡ n → (is_among x y.setting.loop_variables ≡ false → Lies n any_value) → Meets (symbol_row y k x) all
  symbol_row_meets k x n within is small = by (is_among x y.setting.loop_variables) refl
    where
      by : (b : Bool) → is_among x y.setting.loop_variables ≡ b
          → Meets (if b then [] else at_most (number (width y.columns) (neg_ℤ (pos (2 ^ 31)))) (symbol y.columns k) ∷ at_most (symbol y.columns k) (number (width y.columns) (pos (2 ^ 31) -ℤ pos 1)) ∷ []) all
      by true e = tt
      by false e =
          let lies = small e in
          let from = lies.from in
          let to = lies.to in
          let its = symbol_value y.columns w fit k within in
          let least = value-number (width y.columns) (neg_ℤ (pos (2 ^ 31))) all in
          let greatest = value-number (width y.columns) (pos (2 ^ 31) -ℤ pos 1) all in (
            at_most_holds (number (width y.columns) (neg_ℤ (pos (2 ^ 31)))) (symbol y.columns k) all (omega (arith, linear)),
            (at_most_holds (symbol y.columns k) (number (width y.columns) (pos (2 ^ 31) -ℤ pos 1)) all (omega (arith, linear)), tt),
          )

  pub symbol_rows_meet : (k : ℕ) (names : List (List ℕ)) (values : List ℤ) → drop k w.symbols ≡ values → k + length values ≡ y.columns.symbols → AreSmall y.setting names values → Meets (symbol_rows y k names) all
  symbol_rows_meet k [] values at as_many small = tt
  symbol_rows_meet k (x ∷ names) [] at as_many small = absurd small
  symbol_rows_meet k (x ∷ names) (n ∷ values) at as_many small =
      meets_both (symbol_row y k x) (symbol_rows y (k + 1) names) all
      (symbol_row_meets k x n (omega arith) (first k w.symbols at) small.0)
      (symbol_rows_meet (k + 1) names values (next k w.symbols at) (omega arith) small.1)
    where
      first : (k : ℕ) (xs : List ℤ) → drop k xs ≡ n ∷ values → get_or xs k (pos 0) ≡ n
      first zero xs e = ap (λ (zs : List ℤ). get_or zs 0 (pos 0)) e
      first (suc k) [] e = absurd cc
      first (suc k) (z ∷ xs) e = first k xs e

      next : (k : ℕ) (xs : List ℤ) → drop k xs ≡ n ∷ values → drop (k + 1) xs ≡ values
      next zero xs e = ap (drop 1) e
      next (suc k) [] e = absurd cc
      next (suc k) (z ∷ xs) e = let m : suc k + 1 ≡ suc (k + 1) = omega arith in ap (λ (j : ℕ). drop j (z ∷ xs)) m ∙ next k xs e
