-- The rows of the loops of a side hold for values that a run has come to.
use Rattle.std.proofs.Common.{◌≡◌, ℕ, ◌+◌, ◌≤◌, sym, ◌∙◌, arith, ℤ, List, [], ◌∷◌, ◌++◌, length, drop, append_assoc}
use Rattle.std.proofs.lemmas.List.{length-append}
use Rattle.ped_certificates.specs.Rows.{Meets}
use Rattle.ped_evidence.specs.Levels.{Level}
use Rattle.ped_evidence.specs.Layouts.{Layout, has_own}
use Rattle.ped_evidence.specs.Systems.{range_rows, lower_rows, upper_rows, own_rows, level_rows, counted, side_rows}
use Rattle.ped_evidence.specs.Facts.{Values, in_order, AreFor, AreReached, OwnCount}
use Rattle.ped_evidence.proofs.Arranging.{index_value}
use Rattle.ped_evidence.proofs.Meeting.{meets_both}
use Rattle.ped_evidence.proofs.RangeRows.{range_rows_meet}
use Rattle.ped_evidence.proofs.BoundRows.{lower_rows_meet, upper_rows_meet}
use Rattle.ped_evidence.proofs.StrideRows.{own_rows_meet}

module _ (y : Layout) (w : Values) (fit : AreFor y.columns w) (before : ℕ) where
  pub side_rows_meet : (q : ℕ) (loops rest : List ℤ) (vs : List Level) (xs : List ℤ) → drop before (in_order w) ≡ loops ++ (xs ++ rest) → before + length loops + length xs ≤ y.columns.source + y.columns.sink
      → AreReached y.setting y.symbols w.symbols loops vs xs → OwnCount y w loops q vs xs → Meets (side_rows y before q vs) (in_order w)
  side_rows_meet q loops rest [] xs side within reached count = tt
  side_rows_meet q loops rest (v ∷ vs) [] side within reached count = absurd reached
  side_rows_meet q loops rest (v ∷ vs) (x ∷ xs) side within reached count =
      let all : List ℤ = in_order w in
      let here = reached.0 in
      let is = index_value y.columns w fit before v loops (xs ++ rest) x here.as_many side in
      let few : before + length v.around ≤ y.columns.source + y.columns.sink = omega (arith, here.as_many) in
      let bounds = lower_rows_meet y w fit before v loops (x ∷ (xs ++ rest)) here.as_many side few x is here.lower in
      let limits = upper_rows_meet y w fit before v loops (x ∷ (xs ++ rest)) here.as_many side few x is here.upper in
      let steps = own_rows_meet y w fit before v loops (x ∷ (xs ++ rest)) here.as_many side few q x is (λ f e. (here.own f e).0) count.0 in
      let next : drop before all ≡ (loops ++ x ∷ []) ++ (xs ++ rest) = side ∙ sym (append_assoc loops (x ∷ []) (xs ++ rest)) in
      let more : before + length (loops ++ x ∷ []) + length xs ≤ y.columns.source + y.columns.sink = (let a = length-append loops (x ∷ []) in omega (arith, a)) in
      meets_both (level_rows y before q v) (side_rows y before (counted (has_own y.setting y.symbols v) q) vs) all
      (meets_both (range_rows y before v ++ lower_rows y before v ++ upper_rows y before v) (own_rows y before q v) all
      (meets_both (range_rows y before v ++ lower_rows y before v) (upper_rows y before v) all (meets_both (range_rows y before v) (lower_rows y before v) all (range_rows_meet y before v x all is here.in_range) bounds) limits) steps)
      (side_rows_meet (counted (has_own y.setting y.symbols v) q) (loops ++ x ∷ []) rest vs xs next more reached.1 count.1)
