-- The rows of a loop's range hold for a value in it.
use Rattle.std.proofs.Common.{◌≡◌, ℕ, arith, ℤ, List}
use Rattle.ped_views.proofs.Products.{linear}
use Rattle.ped_views.specs.Excluded.{InRange}
use Rattle.ped_certificates.specs.Rows.{Meets}
use Rattle.ped_evidence.specs.Forms.{number}
use Rattle.ped_evidence.specs.Levels.{Level}
use Rattle.ped_evidence.specs.Layouts.{Layout, width, index}
use Rattle.ped_evidence.specs.Systems.{range_rows}
use Rattle.ped_evidence.proofs.Weighing.{form_value, value-number, at_most_holds}

pub range_rows_meet : (y : Layout) (before : ℕ) (v : Level) (x : ℤ) (all : List ℤ) → form_value (index y.columns before v) all ≡ x → InRange v.range x → Meets (range_rows y before v) all
range_rows_meet y before v x all is h =
    let lo = value-number (width y.columns) v.range.lo all in
    let hi = value-number (width y.columns) v.range.hi all in
    let from = h.from in
    let to = h.to in (
      at_most_holds (number (width y.columns) v.range.lo) (index y.columns before v) all (omega (arith, linear)),
      (at_most_holds (index y.columns before v) (number (width y.columns) v.range.hi) all (omega (arith, linear)), tt),
    )
