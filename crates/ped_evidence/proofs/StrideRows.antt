-- The row of a loop's steps holds for a value that is a whole number of steps from the initial one.
use Rattle.std.proofs.Common.{◌≡◌, ℕ, ◌+◌, ◌≤◌, refl, ap, ◌∙◌, arith, ℤ, ◌+ℤ◌, ◌*ℤ◌, List, [], ◌++◌, length, drop, Bool, true, false, ◌&&◌, Option, Some, None, is_some, if◌then◌else◌}
use Rattle.std.specs.Prelude.{option_map}
use Rattle.ped_views.proofs.Products.{linear}
use Rattle.ped_certificates.specs.Rows.{Meets}
use Rattle.ped_affine.specs.AffineForms.{AffineForm}
use Rattle.ped_evidence.specs.Levels.{Level}
use Rattle.ped_evidence.specs.Layouts.{Layout, index, steps, form_at, widened, placed, strides, has_own}
use Rattle.ped_evidence.specs.Systems.{stride_row, own_rows}
use Rattle.ped_evidence.specs.Facts.{Values, in_order, AreFor, value_by, IsComplete, IsQuotient}
use Rattle.ped_evidence.proofs.Weighing.{form_value, stride_holds}
use Rattle.ped_evidence.proofs.Arranging.{widened_value, steps_value}

module _ (y : Layout) (w : Values) (fit : AreFor y.columns w) (before : ℕ) (v : Level) (loops rest : List ℤ) (as_many : length v.around ≡ length loops) (side : drop before (in_order w) ≡ loops ++ rest) (within : before + length v.around ≤ y.columns.source + y.columns.sink) where
  abbrev all : List ℤ
  all = in_order w

  pub own_rows_meet : (q : ℕ) (x : ℤ) → form_value (index y.columns before v) all ≡ x → ((f : AffineForm) → form_at y.setting y.symbols v.around v.head.first ≡ Some f → IsComplete loops w.symbols f)
      → (has_own y.setting y.symbols v ≡ true → (f : AffineForm) → form_at y.setting y.symbols v.around v.head.first ≡ Some f → (n : ℤ) × IsQuotient y.columns w q n × (x ≡ value_by loops w.symbols f +ℤ v.range.step *ℤ n))
      → Meets (own_rows y before q v) all
  own_rows_meet q x is complete law = by (strides v) refl
    where
      with_form : (o : Option AffineForm) → form_at y.setting y.symbols v.around v.head.first ≡ o → strides v ≡ true → Meets (stride_row (index y.columns before v) (steps y.columns q v.range.step) (option_map (widened y.columns before (length v.around)) o)) all
      with_form None e far = tt
      with_form (Some f) e far =
          let owns : has_own y.setting y.symbols v ≡ true = λ i. far i && is_some (e i) in
          let k = law owns f e in
          let first = widened_value y.columns w fit before (length v.around) loops rest f as_many side within (complete f e) in
          let many : form_value (steps y.columns q v.range.step) all ≡ v.range.step *ℤ k.0 = steps_value y.columns w fit q v.range.step k.1.within ∙ ap (λ (z : ℤ). v.range.step *ℤ z) k.1.is in
          let there = k.2 in
          (stride_holds (index y.columns before v) (widened y.columns before (length v.around) f) (steps y.columns q v.range.step) all (omega (arith, linear)), tt)

      by : (b : Bool) → strides v ≡ b → Meets (if b then stride_row (index y.columns before v) (steps y.columns q v.range.step) (placed y before v.around v.head.first) else []) all
      by false e = tt
      by true e = with_form (form_at y.setting y.symbols v.around v.head.first) refl e
