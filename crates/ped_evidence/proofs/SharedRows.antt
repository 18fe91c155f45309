-- The rows of quotients for both sides hold for values that are a whole number of steps apart.
use Rattle.std.proofs.Common.{◌≡◌, ℕ, refl, ap, ◌∙◌, arith, ℤ, ◌*ℤ◌, List, [], ◌∷◌, ◌++◌, Bool, true, false, if◌then◌else◌}
use Rattle.ped_views.proofs.Products.{linear}
use Rattle.ped_views.specs.declared.directions.Direction.{Direction}
use Rattle.ped_certificates.specs.Rows.{Meets}
use Rattle.ped_evidence.specs.Levels.{Level}
use Rattle.ped_evidence.specs.Layouts.{Layout, index, steps, has_shared}
use Rattle.ped_evidence.specs.Systems.{counted, shared_row, shared_rows_of, shared_rows}
use Rattle.ped_evidence.specs.Facts.{Values, in_order, AreFor, AreCommon, SharedCount}
use Rattle.ped_evidence.proofs.Weighing.{form_value, stride_holds}
use Rattle.ped_evidence.proofs.Arranging.{index_at, sink_behind, steps_value}
use Rattle.ped_evidence.proofs.Meeting.{meets_both}

module _ (y : Layout) (w : Values) (fit : AreFor y.columns w) where
  abbrev all : List ℤ
  all = in_order w

  pub shared_rows_meet : (q : ℕ) (vs : List Level) (ds : List Direction) → AreCommon w.source w.sink vs ds → SharedCount y w q vs → Meets (shared_rows y q vs) all
  shared_rows_meet q [] ds common count = tt
  shared_rows_meet q (v ∷ vs) [] common count = absurd common
  shared_rows_meet q (v ∷ vs) (d ∷ ds) common count =
      meets_both (shared_rows_of y q v) (shared_rows y (counted (has_shared y.setting y.symbols v) q) vs) all
      (by (has_shared y.setting y.symbols v) refl) (shared_rows_meet (counted (has_shared y.setting y.symbols v) q) vs ds common.1 count.1)
    where
      by : (b : Bool) → has_shared y.setting y.symbols v ≡ b → Meets (if b then shared_row y.columns q v ∷ [] else []) all
      by false e = tt
      by true e =
          let k = count.0 e in
          let at_source = index_at y.columns w fit 0 v w.source (w.sink ++ (w.quotients ++ w.symbols)) common.0.at_source refl in
          let at_sink = index_at y.columns w fit y.columns.source v w.sink (w.quotients ++ w.symbols) common.0.at_sink (sink_behind y.columns w fit) in
          let many : form_value (steps y.columns q v.range.step) all ≡ v.range.step *ℤ k.0 = steps_value y.columns w fit q v.range.step k.1.within ∙ ap (λ (z : ℤ). v.range.step *ℤ z) k.1.is in
          let there = k.2 in
          (stride_holds (index y.columns y.columns.source v) (index y.columns 0 v) (steps y.columns q v.range.step) all (omega (arith, linear)), tt)
