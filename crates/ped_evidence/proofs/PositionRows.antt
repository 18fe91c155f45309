-- The rows of subscripts hold where these have equal values.
use Rattle.std.proofs.Common.{◌≡◌, refl, sym, ◌∙◌, arith, ℤ, List, [], ◌∷◌, ◌++◌, length, Option, Some, None}
use Rattle.std.specs.Prelude.{option_map}
use Rattle.ped_certificates.specs.Rows.{Meets}
use Rattle.ped_tree.specs.Tree.{ExprTree}
use Rattle.ped_affine.specs.AffineForms.{AffineForm}
use Rattle.ped_affine.specs.PairViews.{Site}
use Rattle.ped_evidence.specs.Layouts.{Layout, form_at, widened, placed}
use Rattle.ped_evidence.specs.Systems.{equal_rows, position_rows}
use Rattle.ped_evidence.specs.Facts.{Values, in_order, AreFor, value_by, IsComplete, AreEqual}
use Rattle.ped_evidence.proofs.Weighing.{equal_holds}
use Rattle.ped_evidence.proofs.Arranging.{widened_value, sink_behind}
use Rattle.ped_evidence.proofs.Meeting.{meets_both}

module _ (y : Layout) (w : Values) (fit : AreFor y.columns w) (source sink : Site) (deep : y.columns.source ≡ length source.nest) (deep_sink : y.columns.sink ≡ length sink.nest) where
  abbrev all : List ℤ
  all = in_order w

  -- what is to be shown of one position
  abbrev Equal : Option AffineForm → Option AffineForm → Type 0
  Equal o p = (f h : AffineForm) → o ≡ Some f → p ≡ Some h → IsComplete w.source w.symbols f × IsComplete w.sink w.symbols h × (value_by w.source w.symbols f ≡ value_by w.sink w.symbols h)

  one : (o p : Option AffineForm) → Equal o p → Meets (equal_rows (option_map (widened y.columns 0 (length source.nest)) o) (option_map (widened y.columns y.columns.source (length sink.nest)) p)) all
  one None p h = tt
  one (Some f) None h = tt
  one (Some f) (Some g) h =
      let k = h f g refl refl in
      let a = widened_value y.columns w fit 0 (length source.nest) w.source (w.sink ++ (w.quotients ++ w.symbols)) f (omega (arith, fit.source)) refl (omega arith) k.0 in
      let b = widened_value y.columns w fit y.columns.source (length sink.nest) w.sink (w.quotients ++ w.symbols) g (omega (arith, fit.sink)) (sink_behind y.columns w fit) (omega arith) k.1 in
      (equal_holds (widened y.columns 0 (length source.nest) f) (widened y.columns y.columns.source (length sink.nest) g) all (a ∙ (k.2 ∙ sym b)), tt)

  pub position_rows_meet : (es gs : List ExprTree) → AreEqual y.setting y.symbols w.source w.sink w.symbols source.nest sink.nest es gs → Meets (position_rows y source sink es gs) all
  position_rows_meet [] gs h = tt
  position_rows_meet (e ∷ es) [] h = tt
  position_rows_meet (e ∷ es) (g ∷ gs) h =
      meets_both (equal_rows (placed y 0 source.nest e) (placed y y.columns.source sink.nest g)) (position_rows y source sink es gs) all
      (one (form_at y.setting y.symbols source.nest e) (form_at y.setting y.symbols sink.nest g) h.0) (position_rows_meet es gs h.1)
