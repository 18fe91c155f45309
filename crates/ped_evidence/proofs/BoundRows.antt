-- The rows of a loop's bounds hold for a value between them.
use Rattle.std.proofs.Common.{◌≡◌, ℕ, ◌+◌, ◌≤◌, refl, sym, subst, arith, ℤ, ◌≤ℤ◌, List, [], ◌∷◌, ◌++◌, map, length, drop, Bool, true, false, Option, Some, None, if◌then◌else◌}
use Rattle.std.specs.Prelude.{option_map}
use Rattle.std.proofs.lemmas.List.{map-append}
use Rattle.ped_views.proofs.Products.{linear}
use Rattle.ped_certificates.specs.declared.systems.Row.{Row}
use Rattle.ped_certificates.specs.Rows.{Holds, Meets}
use Rattle.ped_tree.specs.Tree.{ExprTree}
use Rattle.ped_affine.specs.AffineForms.{AffineForm, is_constant_form}
use Rattle.ped_evidence.specs.Forms.{at_most}
use Rattle.ped_evidence.specs.Levels.{Level, lower_bounds, upper_bounds}
use Rattle.ped_evidence.specs.Layouts.{Layout, index, form_at, widened, placed}
use Rattle.ped_evidence.specs.Systems.{if_varying, bound_forms, lower_rows, upper_rows}
use Rattle.ped_evidence.specs.Facts.{Values, in_order, AreFor, value_by, FormsAre}
use Rattle.ped_evidence.proofs.Weighing.{form_value, at_most_holds}
use Rattle.ped_evidence.proofs.Arranging.{widened_value}
use Rattle.ped_evidence.proofs.Meeting.{meets_both}

module _ (y : Layout) (w : Values) (fit : AreFor y.columns w) (before : ℕ) (v : Level) (loops rest : List ℤ) (as_many : length v.around ≡ length loops) (side : drop before (in_order w) ≡ loops ++ rest) (within : before + length v.around ≤ y.columns.source + y.columns.sink) where
  abbrev all : List ℤ
  all = in_order w

  -- rows that are made of the forms of bounds hold where they hold for forms with such values
  bounds_meet : (row : AffineForm → Row) (P : ℤ → Type 0) → ((f : AffineForm) (n : ℤ) → form_value f all ≡ n → P n → Holds (row f) all) → (es : List ExprTree) → FormsAre y.setting y.symbols v.around loops w.symbols P es → Meets (map row (bound_forms y before v es)) all
  bounds_meet row P law [] h = tt
  bounds_meet row P law (e ∷ es) h =
      subst (λ (rows : List Row). Meets rows all) (sym (map-append row (if_varying (placed y before v.around e)) (bound_forms y before v es)))
      (meets_both (map row (if_varying (placed y before v.around e))) (map row (bound_forms y before v es)) all (one (form_at y.setting y.symbols v.around e) refl) (bounds_meet row P law es h.1))
    where
      one : (o : Option AffineForm) → form_at y.setting y.symbols v.around e ≡ o → Meets (map row (if_varying (placed y before v.around e))) all
      one None is = subst (λ (o : Option AffineForm). Meets (map row (if_varying (option_map (widened y.columns before (length v.around)) o))) all) (sym is) tt
      one (Some f) is = subst (λ (o : Option AffineForm). Meets (map row (if_varying (option_map (widened y.columns before (length v.around)) o))) all) (sym is) (if_so (is_constant_form (widened y.columns before (length v.around) f)))
        where
          its : Holds (row (widened y.columns before (length v.around) f)) all
          its = law (widened y.columns before (length v.around) f) (value_by loops w.symbols f) (widened_value y.columns w fit before (length v.around) loops rest f as_many side within (h.0 f is).0) (h.0 f is).1

          if_so : (b : Bool) → Meets (map row (if b then [] else widened y.columns before (length v.around) f ∷ [])) all
          if_so true = tt
          if_so false = (its, tt)

  pub lower_rows_meet : (x : ℤ) → form_value (index y.columns before v) all ≡ x → FormsAre y.setting y.symbols v.around loops w.symbols (λ n. n ≤ℤ x) (lower_bounds v) → Meets (lower_rows y before v) all
  lower_rows_meet x is h =
      bounds_meet (λ f. at_most f (index y.columns before v)) (λ n. n ≤ℤ x) (λ f n e k. at_most_holds f (index y.columns before v) all (omega (arith, linear))) (lower_bounds v) h

  pub upper_rows_meet : (x : ℤ) → form_value (index y.columns before v) all ≡ x → FormsAre y.setting y.symbols v.around loops w.symbols (λ n. x ≤ℤ n) (upper_bounds v) → Meets (upper_rows y before v) all
  upper_rows_meet x is h =
      bounds_meet (λ f. at_most (index y.columns before v) f) (λ n. x ≤ℤ n) (λ f n e k. at_most_holds (index y.columns before v) f all (omega (arith, linear))) (upper_bounds v) h
