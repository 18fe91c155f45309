use Rattle.std.proofs.Common.{◌≡◌, true, refl, ap, ◌∙◌, ◌⊎◌, inl, inr}
use Rattle.std.specs.Str.Lines.{lines}
use Rattle.ped_flow.specs.ped_tree.specs.Tree.{ExprTree, Head}
use Rattle.ped_flow.specs.ped_tree.specs.Grammar.Fits.{expr_fits}
use Rattle.ped_eval.specs.ped_store.specs.Stores.{store_at_start}
use Rattle.ped_eval.specs.Outcomes.{setting_of}
use Rattle.ped_laws.proofs.PlainLaws.Standing.{value_during}
use Rattle.ped_laws.proofs.PlainLaws.ValidPrograms.{loop_bounds_fit, no_stop_in_loops, have_values}
use Rattle.ped_laws.proofs.plain.programs.bounds_in_valid_programs.Goals as goal

bound_fits : (h : Head) (e : ExprTree) → (expr_fits h.first ≡ true) × (expr_fits h.last ≡ true) → (e ≡ h.first) ⊎ (e ≡ h.last) → expr_fits e ≡ true
bound_fits h e f (inl is) = ap expr_fits is ∙ f.0
bound_fits h e f (inr is) = ap expr_fits is ∙ f.1

pub returns : goal.returns
returns c = λ t data_bytes v l front entry d e is plain told ranges.
    value_during (setting_of t) t (λ m n same. same) (no_stop_in_loops t v) (have_values t v) (store_at_start (lines data_bytes)) l front entry told (λ x. refl) e plain
    (bound_fits d.head e (loop_bounds_fit t l d.head d.body v d.is) is) ranges
