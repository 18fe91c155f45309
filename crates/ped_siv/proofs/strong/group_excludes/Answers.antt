use Rattle.std.proofs.Common.{rules, refl, ap, sym, ◌∙◌, not, subst, IsTrue, ◌↔◌, Bool, FitsSigned}
use Rattle.std.specs.Int.{w128}
use Rattle.std.proofs.lemmas.Int.{to_z-of_z}
use Rattle.ped_views.specs.Excluded.{NeverMeetTogether}
use Rattle.ped_siv.proofs.Distances.{never_whole_at, differ_at, decided_at}
use Rattle.ped_siv.proofs.strong.group_excludes.Goals as goal
use Rattle.ped_siv.proofs.strong.group_excludes.Goals.{then-are_apart, else-are_apart}

pub returns-in-None : goal.returns-in-None
returns-in-None c =
    let never = never_whole_at c.args.rows.now _ c.requires.some c.args.range.now c.args.d c.in-None.ensures.divides in
    (λ t. never, λ n. refl)

pub returns-after-are_apart : goal.returns-after-are_apart
returns-after-are_apart c =
    let fd : FitsSigned w128 c.in-Some.distance = search rules in
    let rows = c.args.rows.now in
    let r = c.args.range.now in
    let d = c.args.d in
    let apart = simp to_z-of_z at c.are_apart.ensures in
    elim c.if-are_apart.branch [
      | then-are_apart w ↦
          let fits = simp to_z-of_z at w.fits_range.ensures in
          subst (λ (b : Bool). IsTrue (not b) ↔ NeverMeetTogether rows r d) (sym w.result-is) (decided_at rows _ c.requires.some r d c.in-Some.distance c.are_apart.result c.requires.coefficients c.in-Some.ensures.divides apart w.fits_range.result w.if-are_apart.true fits)
      | else-are_apart w ↦
          let never = differ_at rows _ c.requires.some r d c.in-Some.distance c.are_apart.result c.requires.coefficients c.in-Some.ensures.divides apart w.if-are_apart.false in
          (λ t. never, λ n. ap not (w.result-is ∙ w.if-are_apart.false))
    ]
