use Rattle.std.proofs.Common.{rules, sym, subst, ap, ◌∙◌, ℤ, Option, FitsSigned}
use Rattle.std.specs.Int.{w128, int_max, int_min}
use Rattle.std.proofs.lemmas.Int.{to_z-of_z}
use Rattle.ped_views.specs.declared.directions.Direction.TheVariants.{Before, Same, After}
use Rattle.ped_miv.specs.declared.bounds.Bounds.{Bounds}
use Rattle.ped_miv.specs.Bounds.{MayBoundLoop}
use Rattle.ped_miv.proofs.Sums.{bounds_loop}
use Rattle.ped_miv.proofs.bounds.loop_bounds.Goals as goal

pub returns-in_err-before : goal.returns-in_err-before
returns-in_err-before c = subst (λ (o : Option Bounds). MayBoundLoop c.args.parts.now o) (sym c.from_residual.ensures) (Before, sym c.in_err-before.ensures)

pub returns-in_err-same : goal.returns-in_err-same
returns-in_err-same c = subst (λ (o : Option Bounds). MayBoundLoop c.args.parts.now o) (sym c.from_residual-in_err-same.ensures) (Same, sym c.in_err-same.ensures)

pub returns-in_err-after : goal.returns-in_err-after
returns-in_err-after c = subst (λ (o : Option Bounds). MayBoundLoop c.args.parts.now o) (sym c.from_residual-in_err-after.ensures) (After, sym c.in_err-after.ensures)

pub returns : goal.returns
returns c =
    let f1 : FitsSigned w128 c.in_ok-before.before.lo = search rules in
    let f2 : FitsSigned w128 c.in_ok-before.before.hi = search rules in
    let f3 : FitsSigned w128 c.in_ok-same.same.lo = search rules in
    let f4 : FitsSigned w128 c.in_ok-same.same.hi = search rules in
    let f5 : FitsSigned w128 c.in_ok-after.after.lo = search rules in
    let f6 : FitsSigned w128 c.in_ok-after.after.hi = search rules in
    let f7 : FitsSigned w128 c.max.result = search rules in
    let f8 : FitsSigned w128 c.min.result = search rules in
    let f9 : FitsSigned w128 c.max-2.result = search rules in
    let f10 : FitsSigned w128 c.min-2.result = search rules in
    let lo = simp to_z-of_z at c.max.ensures.value in
    let most = simp to_z-of_z at c.max-2.ensures.value in
    let hi = simp to_z-of_z at c.min.ensures.value in
    let least = simp to_z-of_z at c.min-2.ensures.value in
    simp to_z-of_z (bounds_loop c.args.parts.now c.in_ok-before.before c.in_ok-same.same c.in_ok-after.after (record { lo = c.max-2.result; hi = c.min-2.result }) (sym c.in_ok-before.ensures) (sym c.in_ok-same.ensures) (sym c.in_ok-after.ensures)
    (most ∙ ap (λ (x : ℤ). int_max x c.in_ok-after.after.lo) lo) (least ∙ ap (λ (x : ℤ). int_min x c.in_ok-after.after.hi) hi))
