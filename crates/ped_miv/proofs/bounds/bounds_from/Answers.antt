use Rattle.std.proofs.Common.{rules, refl, sym, subst, Option, ◌+◌, ◌+ℤ◌, FitsSigned}
use Rattle.std.specs.Int.{w128}
use Rattle.std.proofs.lemmas.Int.{to_z-of_z}
use Rattle.ped_miv.specs.declared.bounds.Bounds.{Bounds}
use Rattle.ped_miv.specs.Bounds.{MayBound, MayBoundLoop}
use Rattle.ped_miv.proofs.Sums.{bounds_stop, bounds_lack, bounds_grow, grown_small, short}
use Rattle.ped_miv.proofs.bounds.bounds_from.Goals as goal

pub returns-in_err-behind : goal.returns-in_err-behind
returns-in_err-behind c =
    subst (λ (o : Option Bounds). MayBound c.args._view.now c.args._position.now c.args._place o) (sym c.from_residual.ensures)
    (bounds_stop c.args._view.now c.args._position.now c.requires.fits c.args._place c.requires.place c.args.parts.now c.requires.parts
    (subst (MayBound c.args._view.now c.args._position.now (c.args._place + 1)) c.in_err-behind.was c.requires.bounds))

pub returns-in_err-here : goal.returns-in_err-here
returns-in_err-here c =
    subst (λ (o : Option Bounds). MayBound c.args._view.now c.args._position.now c.args._place o) (sym c.from_residual-in_err-here.ensures)
    (bounds_lack c.args._view.now c.args._position.now c.requires.fits c.args._place c.requires.place c.args.parts.now c.requires.parts c.in_err-here.ensures.0 c.in_err-here.ensures.1)

pub overflow_add-result : goal.overflow_add-result
overflow_add-result c =
    let behind = subst (MayBound c.args._view.now c.args._position.now (c.args._place + 1)) c.in_ok-behind.was c.requires.bounds in
    let f : FitsSigned w128 c.in_ok-behind.behind.lo = search rules in
    let g : FitsSigned w128 c.in_ok-here.here.lo = search rules in
    let s = (grown_small c.args._view.now c.args._position.now c.requires.fits c.args._place c.requires.place c.args.parts.now c.requires.parts c.in_ok-here.here c.in_ok-behind.behind c.in_ok-here.ensures behind).0 in
    simp to_z-of_z (short _ s)

pub overflow_add-result-2 : goal.overflow_add-result-2
overflow_add-result-2 c =
    let behind = subst (MayBound c.args._view.now c.args._position.now (c.args._place + 1)) c.in_ok-behind.was c.requires.bounds in
    let f : FitsSigned w128 c.in_ok-behind.behind.hi = search rules in
    let g : FitsSigned w128 c.in_ok-here.here.hi = search rules in
    let s = (grown_small c.args._view.now c.args._position.now c.requires.fits c.args._place c.requires.place c.args.parts.now c.requires.parts c.in_ok-here.here c.in_ok-behind.behind c.in_ok-here.ensures behind).1 in
    simp to_z-of_z (short _ s)

pub returns : goal.returns
returns c =
    let behind = subst (MayBound c.args._view.now c.args._position.now (c.args._place + 1)) c.in_ok-behind.was c.requires.bounds in
    let f1 : FitsSigned w128 c.in_ok-behind.behind.lo = search rules in
    let f2 : FitsSigned w128 c.in_ok-here.here.lo = search rules in
    let f3 : FitsSigned w128 c.in_ok-behind.behind.hi = search rules in
    let f4 : FitsSigned w128 c.in_ok-here.here.hi = search rules in
    let s = grown_small c.args._view.now c.args._position.now c.requires.fits c.args._place c.requires.place c.args.parts.now c.requires.parts c.in_ok-here.here c.in_ok-behind.behind c.in_ok-here.ensures behind in
    let f5 : FitsSigned w128 (c.in_ok-behind.behind.lo +ℤ c.in_ok-here.here.lo) = short _ s.0 in
    let f6 : FitsSigned w128 (c.in_ok-behind.behind.hi +ℤ c.in_ok-here.here.hi) = short _ s.1 in
    simp to_z-of_z (bounds_grow c.args._view.now c.args._position.now c.requires.fits c.args._place c.requires.place c.args.parts.now c.requires.parts c.in_ok-here.here c.in_ok-behind.behind
    (record { lo = c.in_ok-behind.behind.lo +ℤ c.in_ok-here.here.lo; hi = c.in_ok-behind.behind.hi +ℤ c.in_ok-here.here.hi }) c.in_ok-here.ensures behind refl refl c.requires.few)
