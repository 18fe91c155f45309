use Rattle.std.proofs.Common.{◌≡◌, ◌<◌, Some, length, sym, ap, ◌∙◌, arith}
use Rattle.std.proofs.lemmas.Result.{on_ok_weaker}
use Rattle.ped_links.specs.ArrowViews.{ends_of}
use Rattle.ped_units.specs.Units as plain
use Rattle.ped_units.specs.Units.{all_units}
use Rattle.ped_links.specs.Numbers.{number_of_unit}
use Rattle.ped_links.proofs.NumberedUnits.{unit_of_number, unit_read, units_long}
use Rattle.ped_links.proofs.Passings.{call_step}
use Rattle.ped_links.proofs.formals.add_passings_at.Goals as goal

pub returns-clause-added : goal.returns-clause-added
returns-clause-added c =
    let call = c.args.call.now in
    let units = c.args.scene.now.units.now in
    let k = c.in-Some.callee in
    on_ok_weaker c.add_passings_of.result (λ h us scene f u.
    let named : number_of_unit (all_units us) call.name ≡ Some k = sym (c.callee.ensures.number us scene) ∙ c.in-Some.is in
    let below = (unit_of_number us call.name k named).1 in
    let long = units_long us units scene.units in
    let low : k < length units = omega (arith, below, long) in
    let formals = c.as_slice-names.ensures ∙ sym (ap (λ (v : plain.ProgramUnit). v.formals) (unit_read us units k c.index-scene-callee.result scene.units low)) in
    call_step us c.args.unit k call c.as_slice-names.result.now c.as_slice.result.now (ends_of c.args.arrows.now) (ends_of c.add_passings_of.new.arrows) named formals c.as_slice.ensures (h (all_units us) f u below)) c.add_passings_of.ensures.added
