use Rattle.std.proofs.Common.{◌≡◌, ◌<◌, ℕ, List, Some, None, length, sym, ap, subst, ◌∙◌, arith}
use Rattle.ped_units.specs.Units as plain
use Rattle.ped_units.specs.Units.{all_units}
use Rattle.ped_units.specs.Linking.{Arguments, Aliased}
use Rattle.ped_links.specs.FirstLinks.{IsFirstOf, EitherStands, StandsIf}
use Rattle.ped_links.specs.Arguments.{StandsForArguments, HasMisfit, SomeAliased}
use Rattle.ped_links.specs.Numbers.{number_of_unit}
use Rattle.ped_links.specs.Scenes.{unit_at}
use Rattle.ped_links.proofs.ArgumentSteps.{table_read}
use Rattle.ped_links.proofs.ArgumentsMet.{one_call, none_called}
use Rattle.ped_links.proofs.NumberedUnits.{unit_of_number, unit_read, units_long}
use Rattle.ped_links.proofs.arguments.misfit_at.Goals as goal

pub returns-in_err-callee : goal.returns-in_err-callee
returns-in_err-callee c us scene marks =
    let none : number_of_unit (all_units us) c.args.call.now.name ≡ None = sym (c.callee.ensures.number us scene) ∙ c.in_err-callee.was in
    subst (IsFirstOf (StandsForArguments us c.args.unit _)) (sym c.from_residual.ensures) (none_called us c.args.unit c.args.call.now none)

pub returns : goal.returns
returns c us scene marks =
    let call = c.args.call.now in
    let i = c.args.unit in
    let k = c.in_ok-callee.callee in
    let units = c.args.scene.now.units.now in
    let tables = c.args.scene.now.tables.now in
    let u = unit_at us i in
    let v = unit_at us k in
    let named : number_of_unit (all_units us) call.name ≡ Some k = sym (c.callee.ensures.number us scene) ∙ c.in_ok-callee.was in
    let below = (unit_of_number us call.name k named).1 in
    let long = units_long us units scene.units in
    let low : k < length units = omega (arith, below, long) in
    let within : i < length (all_units us) = omega (arith, c.requires, long) in
    let formals = c.as_slice.ensures ∙ sym (ap (λ (w : plain.ProgramUnit). w.formals) (unit_read us units k c.index-scene-callee.result scene.units low)) in
    let here = c.refusal.ensures us i (record {
      below = below;
      formals = formals;
      caller = table_read us tables i c.index-scene-unit.result scene.tables within;
      callee = table_read us tables k c.index-scene-callee-2.result scene.tables below;
      marks = marks;
    }) in
    one_call us i k call c.refusal.result named
    (subst (λ (fs : List (List ℕ)). IsFirstOf (EitherStands (StandsIf Arguments call.line (HasMisfit us u v call)) (StandsIf Aliased call.line (SomeAliased us u v fs call.arguments))) c.refusal.result) formals here)
