use Rattle.std.proofs.Common.{◌≡◌, ◌+◌, ◌<◌, List, length, map, sym, ap, subst, ◌∙◌, arith}
use Rattle.std.proofs.lemmas.List.{length-map}
use Rattle.ped_units.specs.Units.{all_units}
use Rattle.ped_units.specs.Linking.{calls_of}
use Rattle.ped_links.specs.Arguments.{StandsForArguments}
use Rattle.ped_links.specs.FirstLinks.{IsFirstOf}
use Rattle.ped_links.specs.Placing.{placed_call}
use Rattle.ped_links.specs.Scenes.{unit_at, AtArguments}
use Rattle.ped_links.specs.declared.placing.PlacedCall.{PlacedCall}
use Rattle.ped_links.proofs.PlacesMet.{calls_read}
use Rattle.ped_units.specs.Views.{program_unit_of}
use Rattle.ped_links.proofs.FirstFound.{first_as}
use Rattle.ped_links.proofs.ArgumentsMet.{ArgumentsBelow, no_arguments, arguments_more, arguments_from, arguments_to}
use Rattle.ped_links.proofs.arguments.first_misfit.Goals as goal

pub loop-unit-init : goal.loop-unit-init
loop-unit-init c us scene = no_arguments us

pub loop-unit-preserved : goal.loop-unit-preserved
loop-unit-preserved c us scene =
    let i = c.loop-unit.unit in
    let walks = c.args.scene.now.walks.now in
    let walk = c.index-scene-unit.result in
    let long = ap length scene.units in
    let as_long = length-map c.args.scene.now.units.now program_unit_of in
    let below : i < length (all_units us) = omega (arith, long, as_long) in
    let calls : c.deref.result.now ≡ map placed_call (calls_of (unit_at us i)) = c.deref.ensures.value ∙ calls_read us walks i walk scene.walked below c.index-scene-unit.is in
    let marks = c.in_ok-marks.ensures us scene in
    subst (IsFirstOf (ArgumentsBelow us (i + 1))) (sym c.first_of_two-found.ensures)
    (arguments_more us c.loop-unit.found c.misfits_in-more.result i (c.loop-unit.invariant us scene) (subst (λ (cs : List PlacedCall). IsFirstOf (StandsForArguments us i cs) c.misfits_in-more.result) calls (c.misfits_in-more.ensures us scene marks)))

pub returns : goal.returns
returns c us scene =
    let long = ap length scene.units in
    let as_long = length-map c.args.scene.now.units.now program_unit_of in
    let wide : c.loop-unit.unit ≡ length (all_units us) = omega (arith, long, as_long) in
    first_as (ArgumentsBelow us c.loop-unit.unit) (AtArguments us) c.loop-unit.found (arguments_from us c.loop-unit.unit wide) (arguments_to us c.loop-unit.unit wide) (c.loop-unit.invariant us scene)
