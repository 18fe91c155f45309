use Rattle.std.proofs.Common.{◌≡◌, ◌<◌, ℕ, List, [], length, ap, subst, ◌∙◌, arith}
use Rattle.std.proofs.lemmas.List.{length-map, length-replicate}
use Rattle.ped_links.specs.ArrowViews.{ends_of}
use Rattle.ped_links.specs.Reaching.{Leads}
use Rattle.ped_units.specs.Units.{all_units}
use Rattle.ped_units.specs.Views.{program_unit_of}
use Rattle.ped_links.proofs.ArrowsAdded.{no_arrows}
use Rattle.ped_links.proofs.NumberedUnits.{units_long}
use Rattle.ped_links.proofs.PlacesMet.{calls_read}
use Rattle.ped_links.proofs.Recursive.{callers_more, all_callers}
use Rattle.ped_links.proofs.recursion.callers.Goals as goal

pub loop-unit-init : goal.loop-unit-init
loop-unit-init c = record {
  wide = let long = ap length c.in_ok-arrows.ensures in let wide = length-replicate {A = List ℕ} (length c.args.scene.now.units.now) [] in omega (arith, long, wide);
  arrows = λ us scene k i. (λ l. absurd (no_arrows (length c.args.scene.now.units.now) k i (subst (λ (ends : List (List ℕ)). Leads ends k i) c.in_ok-arrows.ensures l)), λ h. absurd (omega (arith, h.0)));
}

pub returns-clause-arrows : goal.returns-clause-arrows
returns-clause-arrows c us scene =
    let long = ap length scene.units in
    let as_long = length-map c.args.scene.now.units.now program_unit_of in
    let wide : c.loop-unit.unit ≡ length (all_units us) = omega (arith, long, as_long) in
    all_callers us c.loop-unit.unit (ends_of c.loop-unit.arrows) wide (c.loop-unit.invariant.arrows us scene)

pub loop-unit-preserved : goal.loop-unit-preserved
loop-unit-preserved c = record {
  wide = c.add_callers.ensures.wide ∙ c.loop-unit.invariant.wide;
  arrows = λ us scene.
      let walks = c.args.scene.now.walks.now in
      let n = c.loop-unit.unit in
      let long = units_long us c.args.scene.now.units.now scene.units in
      let below : n < length (all_units us) = omega (arith, long) in
      let calls = c.deref.ensures.value ∙ calls_read us walks n c.index-scene-unit.result scene.walked below c.index-scene-unit.is in
      callers_more us n c.deref.result.now (ends_of c.loop-unit.arrows) (ends_of c.add_callers.new.arrows) calls below (c.loop-unit.invariant.arrows us scene) (c.in_ok-add_callers.ensures.added us scene);
}
