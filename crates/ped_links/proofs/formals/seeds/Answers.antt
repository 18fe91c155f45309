use Rattle.std.proofs.Common.{◌≡◌, ◌↔◌, ◌<◌, ℕ, length, sym, ap, subst, ◌∙◌, arith}
use Rattle.ped_base.specs.Lists.{is_among}
use Rattle.ped_units.specs.Units as plain
use Rattle.ped_units.specs.Units.{all_units}
use Rattle.ped_units.specs.Linking.{IsIn}
use Rattle.ped_links.specs.Arguments.{used_names}
use Rattle.ped_links.proofs.NumberedUnits.{unit_read, units_long}
use Rattle.ped_links.proofs.Seeds.{no_seeds, units_seeds}
use Rattle.ped_links.proofs.Used.{SeedBelow}
use Rattle.ped_links.proofs.formals.seeds.Goals as goal

pub loop-unit-init : goal.loop-unit-init
loop-unit-init c = record {
  below = λ n i. absurd (subst (IsIn n) c.new-seeds.ensures.items i);
  seeds = λ us scene f n. (λ i. absurd (subst (IsIn n) c.new-seeds.ensures.items i), λ s. absurd (no_seeds (used_names c.args.as_indexes) us n s));
}

pub loop-unit-preserved : goal.loop-unit-preserved
loop-unit-preserved c = record {
  below = c.in_ok-add_seeds.ensures.below c.loop-unit.invariant.below;
  seeds = λ us scene f.
      let units = c.args.scene.now.units.now in
      let n = c.loop-unit.unit in
      let own = used_names c.args.as_indexes in
      let low : n < length units = omega arith in
      let long = units_long us units scene.units in
      let below : n < length (all_units us) = omega (arith, low, long) in
      let unit = unit_read us units n c.index-scene-unit.result scene.units low in
      let again = unit_read us units n c.index-scene-unit-in-loop-unit.result scene.units low in
      units_seeds own us n c.as_slice-own.result.now c.in_ok-names.names c.loop-unit.seeds.items c.add_seeds.new.seeds.items (c.as_slice-own.ensures ∙ sym (ap (λ (u : plain.ProgramUnit). u.formals) again))
      (λ x. c.in_ok-names.ensures x ∙ ap (λ (u : plain.ProgramUnit). is_among x (own u)) (sym unit)) (c.loop-unit.invariant.seeds us scene f) (c.in_ok-add_seeds.ensures.seeds (all_units us) f below);
}

pub returns-clause-seeds : goal.returns-clause-seeds
returns-clause-seeds c us scene f n =
    let long = units_long us c.args.scene.now.units.now scene.units in
    let wide : c.loop-unit.unit ≡ length (all_units us) = omega (arith, long) in
    subst (λ (m : ℕ). IsIn n c.loop-unit.seeds.items ↔ SeedBelow (used_names c.args.as_indexes) us m n) wide (c.loop-unit.invariant.seeds us scene f n)
