use Rattle.std.proofs.Common.{◌≡◌, ◌+◌, ◌<◌, ℕ, Option, length, get_or, sym, ap, subst, ◌∙◌, arith}
use Rattle.ped_units.specs.ped_valid.specs.ped_symbols.specs.NameRefusals.{has_twice}
use Rattle.ped_units.specs.Units.{ProgramUnit, all_units}
use Rattle.ped_links.specs.FirstLinks.{IsFirstOf, standing_link}
use Rattle.ped_links.specs.Scenes.{AtHeads}
use Rattle.ped_units.specs.declared.refusals.UnitFinding.{UnitFinding}
use Rattle.ped_units.specs.declared.refusals.UnitRule.TheVariants as rule
use Rattle.ped_links.proofs.FirstFound.{first_as}
use Rattle.ped_links.proofs.Heads.{HeadsBelow, no_heads, heads_from, heads_to, heads_more, repeats_by, by_repeats}
use Rattle.ped_links.proofs.NumberedUnits.{unit_read, units_long}
use Rattle.ped_links.proofs.linking.first_at_heads.Goals as goal

pub loop-number-init : goal.loop-number-init
loop-number-init c us scene named = no_heads us

pub loop-number-preserved : goal.loop-number-preserved
loop-number-preserved c us scene named =
    let units = c.args.scene.now.units.now in
    let n = c.loop-number.number in
    let unit = get_or units n c.index-scene-number.result in
    let low : n < length units = omega arith in
    let long = units_long us units scene.units in
    let below : n < length (all_units us) = omega (arith, low, long) in
    let known = unit_read us units n c.index-scene-number.result scene.units low in
    let name = ap (λ (u : ProgramUnit). u.name) known in
    let line = ap (λ (u : ProgramUnit). u.line) known in
    let tested = c.is_repeated-repeats.ensures (all_units us) scene.numbers in
    let twice = c.in_ok-twice.ensures ∙ ap has_twice (c.as_slice.ensures ∙ sym (ap (λ (u : ProgramUnit). u.formals) known)) in
    subst (IsFirstOf (HeadsBelow us (n + 1)))
    (sym (c.standing-found-in-loop-number.ensures ∙ ap (λ (o : Option UnitFinding). standing_link o c.in_ok-twice.twice rule.Arguments unit.line) c.standing-found.ensures ∙ ap (λ (l : ℕ). standing_link (standing_link c.loop-number.found c.is_repeated-repeats.result rule.NoUnit l) c.in_ok-twice.twice rule.Arguments l) (sym line)))
    (heads_more us n c.loop-number.found c.is_repeated-repeats.result c.in_ok-twice.twice (c.loop-number.invariant us scene named)
    (λ t. repeats_by us n unit.name name (tested.0 t)) (λ h. tested.1 (by_repeats us n unit.name named below name h)) twice)

pub returns : goal.returns
returns c us scene named =
    let long = units_long us c.args.scene.now.units.now scene.units in
    let wide : c.loop-number.number ≡ length (all_units us) = omega (arith, long) in
    first_as (HeadsBelow us c.loop-number.number) (AtHeads us) c.loop-number.found (heads_from us c.loop-number.number wide) (heads_to us c.loop-number.number wide) (c.loop-number.invariant us scene named)
