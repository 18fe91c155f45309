use Rattle.std.proofs.Common.{◌<◌, ◌↔◌, ℕ, Bool, [], ◌∷◌, List, length, inl, inr, refl, sym, subst, ◌∙◌, arith}
use Rattle.std.proofs.lemmas.Bool.{iff_false}
use Rattle.ped_units.specs.Units.{all_units}
use Rattle.ped_links.specs.ArrowViews.{ends_of}
use Rattle.ped_units.specs.Linking.{Recursion}
use Rattle.ped_links.specs.FirstLinks.{IsFirstOf}
use Rattle.ped_links.specs.Reaching.{IsMarked, IsReached}
use Rattle.ped_links.specs.Recursions.{IsLeading, MayComeFirst}
use Rattle.ped_links.specs.Scenes.{StandsAtCalls}
use Rattle.ped_links.specs.declared.placing.PlacedCall.{PlacedCall}
use Rattle.ped_links.proofs.NumberedUnits.{units_long}
use Rattle.ped_links.proofs.PlacesMet.{calls_read}
use Rattle.ped_links.proofs.Recursive.{found_leading}
use Rattle.ped_links.proofs.recursion.recursion_in.Goals as goal

pub returns-then-not-may_come_first : goal.returns-then-not-may_come_first
returns-then-not-may_come_first c us scene =
    let i = c.args.unit in
    let long = units_long us c.args.scene.now.units.now scene.units in
    let below : i < length (all_units us) = omega (arith, long, c.requires.unit) in
    let calls = c.deref.ensures.value ∙ calls_read us c.args.scene.now.walks.now i c.index-scene-unit.result scene.walked below c.index-scene-unit.is in
    inr (refl, λ m. iff_false (c.may_come_first.ensures us scene) c.if-not-may_come_first.true (subst (λ (cs : List PlacedCall). MayComeFirst (all_units us) c.args.marks.now c.args.found cs) (sym calls) m))

pub returns : goal.returns
returns c us scene =
    let i = c.args.unit in
    let ends = ends_of c.args.callers.now in
    let long = units_long us c.args.scene.now.units.now scene.units in
    let below : i < length (all_units us) = omega (arith, long, c.requires.unit) in
    let calls = c.deref-3.ensures.value ∙ calls_read us c.args.scene.now.walks.now i c.index-scene-unit.result scene.walked below c.index-scene-unit.is in
    let marked : (j : ℕ) → IsMarked c.deref-2.result.now j ↔ IsReached ends (i ∷ []) j = λ j. subst (λ (ms : List Bool). IsMarked ms j ↔ IsReached ends (i ∷ []) j) (sym c.deref-2.ensures.value) (c.in_ok-leading.ensures.marked j) in
    inl (subst (λ (cs : List PlacedCall). IsFirstOf (StandsAtCalls cs Recursion (IsLeading (all_units us) ends i)) c.first_leading.result) calls
    (found_leading (all_units us) ends c.deref-2.result.now i c.deref-3.result.now c.first_leading.result marked (c.first_leading.ensures us scene)))
