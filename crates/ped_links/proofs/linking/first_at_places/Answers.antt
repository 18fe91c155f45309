use Rattle.std.proofs.Common.{◌≡◌, ◌+◌, ◌≤◌, [], ◌∷◌, ◌++◌, ℕ, List, Option, length, take, sym, ap, subst, ◌∙◌, arith, take_all}
use Rattle.std.proofs.lemmas.Grind.{common_steps}
use Rattle.ped_units.specs.Units.{all_units}
use Rattle.ped_links.specs.FirstLinks.{IsFirstOf, first_link_of}
use Rattle.ped_links.specs.LinkPlaces.{StandsAtLines, StandsAtPlaces, PlacesFound}
use Rattle.ped_links.specs.Scenes.{AtPlaces}
use Rattle.ped_links.specs.declared.placing.Found.{Found}
use Rattle.ped_links.specs.declared.placing.PlacedCall.{PlacedCall}
use Rattle.ped_units.specs.declared.refusals.UnitFinding.{UnitFinding}
use Rattle.ped_links.proofs.FirstFound.{first_as}
use Rattle.ped_links.proofs.PlacesMet.{no_places, places_more, places_from, places_to}
use Rattle.ped_links.proofs.linking.first_at_places.Goals as goal

pub loop-walk-init : goal.loop-walk-init
loop-walk-init c us scene = no_places us

pub loop-walk-preserved : goal.loop-walk-preserved
loop-walk-preserved c us scene =
    let walks = c.args.scene.now.walks.now in
    let i = c.loop-walk.walk-index in
    let walk = c.walk-item.result in
    let more : take (i + 1) walks ≡ take i walks ++ walk ∷ [] = grind (arith, common_steps) in
    let lines = subst (λ (ls : List ℕ). IsFirstOf (StandsAtLines ls) c.at_private.result) c.deref.ensures.value c.at_private.ensures in
    let calls = subst (λ (cs : List PlacedCall). IsFirstOf (StandsAtPlaces (all_units us) cs) c.at_calls.result) c.deref-in-loop-walk.ensures.value (c.at_calls.ensures us scene) in
    subst (IsFirstOf (PlacesFound us (take (i + 1) walks))) (sym (c.first_of_two-found-in-loop-walk.ensures ∙ ap (λ (o : Option UnitFinding). first_link_of o c.at_calls.result) c.first_of_two-found.ensures))
    (places_more us (take i walks) (take (i + 1) walks) walk c.loop-walk.found c.at_private.result c.at_calls.result more (c.loop-walk.invariant us scene) lines calls)

pub returns : goal.returns
returns c us scene =
    let walks = c.args.scene.now.walks.now in
    let ended : length walks ≤ c.loop-walk.walk-index = omega arith in
    first_as (PlacesFound us walks) (AtPlaces us) c.loop-walk.found (places_from us walks scene.walked) (places_to us walks scene.walked)
    (subst (λ (fs : List Found). IsFirstOf (PlacesFound us fs) c.loop-walk.found) (take_all c.loop-walk.walk-index walks ended) (c.loop-walk.invariant us scene))
