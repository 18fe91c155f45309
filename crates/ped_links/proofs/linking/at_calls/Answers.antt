use Rattle.std.proofs.Common.{◌≡◌, ◌+◌, ◌≤◌, ℕ, List, [], ◌∷◌, ◌++◌, Option, Some, None, Bool, true, false, not, is_some, length, take, refl, sym, ap, subst, ◌∙◌, arith, take_all}
use Rattle.std.proofs.lemmas.Grind.{common_steps}
use Rattle.ped_units.specs.Units.{all_units}
use Rattle.ped_units.specs.Linking.{NoUnit, CallPlace}
use Rattle.ped_links.specs.FirstLinks.{IsFirstOf, standing_link}
use Rattle.ped_links.specs.LinkPlaces.{StandsAtPlaces, CallsNone, IsParallel}
use Rattle.ped_links.specs.declared.placing.PlacedCall.{PlacedCall}
use Rattle.ped_units.specs.declared.refusals.UnitFinding.{UnitFinding}
use Rattle.ped_units.specs.declared.refusals.UnitRule.TheVariants as rule
use Rattle.ped_links.proofs.CallSteps.{no_places_called, first_two_more}
use Rattle.ped_links.proofs.linking.at_calls.Goals as goal

none_is : (o : Option ℕ) → is_some o ≡ false → o ≡ None
none_is None h = refl
none_is (Some n) h = absurd cc

is_test : (b : Bool) → not b ≡ false → b ≡ true
is_test true h = refl
is_test false h = absurd cc

pub loop-call-init : goal.loop-call-init
loop-call-init c us scene = no_places_called (all_units us)

pub loop-call-preserved : goal.loop-call-preserved
loop-call-preserved c us scene =
    let all = c.args.calls.now in
    let i = c.loop-call.call-index in
    let call = c.call-item.result in
    let more : take (i + 1) all ≡ take i all ++ call ∷ [] = grind (arith, common_steps) in
    let named = c.callee.ensures.number us scene in
    let test = c.is_none-calls_none.result in
    let none : is_some c.callee.result ≡ not test = c.is_none-calls_none.ensures in
    subst (IsFirstOf (StandsAtPlaces (all_units us) (take (i + 1) all))) (sym (c.standing-found-in-loop-call.ensures ∙ ap (λ (o : Option UnitFinding). standing_link o call.around.parallel rule.CallPlace call.line) c.standing-found.ensures))
    (first_two_more (take i all) (take (i + 1) all) call NoUnit CallPlace rule.NoUnit rule.CallPlace (CallsNone (all_units us)) IsParallel c.loop-call.found test call.around.parallel more refl refl (c.loop-call.invariant us scene)
    (λ t. sym named ∙ none_is c.callee.result (none ∙ ap not t)) (λ h. is_test test (sym none ∙ ap is_some (named ∙ h))) (λ t. t) (λ h. h))

pub returns : goal.returns
returns c us scene =
    let ended : length c.args.calls.now ≤ c.loop-call.call-index = omega arith in
    subst (λ (calls : List PlacedCall). IsFirstOf (StandsAtPlaces (all_units us) calls) c.loop-call.found) (take_all c.loop-call.call-index c.args.calls.now ended) (c.loop-call.invariant us scene)
