use Rattle.std.proofs.Common.{◌≡◌, ◌+◌, ◌≤◌, List, [], ◌∷◌, ◌++◌, length, take, refl, sym, subst, arith, take_all}
use Rattle.std.proofs.lemmas.Grind.{common_steps}
use Rattle.ped_units.specs.Units.{all_units}
use Rattle.ped_units.specs.Linking.{Recursion}
use Rattle.ped_links.specs.FirstLinks.{IsFirstOf}
use Rattle.ped_links.specs.Reaching.{IsMarkedNumber}
use Rattle.ped_links.specs.Scenes.{StandsAtCalls, CallsMarked}
use Rattle.ped_links.specs.declared.placing.PlacedCall.{PlacedCall}
use Rattle.ped_units.specs.declared.refusals.UnitRule.TheVariants as rule
use Rattle.ped_links.proofs.CallSteps.{no_calls, first_more}
use Rattle.ped_links.proofs.recursion.first_leading.Goals as goal

pub loop-call-init : goal.loop-call-init
loop-call-init c us scene = no_calls Recursion (CallsMarked (all_units us) c.args.leading.now)

pub loop-call-preserved : goal.loop-call-preserved
loop-call-preserved c us scene =
    let all = c.args.calls.now in
    let i = c.loop-call.call-index in
    let call = c.call-item.result in
    let leading = c.args.leading.now in
    let more : take (i + 1) all ≡ take i all ++ call ∷ [] = grind (arith, common_steps) in
    let named = c.callee.ensures.number us scene in
    subst (IsFirstOf (StandsAtCalls (take (i + 1) all) Recursion (CallsMarked (all_units us) leading))) (sym c.standing-found.ensures)
    (first_more (take i all) (take (i + 1) all) call Recursion rule.Recursion (CallsMarked (all_units us) leading) c.loop-call.found c.is_marked-leads.result more refl (c.loop-call.invariant us scene)
    (λ t. subst (IsMarkedNumber leading) named (c.is_marked-leads.ensures.0 t)) (λ h. c.is_marked-leads.ensures.1 (subst (IsMarkedNumber leading) (sym named) h)))

pub returns : goal.returns
returns c us scene =
    let ended : length c.args.calls.now ≤ c.loop-call.call-index = omega arith in
    subst (λ (calls : List PlacedCall). IsFirstOf (StandsAtCalls calls Recursion (CallsMarked (all_units us) c.args.leading.now)) c.loop-call.found) (take_all c.loop-call.call-index c.args.calls.now ended) (c.loop-call.invariant us scene)
