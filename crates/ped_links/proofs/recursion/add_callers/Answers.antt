use Rattle.std.proofs.Common.{◌≡◌, ◌⊎◌, ◌↔◌, ◌+◌, ◌≤◌, [], ◌∷◌, ◌++◌, List, length, take, inl, inr, refl, subst, arith, take_all}
use Rattle.std.proofs.lemmas.Grind.{common_steps}
use Rattle.ped_links.specs.ArrowViews.{ends_of}
use Rattle.ped_links.specs.Reaching.{Leads}
use Rattle.ped_links.specs.Recursions.{CallsIn}
use Rattle.ped_units.specs.Units.{all_units}
use Rattle.ped_links.specs.declared.placing.PlacedCall.{PlacedCall}
use Rattle.ped_links.proofs.Recursive.{callers_step}
use Rattle.ped_links.proofs.recursion.add_callers.Goals as goal

pub loop-call-init : goal.loop-call-init
loop-call-init c = record { wide = refl; added = λ us scene k i. (λ l. inl l, λ h. elim h [ inl x ↦ x | inr y ↦ absurd y.1.1 ]) }

pub loop-call-preserved : goal.loop-call-preserved
loop-call-preserved c =
    let all = c.args.calls.now in
    let i = c.loop-call.call-index in
    let call = c.call-item.result in
    let more : take (i + 1) all ≡ take i all ++ call ∷ [] = grind (arith, common_steps) in
    let wide = c.add_arrow.ensures.wide in
    record {
      wide = omega (arith, wide, c.loop-call.invariant.wide);
      added = λ us scene. callers_step us (take i all) (take (i + 1) all) call c.args.unit c.callee.result (ends_of c.args.arrows.now) (ends_of c.loop-call.arrows) (ends_of c.add_arrow.new.arrows) more (c.callee.ensures.number us scene) (c.loop-call.invariant.added us scene) c.in_ok-add_arrow.ensures.added;
    }

pub returns-clause-added : goal.returns-clause-added
returns-clause-added c us scene k i =
    let ended : length c.args.calls.now ≤ c.loop-call.call-index = omega arith in
    subst (λ (calls : List PlacedCall). Leads (ends_of c.loop-call.arrows) k i ↔ (Leads (ends_of c.args.arrows.now) k i ⊎ ((i ≡ c.args.unit) × CallsIn (all_units us) calls k))) (take_all c.loop-call.call-index c.args.calls.now ended) (c.loop-call.invariant.added us scene k i)
