use Rattle.std.proofs.Common.{◌≡◌, ◌⊎◌, ◌↔◌, ◌+◌, ◌≤◌, [], ◌∷◌, ◌++◌, List, length, take, inl, inr, refl, subst, ◌∙◌, arith, take_all}
use Rattle.std.proofs.lemmas.Grind.{common_steps}
use Rattle.ped_links.specs.ArrowViews.{ends_of}
use Rattle.ped_links.specs.Arguments.{CallsPass}
use Rattle.ped_links.specs.Reaching.{Leads}
use Rattle.ped_links.specs.declared.placing.PlacedCall.{PlacedCall}
use Rattle.ped_links.proofs.Passings.{calls_step}
use Rattle.ped_links.proofs.formals.add_passings.Goals as goal

pub loop-call-init : goal.loop-call-init
loop-call-init c = record { wide = refl; added = λ us scene f u from to. (λ l. inl l, λ h. elim h [ inl x ↦ x | inr y ↦ absurd y.1 ]) }

pub loop-call-preserved : goal.loop-call-preserved
loop-call-preserved c =
    let all = c.args.calls.now in
    let i = c.loop-call.call-index in
    let call = c.call-item.result in
    let more : take (i + 1) all ≡ take i all ++ call ∷ [] = grind (arith, common_steps) in
    record {
      wide = c.add_passings_at.ensures.wide ∙ c.loop-call.invariant.wide;
      added = λ us scene f u. calls_step us c.args.unit (take i all) (take (i + 1) all) call (ends_of c.args.arrows.now) (ends_of c.loop-call.arrows) (ends_of c.add_passings_at.new.arrows) more (c.loop-call.invariant.added us scene f u) (c.in_ok-add_passings_at.ensures.added us scene f u);
    }

pub returns-clause-added : goal.returns-clause-added
returns-clause-added c us scene f u from to =
    let ended : length c.args.calls.now ≤ c.loop-call.call-index = omega arith in
    subst (λ (calls : List PlacedCall). Leads (ends_of c.loop-call.arrows) from to ↔ (Leads (ends_of c.args.arrows.now) from to ⊎ CallsPass us c.args.unit calls from to)) (take_all c.loop-call.call-index c.args.calls.now ended) (c.loop-call.invariant.added us scene f u from to)
