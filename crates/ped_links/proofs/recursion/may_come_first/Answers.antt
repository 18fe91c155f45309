use Rattle.std.proofs.Common.{◌≡◌, ◌+◌, ◌≤◌, ◌<◌, [], ◌∷◌, ◌++◌, inl, inr, List, length, take, refl, sym, subst, arith, take_all}
use Rattle.std.proofs.lemmas.Bool.{iff_false, false≢true}
use Rattle.std.proofs.lemmas.Grind.{common_steps}
use Rattle.ped_units.specs.Units.{all_units}
use Rattle.ped_units.specs.Linking.{IsIn}
use Rattle.ped_links.specs.Recursions.{CallMayComeFirst, MayComeFirst}
use Rattle.ped_links.specs.declared.placing.PlacedCall.{PlacedCall}
use Rattle.ped_links.proofs.Members.{in_either, in_one, in_item}
use Rattle.ped_links.proofs.recursion.may_come_first.Goals as goal

pub loop-call-init : goal.loop-call-init
loop-call-init c us scene h = h.1

pub returns-then-call_may_come_first : goal.returns-then-call_may_come_first
returns-then-call_may_come_first c us scene =
    let all = c.args.calls.now in
    let i = c.loop-call.call-index in
    let call = c.call-item.result in
    let low : i < length all = omega arith in
    (λ t. (call, in_item all i call low c.call-item.is, (c.call_may_come_first.ensures us scene).0 c.if-call_may_come_first.true), λ h. refl)

pub loop-call-preserved : goal.loop-call-preserved
loop-call-preserved c us scene h =
    let all = c.args.calls.now in
    let i = c.loop-call.call-index in
    let call = c.call-item.result in
    let more : take (i + 1) all ≡ take i all ++ call ∷ [] = grind (arith, common_steps) in
    elim (in_either h.0 (take i all) (call ∷ []) (subst (IsIn h.0) more h.1)) [
      | inl x ↦ c.loop-call.invariant us scene (h.0, x, h.2)
      | inr y ↦ iff_false (c.call_may_come_first.ensures us scene) c.if-call_may_come_first.false (subst (CallMayComeFirst (all_units us) c.args.marks.now c.args.found) (in_one h.0 call y) h.2)
    ]

pub returns : goal.returns
returns c us scene =
    let all = c.args.calls.now in
    let ended : length all ≤ c.loop-call.call-index = omega arith in
    (λ t. absurd (false≢true t), λ h. absurd (c.loop-call.invariant us scene (subst (λ (calls : List PlacedCall). MayComeFirst (all_units us) c.args.marks.now c.args.found calls) (sym (take_all c.loop-call.call-index all ended)) h)))
