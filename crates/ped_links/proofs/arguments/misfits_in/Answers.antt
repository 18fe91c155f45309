use Rattle.std.proofs.Common.{◌≡◌, ◌+◌, ◌≤◌, [], ◌∷◌, ◌++◌, List, length, take, sym, subst, arith, take_all}
use Rattle.std.proofs.lemmas.Grind.{common_steps}
use Rattle.ped_links.specs.Arguments.{StandsForArguments}
use Rattle.ped_links.specs.FirstLinks.{IsFirstOf}
use Rattle.ped_links.specs.declared.placing.PlacedCall.{PlacedCall}
use Rattle.ped_links.proofs.ArgumentsMet.{no_calls_misfit, call_more}
use Rattle.ped_links.proofs.arguments.misfits_in.Goals as goal

pub loop-call-init : goal.loop-call-init
loop-call-init c us scene marks = no_calls_misfit us c.args.unit

pub loop-call-preserved : goal.loop-call-preserved
loop-call-preserved c us scene marks =
    let all = c.args.calls.now in
    let i = c.loop-call.call-index in
    let call = c.call-item.result in
    let more : take (i + 1) all ≡ take i all ++ call ∷ [] = grind (arith, common_steps) in
    subst (IsFirstOf (StandsForArguments us c.args.unit (take (i + 1) all))) (sym c.first_of_two-found.ensures)
    (call_more us c.args.unit (take i all) (take (i + 1) all) call c.loop-call.found c.misfit_at.result more (c.loop-call.invariant us scene marks) (c.misfit_at.ensures us scene marks))

pub returns : goal.returns
returns c us scene marks =
    let ended : length c.args.calls.now ≤ c.loop-call.call-index = omega arith in
    subst (λ (calls : List PlacedCall). IsFirstOf (StandsForArguments us c.args.unit calls) c.loop-call.found) (take_all c.loop-call.call-index c.args.calls.now ended) (c.loop-call.invariant us scene marks)
