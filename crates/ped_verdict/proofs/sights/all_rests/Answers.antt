use Rattle.std.proofs.Common.{◌≡◌, ◌<◌, ◌+◌, ◌-◌, ℕ, length, ap, subst, arith}
use Rattle.std.proofs.lemmas.Grind.{common_steps}
use Rattle.std.proofs.lemmas.List.{get_or_default}
use Rattle.ped_views.specs.Views.{View}
use Rattle.ped_miv.specs.Parts.{IsRest}
use Rattle.ped_verdict.proofs.Sighted.{more_rests}
use Rattle.ped_verdict.proofs.sights.all_rests.Goals as goal

pub rest_from-rest-requires-clause-parts : goal.rest_from-rest-requires-clause-parts
rest_from-rest-requires-clause-parts c =
    let loops = ap (λ (w : View). length w.loops) c.view.view_is in
    let n : c.len-loops.result ≡ length c.args.view.now.loops = grind (arith, common_steps) in
    let t = c.loop-behind-test.true in
    let below : c.len-loops.result - 1 - c.loop-behind.behind < length c.args.view.now.loops = omega arith in
    let inside : c.len-loops.result - 1 - c.loop-behind.behind < length c.args.parts.now = (let l = c.requires.parts.as_many in omega arith) in
    c.requires.parts.each (c.len-loops.result - 1 - c.loop-behind.behind) _ below (get_or_default c.args.parts.now (c.len-loops.result - 1 - c.loop-behind.behind) _ _ inside)

pub loop-behind-preserved : goal.loop-behind-preserved
loop-behind-preserved c =
    let loops = ap (λ (w : View). length w.loops) c.view.view_is in
    let n : c.len-loops.result ≡ length c.args.view.now.loops = grind (arith, common_steps) in
    let t = c.loop-behind-test.true in
    let e : c.len-loops.result - 1 - c.loop-behind.behind ≡ length c.args.view.now.loops - (c.loop-behind.behind + 1) = omega arith in
    let rest : IsRest c.args.view.now c.args.position.now (length c.args.view.now.loops - (c.loop-behind.behind + 1)) c.rest_from-rest.result = subst (λ (k : ℕ). IsRest c.args.view.now c.args.position.now k c.rest_from-rest.result) e c.rest_from-rest.ensures in
    record {
      rests = more_rests (c.loop-behind.behind + 1) c.args.view.now c.args.position.now c.loop-behind.rests.items c.push-in-loop-behind.new.self.items c.rest_from-rest.result c.in_ok-push-2.ensures.items rest c.loop-behind.invariant.rests;
      rest = rest;
    }
