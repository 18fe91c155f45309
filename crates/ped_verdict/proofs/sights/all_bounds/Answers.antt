use Rattle.std.proofs.Common.{◌≡◌, ◌<◌, ◌+◌, ◌-◌, ℕ, length, ap, subst, arith}
use Rattle.std.proofs.lemmas.Grind.{common_steps}
use Rattle.std.proofs.lemmas.List.{get_or_default}
use Rattle.ped_views.specs.Views.{View}
use Rattle.ped_miv.specs.Bounds.{MayBound}
use Rattle.ped_verdict.proofs.Sighted.{more_bounds}
use Rattle.ped_verdict.proofs.sights.all_bounds.Goals as goal

pub bounds_from-bounds-requires-clause-parts : goal.bounds_from-bounds-requires-clause-parts
bounds_from-bounds-requires-clause-parts c =
    let loops = ap (λ (w : View). length w.loops) c.view.view_is in
    let n : c.len-loops.result ≡ length c.args.view.now.loops = grind (arith, common_steps) in
    let t = c.loop-behind-test.true in
    let below : c.len-loops.result - 1 - c.loop-behind.behind < length c.args.view.now.loops = omega arith in
    let inside : c.len-loops.result - 1 - c.loop-behind.behind < length c.args.parts.now = (let l = c.requires.parts.as_many in omega arith) in
    c.requires.parts.each (c.len-loops.result - 1 - c.loop-behind.behind) _ below (get_or_default c.args.parts.now (c.len-loops.result - 1 - c.loop-behind.behind) _ _ inside)

pub loop-behind-preserved : goal.loop-behind-preserved
loop-behind-preserved c =
    let loops = ap (λ (w : View). length w.loops) c.view.view_is in
    let n : c.len-loops.result ≡ length c.args.view.now.loops = grind (arith, common_steps) in
    let t = c.loop-behind-test.true in
    let e : c.len-loops.result - 1 - c.loop-behind.behind ≡ length c.args.view.now.loops - (c.loop-behind.behind + 1) = omega arith in
    let here : MayBound c.args.view.now c.args.position.now (length c.args.view.now.loops - (c.loop-behind.behind + 1)) c.bounds_from-bounds.result = subst (λ (k : ℕ). MayBound c.args.view.now c.args.position.now k c.bounds_from-bounds.result) e c.bounds_from-bounds.ensures in
    record {
      bounds = more_bounds (c.loop-behind.behind + 1) c.args.view.now c.args.position.now c.loop-behind.all.items c.push-in-loop-behind.new.self.items c.bounds_from-bounds.result c.in_ok-push-2.ensures.items here c.loop-behind.invariant.bounds;
      here = here;
    }

pub bounds_from-bounds-requires-clause-bounds : goal.bounds_from-bounds-requires-clause-bounds
bounds_from-bounds-requires-clause-bounds c =
    let loops = ap (λ (w : View). length w.loops) c.view.view_is in
    let n : c.len-loops.result ≡ length c.args.view.now.loops = grind (arith, common_steps) in
    let t = c.loop-behind-test.true in
    let e : length c.args.view.now.loops - c.loop-behind.behind ≡ c.len-loops.result - 1 - c.loop-behind.behind + 1 = omega arith in
    subst (λ (k : ℕ). MayBound c.args.view.now c.args.position.now k c.loop-behind.bounds) e c.loop-behind.invariant.here
