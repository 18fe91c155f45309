use Rattle.std.proofs.Common.{rules, arith, refl, subst, length, pos, ◌+ℤ◌, ◌≤ℤ◌, ◌<ℤ◌, FitsSigned}
use Rattle.std.specs.Int.{w128}
use Rattle.std.proofs.lemmas.Int.{to_z-of_z, ints}
use Rattle.ped_miv.specs.Bounds.{MayBound}
use Rattle.ped_miv.proofs.Sums.{some_without, some_above, some_decided, total_small, short}
use Rattle.ped_miv.proofs.bounds.any_excluded.Goals as goal

pub returns-in-None : goal.returns-in-None
returns-in-None c = (λ t. some_without c.args._view.now c.args._position.now c.args._front.now c.args.sum c.requires.sum (subst (MayBound c.args._view.now c.args._position.now (length c.args._front.now)) c.in-None.is c.requires.bounds), λ b. refl)

pub overflow_add-result : goal.overflow_add-result
overflow_add-result c =
    let behind = subst (MayBound c.args._view.now c.args._position.now (length c.args._front.now)) c.in-Some.is c.requires.bounds in
    let f : FitsSigned w128 c.args.sum.hi = search rules in
    let g : FitsSigned w128 c.in-Some.behind.hi = search rules in
    let s = (total_small c.args._view.now c.args._position.now c.args._front.now c.args.sum c.requires.sum c.in-Some.behind behind c.requires.few).1 in
    simp to_z-of_z (short _ s)

pub returns-then-sum-behind-gt0 : goal.returns-then-sum-behind-gt0
returns-then-sum-behind-gt0 c =
    let behind = subst (MayBound c.args._view.now c.args._position.now (length c.args._front.now)) c.in-Some.is c.requires.bounds in
    let f : FitsSigned w128 c.args.sum.lo = search rules in
    let g : FitsSigned w128 c.in-Some.behind.lo = search rules in
    let s = (total_small c.args._view.now c.args._position.now c.args._front.now c.args.sum c.requires.sum c.in-Some.behind behind c.requires.few).0 in
    let fits : FitsSigned w128 (c.args.sum.lo +ℤ c.in-Some.behind.lo) = short _ s in
    let t = simp to_z-of_z at c.if-sum-behind-gt0.true in
    let more : pos 0 <ℤ (c.args.sum.lo +ℤ c.in-Some.behind.lo) = omega (arith, ints) in
    (λ x. some_above c.args._view.now c.args._position.now c.args._front.now c.args.sum c.requires.sum c.in-Some.behind behind more, λ b. c.if-sum-behind-gt0.true)

pub returns-else-sum-behind-gt0 : goal.returns-else-sum-behind-gt0
returns-else-sum-behind-gt0 c =
    let behind = subst (MayBound c.args._view.now c.args._position.now (length c.args._front.now)) c.in-Some.is c.requires.bounds in
    let f1 : FitsSigned w128 c.args.sum.lo = search rules in
    let f2 : FitsSigned w128 c.in-Some.behind.lo = search rules in
    let f3 : FitsSigned w128 c.args.sum.hi = search rules in
    let f4 : FitsSigned w128 c.in-Some.behind.hi = search rules in
    let s = total_small c.args._view.now c.args._position.now c.args._front.now c.args.sum c.requires.sum c.in-Some.behind behind c.requires.few in
    let f5 : FitsSigned w128 (c.args.sum.lo +ℤ c.in-Some.behind.lo) = short _ s.0 in
    let f6 : FitsSigned w128 (c.args.sum.hi +ℤ c.in-Some.behind.hi) = short _ s.1 in
    let t = simp to_z-of_z at c.if-sum-behind-gt0.false in
    let from : (c.args.sum.lo +ℤ c.in-Some.behind.lo) ≤ℤ pos 0 = omega (arith, ints) in
    simp to_z-of_z (some_decided c.args._view.now c.args._position.now c.args._front.now c.args.sum c.requires.sum c.in-Some.behind behind from)
