use Rattle.std.proofs.Common.{◌≡◌, ◌<◌, ◌+◌, ◌*◌, ℕ, length, subst, arith}
use Rattle.ped_verdict.specs.Marked.{AreSet}
use Rattle.ped_verdict.proofs.Added.{set_more}
use Rattle.ped_verdict.proofs.fronts.mark_behind.Goals as goal

pub set-requires : goal.set-requires
set-requires c =
    let room = c.requires.room in
    let first = c.first_place-first.ensures.value in
    let t = c.loop-place-test.true in
    let w = c.loop-place.invariant.wide in
    omega arith

pub loop-place-preserved : goal.loop-place-preserved
loop-place-preserved c =
    let room = c.requires.room in
    let first = c.first_place-first.ensures.value in
    let t = c.loop-place-test.true in
    let w = c.loop-place.invariant.wide in
    let below : c.loop-place.place < length c.loop-place.row = omega arith in
    set_more c.first_place-first.result c.loop-place.place c.args.row.now c.loop-place.row c.set.new.self c.loop-place.invariant c.loop-place.auto.place below c.set.ensures

pub returns : goal.returns
returns c =
    let first = c.first_place-first.ensures.value in
    let past = c.loop-place-test.false in
    let within = c.loop-place.auto.place-end (omega arith) in
    let last : c.loop-place.place ≡ c.args.front * c.args.behind + c.args.behind = omega arith in
    subst (λ (k : ℕ). AreSet k (c.args.front * c.args.behind + c.args.behind) c.args.row.now c.loop-place.row) first
    (subst (λ (k : ℕ). AreSet c.first_place-first.result k c.args.row.now c.loop-place.row) last c.loop-place.invariant)
