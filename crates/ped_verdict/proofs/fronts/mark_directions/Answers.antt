use Rattle.std.proofs.Common.{◌+◌, ◌-◌, ◌<◌, ◌^◌, ◌∙◌, [], List, Bool, sym, subst, arith}
use Rattle.ped_verdict.specs.Marked.{AreAdded}
use Rattle.ped_verdict.proofs.Ordered.{few}
use Rattle.ped_verdict.proofs.ByDirection.{ChosenBefore, front_room, none_chosen, all_chosen, none_more, one_more_front}
use Rattle.ped_verdict.proofs.fronts.mark_directions.Goals as goal
use Rattle.ped_verdict.proofs.fronts.mark_directions.Goals.{then-is_chosen, else-is_chosen}

pub mark_behind-requires-clause-front : goal.mark_behind-requires-clause-front
mark_behind-requires-clause-front c =
    let n = c.requires.few in
    let p = c.requires.place in
    let f = few (c.args.place + 1) (omega arith) in
    let e = c.vector_count-front-end.ensures in
    let t = c.loop-front-test.true in
    omega arith

pub mark_behind-requires-clause-behind : goal.mark_behind-requires-clause-behind
mark_behind-requires-clause-behind c =
    let n = c.requires.few in
    let f = few (c.args.loops - 1 - c.args.place) (omega arith) in
    let e = c.vector_count-behind.ensures in
    omega arith

pub mark_behind-requires-clause-room : goal.mark_behind-requires-clause-room
mark_behind-requires-clause-room c =
    let e = c.vector_count-front-end.ensures in
    let t = c.loop-front-test.true in
    let r = front_room c.args.loops c.args.place c.loop-front.front c.vector_count-behind.result c.requires.place c.vector_count-behind.ensures (omega arith) in
    let w = c.loop-front.invariant.wide in
    let wide = c.requires.wide in
    omega arith

pub loop-front-init : goal.loop-front-init
loop-front-init c = none_chosen c.args.loops c.args.place c.requires.place c.args.before c.args.same c.args.after c.args.row.now

pub loop-front-preserved : goal.loop-front-preserved
loop-front-preserved c =
    let n = c.args.loops in
    let place = c.args.place in
    let m = c.loop-front.front in
    let old = c.args.row.now in
    let end = c.vector_count-front-end.ensures in
    let t = c.loop-front-test.true in
    let within : m < 3 ^ (place + 1) = omega arith in
    elim c.if-is_chosen.branch [
      | then-is_chosen w ↦
          subst (λ (r : List Bool). AreAdded n [] (ChosenBefore place c.args.before c.args.same c.args.after (m + 1)) old r) (sym w.row-is)
          (one_more_front n place c.requires.place c.args.before c.args.same c.args.after m c.direction_at.result c.direction_at.ensures within old c.loop-front.row c.loop-front.invariant
          c.vector_count-behind.result c.vector_count-behind.ensures (sym c.is_chosen.ensures ∙ w.if-is_chosen.true) w.mark_behind.new.row w.mark_behind.ensures)
      | else-is_chosen w ↦
          subst (λ (r : List Bool). AreAdded n [] (ChosenBefore place c.args.before c.args.same c.args.after (m + 1)) old r) (sym w.row-is)
          (none_more n place c.requires.place c.args.before c.args.same c.args.after m c.direction_at.result c.direction_at.ensures within old c.loop-front.row c.loop-front.invariant
          (sym c.is_chosen.ensures ∙ w.if-is_chosen.false))
    ]

pub returns : goal.returns
returns c =
    let end = c.vector_count-front-end.ensures in
    let past = c.loop-front-test.false in
    all_chosen c.args.loops c.args.place c.requires.place c.args.before c.args.same c.args.after c.loop-front.front c.args.row.now c.loop-front.row (omega arith) c.loop-front.invariant
