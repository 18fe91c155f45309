use Rattle.std.proofs.Common.{◌≡◌, ◌+◌, ◌-◌, ◌*◌, ◌^◌, length, refl, arith}
use Rattle.ped_verdict.proofs.Ordered.{few}
use Rattle.ped_verdict.proofs.Added.{added_front, its_count, its_first, its_room}
use Rattle.ped_verdict.proofs.fronts.mark_front.Goals as goal

pub mark_behind-requires-clause-front : goal.mark_behind-requires-clause-front
mark_behind-requires-clause-front c =
    let short = c.directions.ensures.short in
    let f = few (length c.directions.result.now) short in
    let b = c.place_of.ensures.small in
    omega arith

pub mark_behind-requires-clause-behind : goal.mark_behind-requires-clause-behind
mark_behind-requires-clause-behind c =
    let n = c.requires.few in
    let f = few (c.args.loops - c.len.result) (omega arith) in
    let e = c.vector_count-behind.ensures in
    omega arith

pub mark_behind-requires-clause-room : goal.mark_behind-requires-clause-room
mark_behind-requires-clause-room c =
    let room = its_room c.args.loops c.args.front.now c.directions.result.now c.len.result c.place_of.result c.vector_count-behind.result (c.place_of.result * c.vector_count-behind.result) c.requires.front c.directions.ensures.value c.len.ensures c.place_of.ensures.value c.vector_count-behind.ensures refl in
    let wide = c.requires.wide in
    omega arith

pub returns : goal.returns
returns c =
    let first = c.place_of.result * c.vector_count-behind.result in
    let count = its_count c.args.loops c.args.front.now c.directions.result.now c.len.result c.place_of.result c.vector_count-behind.result first c.requires.front c.directions.ensures.value c.len.ensures c.place_of.ensures.value c.vector_count-behind.ensures refl in
    let start = its_first c.args.loops c.args.front.now c.directions.result.now c.len.result c.place_of.result c.vector_count-behind.result first c.requires.front c.directions.ensures.value c.len.ensures c.place_of.ensures.value c.vector_count-behind.ensures refl in
    let last : first + c.vector_count-behind.result ≡ first + 3 ^ (c.args.loops - length c.args.front.now) = omega arith in
    added_front c.args.loops c.args.front.now c.requires.front first (first + c.vector_count-behind.result) c.args.row.now c.mark_behind.new.row start last c.mark_behind.ensures
