use Rattle.std.proofs.Common.{arith, ◌∙◌, ◌^◌}
use Rattle.ped_store.proofs.Places.{fewer, no_offset, no_rest, both, bounded, extent_below}
use Rattle.ped_store.proofs.slots.+place_within.Goals as goal

pub returns-in_err-offset : goal.returns-in_err-offset
returns-in_err-offset t c =
    let e = c.in-Some.ensures.cases.0 in
    let f = c.in_ok-first_upper.ensures.cases.0 in
    let g = c.in_ok-subscript.ensures.cases.0 in
    c.from_residual-in_err-offset.ensures ∙ rw (e, f, g) (no_offset c.in-Some.first_lower.now c.in_ok-first_upper.first_upper.now c.in_ok-subscript.subscript.now c.in-Some.lowers.now c.in_ok-first_upper.uppers.now c.in_ok-subscript.others.now c.in_err-offset.ensures)

pub place_within-requires : goal.place_within-requires
place_within-requires t c =
    let e = c.in-Some.ensures.cases.0 in
    let f = c.in_ok-first_upper.ensures.cases.0 in
    let m = rw (e, f) at c.requires in
    (omega (arith, c.in-Some.ensures.cases.1), fewer c.in-Some.first_lower.now c.in_ok-first_upper.first_upper.now c.in_ok-subscript.subscript.now c.in-Some.lowers.now c.in_ok-first_upper.uppers.now c.in_ok-offset.offset (2 ^ 63) c.in_ok-offset.ensures m)

pub returns-in_err-rest : goal.returns-in_err-rest
returns-in_err-rest t c =
    let e = c.in-Some.ensures.cases.0 in
    let f = c.in_ok-first_upper.ensures.cases.0 in
    let g = c.in_ok-subscript.ensures.cases.0 in
    c.from_residual-in_err-rest.ensures ∙ rw (e, f, g) (no_rest c.in-Some.first_lower.now c.in_ok-first_upper.first_upper.now c.in_ok-subscript.subscript.now c.in-Some.lowers.now c.in_ok-first_upper.uppers.now c.in_ok-subscript.others.now c.in_ok-offset.offset c.in_ok-offset.ensures c.in_err-rest.ensures)

pub extent-requires : goal.extent-requires
extent-requires t c =
    let e = c.in-Some.ensures.cases.0 in
    let f = c.in_ok-first_upper.ensures.cases.0 in
    let m = rw (e, f) at c.requires in
    let x = extent_below c.in-Some.first_lower.now c.in_ok-first_upper.first_upper.now c.in-Some.lowers.now c.in_ok-first_upper.uppers.now c.in_ok-subscript.others.now c.in_ok-rest.rest c.in_ok-rest.ensures in
    omega (arith, m, x)

pub overflow_mul-result : goal.overflow_mul-result
overflow_mul-result t c =
    let e = c.in-Some.ensures.cases.0 in
    let f = c.in_ok-first_upper.ensures.cases.0 in
    let m = rw (e, f) at c.requires in
    let x = bounded c.in-Some.first_lower.now c.in_ok-first_upper.first_upper.now c.in_ok-subscript.subscript.now c.in-Some.lowers.now c.in_ok-first_upper.uppers.now c.in_ok-subscript.others.now c.in_ok-offset.offset c.in_ok-rest.rest c.in_ok-offset.ensures c.in_ok-rest.ensures in
    rw c.extent.ensures (omega (arith, m, x))

pub overflow_add-result : goal.overflow_add-result
overflow_add-result t c =
    let e = c.in-Some.ensures.cases.0 in
    let f = c.in_ok-first_upper.ensures.cases.0 in
    let m = rw (e, f) at c.requires in
    let x = bounded c.in-Some.first_lower.now c.in_ok-first_upper.first_upper.now c.in_ok-subscript.subscript.now c.in-Some.lowers.now c.in_ok-first_upper.uppers.now c.in_ok-subscript.others.now c.in_ok-offset.offset c.in_ok-rest.rest c.in_ok-offset.ensures c.in_ok-rest.ensures in
    rw c.extent.ensures (omega (arith, m, x))

pub returns : goal.returns
returns t c =
    let e = c.in-Some.ensures.cases.0 in
    let f = c.in_ok-first_upper.ensures.cases.0 in
    let g = c.in_ok-subscript.ensures.cases.0 in
    rw (e, f, g, c.extent.ensures) (both c.in-Some.first_lower.now c.in_ok-first_upper.first_upper.now c.in_ok-subscript.subscript.now c.in-Some.lowers.now c.in_ok-first_upper.uppers.now c.in_ok-subscript.others.now c.in_ok-offset.offset c.in_ok-rest.rest c.in_ok-offset.ensures c.in_ok-rest.ensures)
