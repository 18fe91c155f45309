use Rattle.std.proofs.Common.{◌<◌, length, arith, sym, ◌∙◌}
use Rattle.std.proofs.lemmas.Bool.{eqb-false}
use Rattle.ped_store.proofs.Places.{one_of_lowers}
use Rattle.ped_store.proofs.slots.place_by_one.Goals as goal

pub returns-then-not-is_empty : goal.returns-then-not-is_empty
returns-then-not-is_empty c =
    let e = c.in-Some.ensures.cases.0 in
    let f = c.in-Some-split_first.ensures.cases.0 in
    let some : 0 < length c.in-Some.lowers.now = omega (arith, eqb-false _ _ (sym c.is_empty.ensures ∙ c.if-not-is_empty.true)) in
    rw (e, f) (one_of_lowers c.in-Some.first_lower.now c.in-Some-split_first.first_upper.now c.args.subscript.now c.in-Some.lowers.now c.in-Some-split_first.uppers.now some)
