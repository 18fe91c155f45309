use Rattle.std.proofs.Common.{◌≡◌, ◌∷◌, ◌+◌, drop, arith}
use Rattle.std.proofs.lemmas.Grind.{common_steps}
use Rattle.ped_units.specs.Refusals.{call_in}
use Rattle.ped_units.proofs.KeptCalls.{turned, call_below}
use Rattle.ped_units.proofs.seen.with_call_at.Goals as goal

pub returns-in-Some : goal.returns-in-Some
returns-in-Some c =
    let first : drop c.args.place c.args.calls.now ≡ c.in-Some.call.now ∷ drop (c.args.place + 1) c.args.calls.now = grind (arith, common_steps, c.in-Some.ensures.lookup) in
    turned c.with_call.result c.args.entry c.args.place c.args.calls.now c.in-Some.call.now first c.with_call.ensures.statement c.with_call.ensures.reading

pub returns-in-None : goal.returns-in-None
returns-in-None c in_subroutine before_end x more h k =
    let below = call_below c.args.place c.args.calls.now (call_in x.item) more h in
    absurd (grind (arith, below, c.in-None.ensures.lookup.0))
