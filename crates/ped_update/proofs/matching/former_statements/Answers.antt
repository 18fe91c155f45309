use Rattle.std.proofs.Common.{ℕ, ap, sym, ◌∙◌, cond, eqb, Option, Some, get_or}
use Rattle.ped_graph.proofs.Slices.{get_there}
use Rattle.ped_update.proofs.Yielded.{former_more}
use Rattle.ped_update.proofs.matching.former_statements.Goals as goal

pub loop-before-preserved : goal.loop-before-preserved
loop-before-preserved c = λ now.
    let keep = c.args.keep.now in
    let i = c.loop-before.before-index in
    let none : ℕ × ℕ = (0, 0) in
    let k : ℕ × ℕ = get_or keep i none in
    c.in_ok-insert.ensures.updates.0 now ∙ ap (λ (o : Option ℕ). cond (eqb k.1 now) (Some k.0) o) (c.loop-before.invariant now)
    ∙ sym (former_more keep i k now (get_there keep i none c.loop-before-test.true))
