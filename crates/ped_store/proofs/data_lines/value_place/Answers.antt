use Rattle.std.proofs.Common.{◌∙◌}
use Rattle.ped_store.proofs.Taking.{value_at}
use Rattle.ped_store.proofs.data_lines.value_place.Goals as goal

pub returns-then-from-place-clause-value : goal.returns-then-from-place-clause-value
returns-then-from-place-clause-value c =
    c.loop-place.invariant.same ∙ value_at c.args.input.now c.loop-place.place c.blank_count.result c.loop-place.invariant.within c.blank_count.ensures.behind c.if-from-place.true
