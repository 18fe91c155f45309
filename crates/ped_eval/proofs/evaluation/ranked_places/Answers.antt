use Rattle.std.proofs.Common.{Err, sym, ap, ◌∙◌}
use Rattle.ped_eval.proofs.Steps.{target_unranked, target_faulted}
use Rattle.ped_eval.proofs.evaluation.ranked_places.Goals as goal

pub returns-then-not-is_rank-clause-err : goal.returns-then-not-is_rank-clause-err
returns-then-not-is_rank-clause-err c = λ x.
    target_unranked c.args.around.now x c.args.subscripts.now (sym c.is_rank.ensures ∙ c.if-not-is_rank.true) ∙ ap Err (sym c.fault_in.ensures.fault)

pub returns-in-Ok-clause-rank : goal.returns-in-Ok-clause-rank
returns-in-Ok-clause-rank c = sym c.is_rank.ensures ∙ c.if-not-is_rank.false

pub returns-in-Err-clause-err : goal.returns-in-Err-clause-err
returns-in-Err-clause-err c = λ x. target_faulted c.args.around.now x c.args.subscripts.now c.in-Err.fault c.in-Err.ensures.err
