use Rattle.std.proofs.Common.{◌≡◌, ℕ, List, map, false, sym, subst}
use Rattle.std.specs.Prelude.{IsTrue, ◌↔◌}
use Rattle.ped_session.specs.ped_rules.specs.ped_eval.specs.Outcomes.{Ended}
use Rattle.ped_session.specs.ped_rules.specs.ped_eval.specs.OutcomeViews.{outcome_view, row_view}
use Rattle.ped_session.specs.ped_rules.specs.ped_eval.specs.declared.outcomes.LiveRow as code_row
use Rattle.ped_session.specs.ped_rules.specs.ped_eval.specs.declared.outcomes.Outcome as code
use Rattle.ped_answer.proofs.SameEnds.{ended_so, not_ended}
use Rattle.ped_answer.proofs.endings.has_ended.Goals as goal

pub returns-in-Ended : goal.returns-in-Ended
returns-in-Ended c =
    let r = c.same_ends.result in
    let output = c.args.output.now in
    let live = c.args.live.now in
    subst (λ (o : code.Outcome). IsTrue r ↔ (outcome_view o ≡ Ended output (map row_view live))) (sym c.in-Ended.is)
    (ended_so r c.in-Ended.lines output c.in-Ended.rows live
    (subst (λ (rows : List code_row.LiveRow). IsTrue r ↔ (c.in-Ended.lines ≡ output) × (rows ≡ live)) c.as_slice-in-Ended.ensures
    (subst (λ (lines : List (List ℕ)). IsTrue r ↔ (lines ≡ output) × (c.as_slice-in-Ended.result.now ≡ live)) c.as_slice.ensures c.same_ends.ensures)))

pub returns-in-Fault : goal.returns-in-Fault
returns-in-Fault c =
    subst (λ (o : code.Outcome). IsTrue false ↔ (outcome_view o ≡ Ended c.args.output.now (map row_view c.args.live.now))) (sym c.in-Fault.is)
    (not_ended c.in-Fault.fault c.in-Fault.statement c.args.output.now (map row_view c.args.live.now))
