use Rattle.std.proofs.Common.{ap, ap₂, ◌∙◌, sym, ℕ, List, map}
use Rattle.ped_session.specs.ped_rules.specs.ped_eval.specs.Outcomes.{Ended}
use Rattle.ped_session.specs.ped_rules.specs.ped_eval.specs.OutcomeViews.{outcome_view, row_view}
use Rattle.ped_session.specs.ped_rules.specs.ped_eval.specs.declared.outcomes.LiveRow as code_row
use Rattle.ped_answer.proofs.SameEnds.{alike_by, never_alike}
use Rattle.ped_answer.proofs.endings.end_alike.Goals as goal

pub returns-in-Ended : goal.returns-in-Ended
returns-in-Ended c =
    alike_by (outcome_view c.args.first.now) (outcome_view c.args.second.now) c.as_slice.result.now (map row_view c.as_slice-in-Ended.result.now) c.has_ended.result
    (ap outcome_view c.in-Ended.is ∙ ap₂ (λ (lines : List (List ℕ)) (rows : List code_row.LiveRow). Ended lines (map row_view rows)) (sym c.as_slice.ensures) (sym c.as_slice-in-Ended.ensures))
    c.has_ended.ensures

pub returns-in-Fault : goal.returns-in-Fault
returns-in-Fault c =
    never_alike (outcome_view c.args.first.now) (outcome_view c.args.second.now) c.in-Fault.fault c.in-Fault.statement (ap outcome_view c.in-Fault.is)
