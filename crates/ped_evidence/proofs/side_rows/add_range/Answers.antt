use Rattle.std.proofs.lemmas.Result.{on_ok_weaker}
use Rattle.ped_evidence.proofs.RowSteps.{two_more}
use Rattle.ped_evidence.proofs.side_rows.add_range.Goals as goal

pub returns-clause-rows : goal.returns-clause-rows
returns-clause-rows c =
    on_ok_weaker c.push-2.result (λ h. two_more c.args.rows.now c.push.new.rows c.push-2.new.rows c.in_ok-least_row.field-0 c.in_ok-greatest_row.field-0 _ _ c.in_ok-push.ensures.rows h c.in_ok-least_row.ensures.row c.in_ok-greatest_row.ensures.row) c.push-2.ensures.rows
