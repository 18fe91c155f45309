use Rattle.ped_answer.proofs.UnitsShown.{run_in_order, request_units}
use Rattle.ped_answer.proofs.headline.units_run_as_expanded.Goals as goal

pub returns : goal.returns
returns c = request_units c.expansions_run_alike.ensures c.expansions_fault_alike.ensures (run_in_order c.without_lists.ensures.none_live c.without_choices.ensures) c.runs_are_as_before.ensures
