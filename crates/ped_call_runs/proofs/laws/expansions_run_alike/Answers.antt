use Rattle.ped_call_runs.proofs.FollowingUnits.{outcomes_alike}
use Rattle.ped_call_runs.proofs.UnitsStand.{units_stand}
use Rattle.ped_call_runs.proofs.laws.expansions_run_alike.Goals as goal

pub returns : goal.returns
returns c = λ text us data_bytes reads valid ends. outcomes_alike us (units_stand text us reads valid) data_bytes ends
