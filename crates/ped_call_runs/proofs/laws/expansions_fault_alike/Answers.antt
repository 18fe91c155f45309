use Rattle.ped_call_runs.proofs.FollowingUnits.{faults_alike}
use Rattle.ped_call_runs.proofs.UnitsStand.{units_stand}
use Rattle.ped_call_runs.proofs.laws.expansions_fault_alike.Goals as goal

pub returns : goal.returns
returns c = λ text us data_bytes fault statement reads valid fails none. faults_alike us (units_stand text us reads valid) data_bytes fault statement fails none
