use Rattle.ped_bodies.specs.ped_symbols.proofs.RightUseLaws.Whole.{right_program}
use Rattle.ped_loop_runs.proofs.PastingLaws.EnteredRanges.{in_nest_round, in_nest_setting, told_lie}
use Rattle.ped_loop_runs.proofs.places.ranges_entered.Goals as goal

pub returns-clause-round : goal.returns-clause-round
returns-clause-round c = λ t data_bytes valid. in_nest_round t valid (right_program t valid) data_bytes

pub returns-clause-in_setting : goal.returns-clause-in_setting
returns-clause-in_setting c = λ t data_bytes valid. in_nest_setting t valid (right_program t valid) data_bytes

pub returns-clause-lie : goal.returns-clause-lie
returns-clause-lie c = λ t data_bytes valid. told_lie t valid (right_program t valid) data_bytes
