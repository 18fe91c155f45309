use Rattle.ped_bodies.specs.ped_symbols.proofs.RightUseLaws.Whole.{right_program}
use Rattle.ped_loop_runs.proofs.PastingLaws.RunStores.{storable_after, all_storable_after}
use Rattle.ped_loop_runs.proofs.stores.stores_hold_storable.Goals as goal

pub returns-clause-of_variables : goal.returns-clause-of_variables
returns-clause-of_variables c = λ t data_bytes valid. all_storable_after t valid (right_program t valid) data_bytes

pub returns-clause-in_setting : goal.returns-clause-in_setting
returns-clause-in_setting c = λ t data_bytes valid. storable_after t valid (right_program t valid) data_bytes
