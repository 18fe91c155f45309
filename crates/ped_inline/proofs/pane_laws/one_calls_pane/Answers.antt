use Rattle.ped_inline.proofs.OnePane.{one_pane_of_calls}
use Rattle.ped_inline.proofs.SomeRows.{some_calls_pane}
use Rattle.ped_inline.proofs.pane_laws.one_calls_pane.Goals as goal

pub returns-clause-some : goal.returns-clause-some
returns-clause-some c = some_calls_pane

pub returns-clause-one : goal.returns-clause-one
returns-clause-one c = one_pane_of_calls
