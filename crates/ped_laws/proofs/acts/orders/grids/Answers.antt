use Rattle.ped_laws.proofs.ActLaws.Rows.{rows_stand, columns_stand, same_blocks, rows_cross_not}
use Rattle.ped_laws.proofs.acts.orders.grids.Goals as goal

pub returns-clause-rows : goal.returns-clause-rows
returns-clause-rows c = rows_stand

pub returns-clause-columns : goal.returns-clause-columns
returns-clause-columns c = columns_stand

pub returns-clause-same : goal.returns-clause-same
returns-clause-same c = same_blocks

pub returns-clause-crosses : goal.returns-clause-crosses
returns-clause-crosses c = rows_cross_not
