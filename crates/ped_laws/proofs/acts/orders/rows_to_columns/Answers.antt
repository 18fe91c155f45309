use Rattle.ped_laws.proofs.ActLaws.Reorderings.{columns_fit, columns_leave}
use Rattle.ped_laws.proofs.acts.orders.rows_to_columns.Goals as goal

pub returns-clause-fits : goal.returns-clause-fits
returns-clause-fits c = columns_fit

pub returns-clause-leaves : goal.returns-clause-leaves
returns-clause-leaves c = columns_leave
