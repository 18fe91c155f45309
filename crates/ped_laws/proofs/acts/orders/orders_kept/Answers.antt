use Rattle.ped_laws.proofs.ActLaws.Reorderings.{rows_once, own_order, reversed_order, column_order}
use Rattle.ped_laws.proofs.acts.orders.orders_kept.Goals as goal

pub returns-clause-once : goal.returns-clause-once
returns-clause-once c = rows_once

pub returns-clause-in_order : goal.returns-clause-in_order
returns-clause-in_order c = own_order

pub returns-clause-in_reverse : goal.returns-clause-in_reverse
returns-clause-in_reverse c = reversed_order

pub returns-clause-by_columns : goal.returns-clause-by_columns
returns-clause-by_columns c = column_order
