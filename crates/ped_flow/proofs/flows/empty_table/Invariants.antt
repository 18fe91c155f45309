use Rattle.std.proofs.Common.{◌≡◌, length}
use Rattle.ped_flow.proofs.flows.empty_table.Given as goal

abbrev pub invariant-loop-number : goal.invariant-loop-number
invariant-loop-number l = length l.table.items ≡ l._number
