use Rattle.std.proofs.Common.{◌≡◌, ◌+◌, ◌-◌}
use Rattle.ped_tree.specs.Views.{program_tree}
use Rattle.ped_rules.specs.Fresh.{most_numbered}
use Rattle.ped_reduce.specs.CodeLowering.{fresh_from}
use Rattle.ped_reduce.proofs.partials.fresh_array.Given as goal

abbrev pub invariant-loop-next : goal.invariant-loop-next
invariant-loop-next l = fresh_from (program_tree l.program) l.next ≡ fresh_from (program_tree l.program) l.initial.next

abbrev pub decreases-loop-next : goal.decreases-loop-next
decreases-loop-next l = most_numbered + 1 - l.next
