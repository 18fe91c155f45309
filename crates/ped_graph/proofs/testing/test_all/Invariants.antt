use Rattle.std.proofs.Common.{◌≡◌, ◌+◌, Some, map, length}
use Rattle.ped_graph.proofs.testing.test_all.Given as goal

-- the views so far are tested
abbrev pub invariant-loop-view : goal.invariant-loop-view
invariant-loop-view g l = record { verdicts : l.slots.items ≡ map Some l.yielded; steps : l.steps ≡ l.fn.steps + length l.yielded }
