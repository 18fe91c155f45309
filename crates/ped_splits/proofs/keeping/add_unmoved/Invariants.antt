use Rattle.std.proofs.Common.{◌≡◌, ◌++◌}
use Rattle.ped_splits.specs.Distributing.{unmoved}
use Rattle.ped_splits.proofs.keeping.add_unmoved.Given as goal

abbrev pub invariant-loop-place : goal.invariant-loop-place
invariant-loop-place l = l.sources.items ≡ l.initial.sources.items ++ unmoved l.first l.place
