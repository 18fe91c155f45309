use Rattle.std.proofs.Common.{◌≡◌, ◌+◌, ◌++◌, drop}
use Rattle.ped_splits.specs.Distributing.{kept_from}
use Rattle.ped_splits.proofs.keeping.kept_from.Given as goal

abbrev pub invariant-loop-source : goal.invariant-loop-source
invariant-loop-source l = (l.number ≡ l.source-index) × (l.keep ++ kept_from (l.number + 1) (drop l.source-index l.sources) ≡ kept_from 1 l.sources)
