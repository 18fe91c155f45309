use Rattle.std.proofs.Common.{◌≡◌, map}
use Rattle.std.specs.List.{range_with_len}
use Rattle.ped_scalar.specs.Expanding.{moved_behind}
use Rattle.ped_scalar.proofs.keeping.kept.Given as goal

abbrev pub invariant-loop-n : goal.invariant-loop-n
invariant-loop-n l = l.keep ≡ map (λ n. (n, moved_behind l.end l.further n)) (range_with_len 1 l.n)
