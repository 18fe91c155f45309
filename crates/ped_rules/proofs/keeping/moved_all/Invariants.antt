use Rattle.std.proofs.Common.{◌≡◌, map}
use Rattle.std.specs.List.{range_with_len}
use Rattle.ped_rules.specs.KeepMaps.{moved}
use Rattle.ped_rules.proofs.keeping.moved_all.Given as goal

abbrev pub invariant-loop-n : goal.invariant-loop-n
invariant-loop-n l = l.keep ≡ map (λ n. (n, moved l.end l.further n)) (range_with_len 1 l.n)
