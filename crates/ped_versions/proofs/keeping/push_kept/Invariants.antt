use Rattle.std.proofs.Common.{◌≡◌, ◌+◌, ◌++◌, map}
use Rattle.std.specs.List.{range_with_len}
use Rattle.ped_versions.proofs.keeping.push_kept.Given as goal

abbrev pub invariant-loop-number : goal.invariant-loop-number
invariant-loop-number l = l.keep ≡ l.fn.keep ++ map (λ j. (l.before + j, l.behind + j)) (range_with_len 1 l.number)
