use Rattle.std.proofs.Common.{◌≡◌, ◌++◌, map, codes}
use Rattle.std.specs.Fmt.{decimal}
use Rattle.std.specs.List.{range_with_len}
use Rattle.ped_evidence.proofs.printing.add_quotients.Given as goal

abbrev pub invariant-loop-before : goal.invariant-loop-before
invariant-loop-before l = l.names ≡ l.fn.names ++ map (λ k. codes "#" ++ decimal k) (range_with_len 1 l.before)
