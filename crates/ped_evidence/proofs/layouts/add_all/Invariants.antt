use Rattle.std.proofs.Common.{◌≡◌, ◌++◌, drop}
use Rattle.ped_evidence.proofs.layouts.add_all.Given as goal

abbrev pub invariant-loop-n : goal.invariant-loop-n
invariant-loop-n l = l.numbers ++ drop l.n-index l.others ≡ l.fn.numbers ++ l.others
