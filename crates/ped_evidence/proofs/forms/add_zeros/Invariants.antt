use Rattle.std.proofs.Common.{◌≡◌, ◌++◌, replicate, pos}
use Rattle.ped_evidence.proofs.forms.add_zeros.Given as goal

abbrev pub invariant-loop : goal.invariant-loop
invariant-loop l = l.numbers ≡ l.fn.numbers ++ replicate l.counter (pos 0)
