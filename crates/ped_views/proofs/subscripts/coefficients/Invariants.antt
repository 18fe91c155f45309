use Rattle.std.proofs.Common.{◌≡◌, take}
use Rattle.ped_views.proofs.subscripts.coefficients.Given as goal

-- the numbers so far
abbrev pub invariant-loop-number : goal.invariant-loop-number
invariant-loop-number l = l.kept.items ≡ take l.number-index l.numbers
