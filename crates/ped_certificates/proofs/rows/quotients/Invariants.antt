use Rattle.std.proofs.Common.{◌≡◌, take, map, pos, int_div}
use Rattle.ped_certificates.proofs.rows.quotients.Given as goal

-- the quotients so far
abbrev pub invariant-loop-a : goal.invariant-loop-a
invariant-loop-a l = l.quotients ≡ map (λ a. int_div a (pos l.divisor)) (take l.a-index l.numbers)
