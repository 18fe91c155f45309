use Rattle.std.proofs.Common.{◌≡◌, drop}
use Rattle.std.specs.List.{list_all}
use Rattle.ped_certificates.specs.Certificates.{divides}
use Rattle.ped_certificates.proofs.rows.divides_all.Given as goal

-- what is left tells
abbrev pub invariant-loop-a : goal.invariant-loop-a
invariant-loop-a l = list_all (divides l.divisor) (drop l.a-index l.numbers) ≡ list_all (divides l.divisor) l.numbers
