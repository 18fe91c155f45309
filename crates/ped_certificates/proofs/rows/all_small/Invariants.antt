use Rattle.std.proofs.Common.{◌≡◌, drop}
use Rattle.std.specs.List.{list_all}
use Rattle.ped_certificates.specs.Certificates.{is_small}
use Rattle.ped_certificates.proofs.rows.all_small.Given as goal

-- what is left tells
abbrev pub invariant-loop-a : goal.invariant-loop-a
invariant-loop-a l = list_all is_small (drop l.a-index l.numbers) ≡ list_all is_small l.numbers
