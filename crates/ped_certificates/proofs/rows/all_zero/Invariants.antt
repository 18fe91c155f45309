use Rattle.std.proofs.Common.{◌≡◌, drop, pos}
use Rattle.std.specs.List.{list_all}
use Rattle.std.specs.Ordering.{int_eq}
use Rattle.ped_certificates.proofs.rows.all_zero.Given as goal

-- what is left tells
abbrev pub invariant-loop-a : goal.invariant-loop-a
invariant-loop-a l = list_all (λ a. int_eq a (pos 0)) (drop l.a-index l.numbers) ≡ list_all (λ a. int_eq a (pos 0)) l.numbers
