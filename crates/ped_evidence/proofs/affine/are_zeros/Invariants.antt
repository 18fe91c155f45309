use Rattle.std.proofs.Common.{◌≡◌, drop}
use Rattle.std.specs.List.{list_all}
use Rattle.ped_views.specs.Whole.{is_zero}
use Rattle.ped_evidence.proofs.affine.are_zeros.Given as goal

abbrev pub invariant-loop-n : goal.invariant-loop-n
invariant-loop-n l = list_all is_zero (drop l.n-index l.numbers) ≡ list_all is_zero l.numbers
