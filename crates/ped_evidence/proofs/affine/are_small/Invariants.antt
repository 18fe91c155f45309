use Rattle.std.proofs.Common.{◌≡◌, drop}
use Rattle.std.specs.List.{list_all}
use Rattle.ped_affine.specs.AffineForms.{is_small}
use Rattle.ped_evidence.proofs.affine.are_small.Given as goal

abbrev pub invariant-loop-n : goal.invariant-loop-n
invariant-loop-n l = list_all is_small (drop l.n-index l.numbers) ≡ list_all is_small l.numbers
