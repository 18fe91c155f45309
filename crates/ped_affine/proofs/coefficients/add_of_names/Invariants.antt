use Rattle.std.proofs.Common.{◌≡◌, ◌++◌, map, drop}
use Rattle.ped_affine.specs.AffineForms.{unknown_coefficient}
use Rattle.ped_affine.proofs.coefficients.add_of_names.Given as goal

abbrev pub invariant-loop-other : goal.invariant-loop-other
invariant-loop-other l =
    l.coefficients.items ++ map (unknown_coefficient l.name) (drop l.other-index l.others) ≡ l.fn.coefficients.items ++ map (unknown_coefficient l.name) l.others
