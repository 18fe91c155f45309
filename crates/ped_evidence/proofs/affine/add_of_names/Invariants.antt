use Rattle.std.proofs.Common.{◌≡◌, ◌++◌, map, drop}
use Rattle.ped_affine.specs.AffineForms.{unknown_coefficient}
use Rattle.ped_evidence.proofs.affine.add_of_names.Given as goal

abbrev pub invariant-loop-symbol : goal.invariant-loop-symbol
invariant-loop-symbol l = l.coefficients ++ map (unknown_coefficient l.name) (drop l.symbol-index l.symbols) ≡ l.fn.coefficients ++ map (unknown_coefficient l.name) l.symbols
