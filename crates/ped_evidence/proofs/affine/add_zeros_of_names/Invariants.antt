use Rattle.std.proofs.Common.{◌≡◌, ◌++◌, map, drop, pos}
use Rattle.ped_evidence.proofs.affine.add_zeros_of_names.Given as goal

abbrev pub invariant-loop-symbol : goal.invariant-loop-symbol
invariant-loop-symbol l = l.coefficients ++ map (λ x. pos 0) (drop l._symbol-index l.symbols) ≡ l.fn.coefficients ++ map (λ x. pos 0) l.symbols
