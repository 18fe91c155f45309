use Rattle.std.proofs.Common.{◌≡◌, ◌++◌, map, drop, pos}
use Rattle.ped_tree.specs.Nests.{indices_of}
use Rattle.ped_refs.specs.Loops.{nest_of}
use Rattle.ped_evidence.proofs.affine.add_zeros_of_loops.Given as goal

abbrev pub invariant-loop-l : goal.invariant-loop-l
invariant-loop-l l = l.coefficients ++ map (λ x. pos 0) (indices_of (nest_of (drop l._l-index l.around))) ≡ l.fn.coefficients ++ map (λ x. pos 0) (indices_of (nest_of l.around))
