use Rattle.std.proofs.Common.{◌≡◌, ◌++◌, map, drop}
use Rattle.ped_tree.specs.Nests.{indices_of}
use Rattle.ped_refs.specs.Loops.{nest_of}
use Rattle.ped_affine.specs.AffineForms.{unknown_coefficient}
use Rattle.ped_evidence.proofs.affine.add_of_loops.Given as goal

abbrev pub invariant-loop-l : goal.invariant-loop-l
invariant-loop-l l = l.coefficients ++ map (unknown_coefficient l.name) (indices_of (nest_of (drop l.l-index l.around))) ≡ l.fn.coefficients ++ map (unknown_coefficient l.name) (indices_of (nest_of l.around))
