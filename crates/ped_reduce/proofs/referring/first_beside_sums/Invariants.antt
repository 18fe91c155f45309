use Rattle.std.proofs.Common.{◌≡◌, drop}
use Rattle.std.specs.Prelude.{option_map}
use Rattle.std.specs.List.{find}
use Rattle.ped_tree.specs.Views.{program_tree}
use Rattle.ped_refs.specs.Occurrences.{references_of}
use Rattle.ped_reduce.specs.Reducing.{is_beside_sums, first_beside_sums}
use Rattle.ped_reduce.proofs.referring.first_beside_sums.Given as goal

abbrev pub invariant-loop-occurrence : goal.invariant-loop-occurrence
invariant-loop-occurrence l =
    option_map (λ r. r.statement) (find (is_beside_sums (program_tree l.program) l.extent.number l.extent.count l.names) (references_of (drop l.occurrence-index l.found)))
    ≡ first_beside_sums (program_tree l.program) l.extent.number l.extent.count l.names
