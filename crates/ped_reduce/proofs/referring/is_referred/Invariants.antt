use Rattle.std.proofs.Common.{◌≡◌, drop}
use Rattle.std.specs.List.{list_any}
use Rattle.ped_refs.specs.Occurrences.{references_of}
use Rattle.ped_rules.specs.Scalars.{is_reference_in}
use Rattle.ped_reduce.proofs.referring.is_referred.Given as goal

abbrev pub invariant-loop-occurrence : goal.invariant-loop-occurrence
invariant-loop-occurrence l =
    list_any (is_reference_in l.extent.number l.extent.count l.name) (references_of (drop l.occurrence-index l.found)) ≡ list_any (is_reference_in l.extent.number l.extent.count l.name) (references_of l.found)
