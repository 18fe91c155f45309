use Rattle.std.proofs.Common.{◌≡◌, ◌++◌, drop}
use Rattle.ped_refs.specs.Occurrences.{references_of}
use Rattle.ped_refs.specs.Grouping.{pairs_from}
use Rattle.ped_refs.proofs.pairing.listed_pairs.Given as goal

abbrev pub invariant-loop-source : goal.invariant-loop-source
invariant-loop-source l =
    l.listed.items ++ pairs_from (references_of l.found) l.source (references_of (drop l.source l.found)) ≡ pairs_from (references_of l.found) 0 (references_of l.found)
