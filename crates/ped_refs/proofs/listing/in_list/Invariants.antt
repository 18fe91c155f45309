use Rattle.std.proofs.Common.{◌≡◌, ◌++◌, map, drop}
use Rattle.ped_refs.specs.References.{outermost}
use Rattle.ped_refs.specs.ListedReferences.{ref_of}
use Rattle.ped_refs.specs.Occurrences.{references_of}
use Rattle.ped_refs.proofs.listing.in_list.Given as goal

abbrev pub invariant-loop-occurrence : goal.invariant-loop-occurrence
invariant-loop-occurrence l = record {
  items : l.refs.items ++ map ref_of (references_of (drop l.occurrence-index l.found)) ≡ map ref_of (references_of l.found);
  outer : l.refs.outer ++ map outermost (references_of (drop l.occurrence-index l.found)) ≡ map outermost (references_of l.found);
}
