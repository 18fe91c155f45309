use Rattle.std.proofs.Common.{◌≡◌, ◌++◌, suc, drop}
use Rattle.ped_refs.specs.References.{numbered_accesses}
use Rattle.ped_refs.specs.Loops.{nest_of}
use Rattle.ped_refs.specs.Occurrences.{references_of}
use Rattle.ped_refs.specs.Listing.{accesses_of}
use Rattle.ped_refs.proofs.occurring.add_numbered.Given as goal

abbrev pub invariant-loop-access : goal.invariant-loop-access
invariant-loop-access l = record {
  number : l.number ≡ l.access-index;
  found : references_of l.found.items ++ numbered_accesses l.statement (suc l.number) (nest_of l.loops) (accesses_of (drop l.access-index l.accesses))
      ≡ references_of l.fn.found.items ++ numbered_accesses l.statement 1 (nest_of l.loops) (accesses_of l.accesses);
}
