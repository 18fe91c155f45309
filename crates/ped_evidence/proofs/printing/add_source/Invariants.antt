use Rattle.std.proofs.Common.{◌≡◌, ◌++◌, drop}
use Rattle.ped_tree.specs.Nests.{indices_of}
use Rattle.ped_refs.specs.Loops.{nest_of}
use Rattle.ped_evidence.proofs.printing.add_source.Given as goal

abbrev pub invariant-loop-around : goal.invariant-loop-around
invariant-loop-around l = l.names ++ indices_of (nest_of (drop l.around-index l.loops)) ≡ l.fn.names ++ indices_of (nest_of l.loops)
