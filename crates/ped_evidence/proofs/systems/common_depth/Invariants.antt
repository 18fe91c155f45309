use Rattle.std.proofs.Common.{◌≡◌, ◌+◌, ◌≤◌, length, drop}
use Rattle.ped_tree.specs.Nests.{common_nest}
use Rattle.ped_refs.specs.Loops.{nest_of}
use Rattle.ped_evidence.proofs.systems.common_depth.Given as goal

abbrev pub invariant-loop-i : goal.invariant-loop-i
invariant-loop-i l = record {
  common : l.i + length (common_nest (nest_of (drop l.i l.source)) (nest_of (drop l.i l.sink))) ≡ length (common_nest (nest_of l.source) (nest_of l.sink));
  within : l.i ≤ length l.sink;
}
