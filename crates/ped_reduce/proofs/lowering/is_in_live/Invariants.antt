use Rattle.std.proofs.Common.{◌≡◌, drop}
use Rattle.std.specs.List.{list_any}
use Rattle.ped_tree.specs.Views.{program_tree}
use Rattle.ped_refs.specs.Loops.{nest_of}
use Rattle.ped_reduce.specs.Reducing.{is_live, is_in_live}
use Rattle.ped_reduce.specs.CodeLowered.{lowered_view}
use Rattle.ped_reduce.proofs.lowering.is_in_live.Given as goal

abbrev pub invariant-loop-l : goal.invariant-loop-l
invariant-loop-l l = list_any (is_live (lowered_view l.lowered)) (nest_of (drop l.l-index l.l-items)) ≡ is_in_live (program_tree l.program) (lowered_view l.lowered) l.number
