use Rattle.std.specs.List.{range_with_len}
use Rattle.ped_tree.specs.Views.{program_tree}
use Rattle.ped_reduce.specs.Lowering.{not_lowered}
use Rattle.ped_reduce.specs.Reducing.{Lowers}
use Rattle.ped_reduce.specs.CodeLowered.{lowered_view, IsKept}
use Rattle.ped_reduce.proofs.lowering.lower_front.Given as goal

abbrev pub invariant-loop-before : goal.invariant-loop-before
invariant-loop-before g l = record {
  lowers : Lowers (program_tree l.scene.tree.now) (range_with_len 1 l.before) (not_lowered (program_tree l.scene.tree.now)) (lowered_view l.lowered);
  kept : IsKept l.before l.lowered;
}
