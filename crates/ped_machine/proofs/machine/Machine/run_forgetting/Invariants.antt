use Rattle.std.proofs.Common.{◌≡◌}
use Rattle.ped_interleavings.specs.ped_eval.specs.Outcomes.{setting_of}
use Rattle.ped_interleavings.specs.Weights.{left_weight}
use Rattle.ped_machine.specs.Machines.{standing}
use Rattle.ped_machine.specs.Roots.{held, IsSafe}
use Rattle.ped_machine.specs.Following.{Follows}
use Rattle.ped_machine.proofs.machine.Machine.run_forgetting.Given as goal

abbrev pub invariant-loop-step : goal.invariant-loop-step
invariant-loop-step l = record {
  safe : IsSafe l.self;
  tree : (held l.self).tree ≡ (held l.initial.self).tree;
  follows : Follows (setting_of (held l.initial.self).tree) (standing (held l.initial.self) l.choices) (held l.self) l.left;
}

abbrev pub decreases-loop-step : goal.decreases-loop-step
decreases-loop-step l = left_weight (held l.self).left
