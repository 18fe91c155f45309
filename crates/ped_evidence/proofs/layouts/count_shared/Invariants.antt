use Rattle.std.proofs.Common.{◌≡◌, ◌≤◌, ◌+◌, length, filter, drop}
use Rattle.ped_affine.specs.Arguments.{setting_of}
use Rattle.ped_evidence.specs.Kept.{levels_kept}
use Rattle.ped_evidence.specs.Layouts.{has_shared}
use Rattle.ped_evidence.proofs.layouts.count_shared.Given as goal

abbrev pub invariant-loop-level : goal.invariant-loop-level
invariant-loop-level l = record {
  count : l.count + length (filter (has_shared (setting_of l.setting) l.symbols) (levels_kept (drop l.level-index l.levels))) ≡ length (filter (has_shared (setting_of l.setting) l.symbols) (levels_kept l.levels));
  few : l.count ≤ l.level-index;
}
