use Rattle.std.proofs.Common.{◌≡◌, ◌^◌, map, drop}
use Rattle.ped_views.specs.Intervals.{IsWithin}
use Rattle.ped_tree.specs.Views.{expr_tree, pack_exprs}
use Rattle.ped_tree.specs.declared.expressions.Intrinsic.TheVariants.{Max, Min}
use Rattle.ped_affine.specs.IntervalArithmetic.{interval_max, interval_min}
use Rattle.ped_affine.specs.Ranges.{call_interval, intervals_of}
use Rattle.ped_affine.specs.Arguments.{setting_of}
use Rattle.ped_affine.specs.Surroundings.{around_of}
use Rattle.ped_affine.proofs.Extremes.{go_on}
use Rattle.ped_affine.proofs.bounds.+parts.Given as goal

abbrev pub invariant-greatest_of_all-loop-argument : goal.invariant-greatest_of_all-loop-argument
invariant-greatest_of_all-loop-argument l = record {
  value : go_on interval_max (setting_of l.setting) (around_of l.around) l.values (drop l.argument-index l.argument-items) ≡ call_interval Max (intervals_of (setting_of l.setting) (around_of l.around) (pack_exprs (map expr_tree l.arguments)));
  near : IsWithin (2 ^ 62) l.values;
}

abbrev pub invariant-least_of_all-loop-argument : goal.invariant-least_of_all-loop-argument
invariant-least_of_all-loop-argument l = record {
  value : go_on interval_min (setting_of l.setting) (around_of l.around) l.values (drop l.argument-index l.argument-items) ≡ call_interval Min (intervals_of (setting_of l.setting) (around_of l.around) (pack_exprs (map expr_tree l.arguments)));
  near : IsWithin (2 ^ 62) l.values;
}
