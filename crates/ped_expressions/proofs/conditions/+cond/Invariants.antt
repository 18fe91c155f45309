use Rattle.std.proofs.Common.{◌≡◌, length, ◌≤◌, ◌+◌, ◌*◌}
use Rattle.ped_tree.specs.Views.{cond_tree}
use Rattle.ped_expressions.specs.ExpressionReading.{saturated}
use Rattle.ped_expressions.specs.ConditionReading.{ors_of, ands_of}
use Rattle.ped_expressions.proofs.conditions.+cond.Given as goal

abbrev pub decreases-cond : goal.decreases-cond
decreases-cond l = 8 * length l.text.now + 4

abbrev pub decreases-disjunction : goal.decreases-disjunction
decreases-disjunction l = 8 * length l.text.now + 4

abbrev pub decreases-logical_term : goal.decreases-logical_term
decreases-logical_term l = 8 * length l.text.now + 3

abbrev pub decreases-conjunction : goal.decreases-conjunction
decreases-conjunction l = 8 * length l.text.now + 4

abbrev pub decreases-logical_factor : goal.decreases-logical_factor
decreases-logical_factor l = 8 * length l.text.now + 2

abbrev pub decreases-logical_primary : goal.decreases-logical_primary
decreases-logical_primary l = 8 * length l.text.now + 1

abbrev pub invariant-conjunction-loop-behind : goal.invariant-conjunction-loop-behind
invariant-conjunction-loop-behind l = record {
  rest : ands_of saturated (cond_tree l.whole) l.rest ≡ ands_of saturated (cond_tree l.fn.first) l.text;
  shorter : length l.rest ≤ length l.text;
}

abbrev pub decreases-conjunction-loop-behind : goal.decreases-conjunction-loop-behind
decreases-conjunction-loop-behind l = length l.rest

abbrev pub invariant-disjunction-loop-behind : goal.invariant-disjunction-loop-behind
invariant-disjunction-loop-behind l = record {
  rest : ors_of saturated (cond_tree l.whole) l.rest ≡ ors_of saturated (cond_tree l.fn.first) l.text;
  shorter : length l.rest ≤ length l.text;
}

abbrev pub decreases-disjunction-loop-behind : goal.decreases-disjunction-loop-behind
decreases-disjunction-loop-behind l = length l.rest
