use Rattle.std.proofs.Common.{sym, ap, length, ◌∙◌, arith}
use Rattle.ped_expressions.proofs.Basics.{behind_digits}
use Rattle.ped_statements.proofs.outside_profile.are_labels.Goals as goal

pub loop-left-smaller : goal.loop-left-smaller
loop-left-smaller c = omega (arith, behind_digits c.loop-left.left.now (sym c.begins_with_digit.ensures ∙ c.loop-left-test.true), ap length c.split_digits.ensures.behind, c.in-Some.ensures.shorter)
