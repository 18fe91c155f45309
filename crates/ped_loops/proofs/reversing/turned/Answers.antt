use Rattle.std.proofs.Common.{ℤ, ◌≤◌, unsigned_abs, sym, subst}
use Rattle.ped_loops.proofs.ReverseAnswers.{unit_small, unit_passed}
use Rattle.ped_loops.proofs.reversing.turned.Goals as goal

pub literal-requires : goal.literal-requires
literal-requires c = subst (λ (n : ℤ). unsigned_abs n ≤ 2147483647) (sym (unit_passed c.args.step c.requires)) (unit_small c.args.step c.requires)
