use Rattle.std.proofs.Common.{ℕ, ◌+◌, List, sym, subst}
use Rattle.std.specs.List.{range_with_len}
use Rattle.ped_tree.specs.Views.{program_tree}
use Rattle.ped_reduce.specs.Lowering.{not_lowered}
use Rattle.ped_reduce.specs.Reducing.{Lowers}
use Rattle.ped_reduce.specs.CodeLowered.{lowered_view}
use Rattle.ped_reduce.proofs.LoweringLaws.{lowers_next}
use Rattle.ped_reduce.proofs.LoweringCode.{range_more}
use Rattle.ped_reduce.proofs.lowering.lower_front.Goals as goal

pub loop-before-preserved : goal.loop-before-preserved
loop-before-preserved g c =
    let t = program_tree c.args.scene.now.tree.now in
    let n = c.loop-before.before in
    let q = lowered_view c.loop-before.lowered in
    let r = lowered_view c.lower_at.new.lowered in
    record {
      lowers = subst (λ (ss : List ℕ). Lowers t ss (not_lowered t) r) (sym (range_more n)) (lowers_next t (range_with_len 1 n) (n + 1) (not_lowered t) q r c.loop-before.invariant.lowers c.in_ok-lower_at.ensures.lowers);
      kept = c.in_ok-lower_at.ensures.kept;
    }
