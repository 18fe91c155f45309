use Rattle.std.proofs.Common.{arith, rules, sym, subst, refl, pos, FitsSigned, w64, get_or, Option}
use Rattle.std.proofs.lemmas.Int.{to_z-of_z}
use Rattle.ped_views.specs.declared.intervals.Interval.{Interval}
use Rattle.ped_miv.specs.Values.{AreExtremes, InnerValue}
use Rattle.ped_miv.proofs.Ahead.{Ahead-step, Ahead-stop, Ahead-end, within_step}
use Rattle.ped_miv.proofs.Steps.{inner_from, inner_step, inner_end}
use Rattle.ped_miv.proofs.differences.inner_extremes.Goals as goal

pub returns-in_err-part-clause-extremes : goal.returns-in_err-part-clause-extremes
returns-in_err-part-clause-extremes c =
    let fa : FitsSigned w64 (get_or c.args.row.now c.loop-k.k (pos 0)) = search rules in
    let none = simp to_z-of_z at c.in_err-part.ensures.extremes in
    let opens = inner_step c.args.loops.now c.args.row.now c.loop-k.k c.index-loops-k.result _ c.loop-k-test.true c.requires.row c.index-loops-k.is refl in
    subst (λ (o : Option Interval). AreExtremes (InnerValue c.args.loops.now c.args.row.now) o) (sym c.from_residual.ensures)
    (Ahead-stop _ _ _ _ c.loop-k.sum c.loop-k.invariant.ahead opens none)

pub loop-k-preserved : goal.loop-k-preserved
loop-k-preserved c =
    let fa : FitsSigned w64 (get_or c.args.row.now c.loop-k.k (pos 0)) = search rules in
    let part = simp to_z-of_z at c.in_ok-part.ensures.extremes in
    let opens = inner_step c.args.loops.now c.args.row.now c.loop-k.k c.index-loops-k.result _ c.loop-k-test.true c.requires.row c.index-loops-k.is refl in
    record {
      ahead = Ahead-step _ _ _ _ c.loop-k.sum c.loop-k.invariant.ahead opens _ _ c.in_ok-part.part c.add-sum.result c.loop-k.invariant.small c.in_ok-part.ensures.small part c.add-sum.ensures;
      small = within_step _ c.loop-k.k _ c.loop-k.sum c.in_ok-part.part c.add-sum.result c.loop-k.invariant.small c.in_ok-part.ensures.small c.add-sum.ensures refl;
    }

pub returns-clause-extremes : goal.returns-clause-extremes
returns-clause-extremes c = Ahead-end _ (inner_from c.args.loops.now c.args.row.now c.loop-k.k) c.loop-k.sum c.loop-k.invariant.ahead (inner_end c.args.loops.now c.args.row.now c.loop-k.k (omega arith))
