use Rattle.std.proofs.Common.{rules, sym, subst, Option, [], FitsSigned}
use Rattle.std.specs.Int.{w128}
use Rattle.std.proofs.lemmas.Int.{to_z-of_z}
use Rattle.ped_views.specs.declared.intervals.Interval.{Interval}
use Rattle.ped_miv.specs.Parts.{MaySum}
use Rattle.ped_miv.proofs.Sums.{start_lacks_source, start_lacks_sink, start_sum}
use Rattle.ped_miv.proofs.parts.sum_at_start.Goals as goal

pub returns-in_err-source : goal.returns-in_err-source
returns-in_err-source c =
    subst (λ (o : Option Interval). MaySum c.args.view.now c.args.position.now [] o) (sym c.from_residual.ensures)
    (start_lacks_source c.args.view.now c.args.position.now c.requires c.in_err-source.ensures.extremes)

pub returns-in_err-sink : goal.returns-in_err-sink
returns-in_err-sink c =
    subst (λ (o : Option Interval). MaySum c.args.view.now c.args.position.now [] o) (sym c.from_residual-in_err-sink.ensures)
    (start_lacks_sink c.args.view.now c.args.position.now c.requires c.in_err-sink.ensures.extremes)

pub returns : goal.returns
returns c =
    let f : FitsSigned w128 c.constant_difference.result = search rules in
    let l = simp to_z-of_z at c.combined.ensures.lo in
    let h = simp to_z-of_z at c.combined.ensures.hi in
    start_sum c.args.view.now c.args.position.now c.requires c.in_ok-source.source c.in_ok-sink.sink c.combined.result c.constant_difference.result c.in_ok-source.ensures.extremes c.in_ok-sink.ensures.extremes c.in_ok-source.ensures.small c.in_ok-sink.ensures.small c.constant_difference.ensures.value c.constant_difference.ensures.small l h
