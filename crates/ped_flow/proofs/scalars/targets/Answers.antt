use Rattle.std.proofs.Common.{List, map, ap, sym, ◌∙◌, ◌+◌, drop}
use Rattle.std.specs.List.{flat_map}
use Rattle.ped_tree.specs.Views.{expr_tree}
use Rattle.ped_tree.specs.declared.expressions.Expr.{Expr}
use Rattle.ped_flow.specs.Events.{left_events}
use Rattle.ped_flow.specs.Summaries.{summary_events, summary_in_turn}
use Rattle.ped_flow.specs.declared.summaries.Summary.{Summary}
use Rattle.ped_flow.specs.Kept.{name_of, constants_of}
use Rattle.ped_flow.proofs.SumLaws.{events-append}
use Rattle.ped_flow.proofs.ScalarSteps.{rest_is, next_in_turn}
use Rattle.ped_flow.proofs.scalars.targets.Goals as goal

pub loop-left-preserved : goal.loop-left-preserved
loop-left-preserved c =
    let x = name_of c.args.scalar.now in
    let cs = constants_of c.args.scalar.now in
    let n = c.args.number in
    let e = c.left-item.result in
    let others = drop (c.loop-left.left-index + 1) c.args.lefts.now in
    next_in_turn c.loop-left.summary c.then-summary.result _ c.target.result
    (summary_events x (flat_map (left_events cs n) (map expr_tree (drop c.loop-left.left-index c.args.lefts.now))))
    (summary_events x (flat_map (left_events cs n) (map expr_tree others)))
    c.loop-left.invariant
    (ap (λ (es : List Expr). summary_events x (flat_map (left_events cs n) (map expr_tree es))) (rest_is c.args.lefts.now c.loop-left.left-index e c.loop-left-test.true c.left-item.is)
    ∙ events-append x (left_events cs n (expr_tree e)) (flat_map (left_events cs n) (map expr_tree others))
    ∙ ap (λ (z : Summary). summary_in_turn z (summary_events x (flat_map (left_events cs n) (map expr_tree others)))) (sym c.target.ensures))
    c.then-summary.ensures
