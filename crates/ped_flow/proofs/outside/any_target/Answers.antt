use Rattle.std.proofs.Common.{List, ℕ, Option, map, ap, sym, ◌∙◌, ◌+◌, drop}
use Rattle.std.specs.List.{flat_map}
use Rattle.ped_tree.specs.Views.{expr_tree}
use Rattle.ped_tree.specs.declared.expressions.Expr.{Expr}
use Rattle.ped_flow.specs.Events.{left_events}
use Rattle.ped_flow.specs.Summaries.{least_of}
use Rattle.ped_flow.specs.declared.summaries.Summary.{Summary}
use Rattle.ped_flow.specs.Kept.{name_of, constants_of, first_reader}
use Rattle.ped_flow.proofs.ScalarSteps.{rest_is}
use Rattle.ped_flow.proofs.OutsideSteps.{first_reader-append, left-first, next_least}
use Rattle.ped_flow.proofs.outside.any_target.Goals as goal

pub loop-left-preserved : goal.loop-left-preserved
loop-left-preserved c =
    let x = name_of c.args.scalar.now in
    let cs = constants_of c.args.scalar.now in
    let n = c.args.number in
    let e = c.left-item.result in
    let others = drop (c.loop-left.left-index + 1) c.args.lefts.now in
    next_least c.loop-left.first c.least-first.result _ c.target.result.first
    (first_reader x (flat_map (left_events cs n) (map expr_tree (drop c.loop-left.left-index c.args.lefts.now))))
    (first_reader x (flat_map (left_events cs n) (map expr_tree others)))
    c.loop-left.invariant
    (ap (λ (es : List Expr). first_reader x (flat_map (left_events cs n) (map expr_tree es))) (rest_is c.args.lefts.now c.loop-left.left-index e c.loop-left-test.true c.left-item.is)
    ∙ first_reader-append x (left_events cs n (expr_tree e)) (flat_map (left_events cs n) (map expr_tree others))
    ∙ ap (λ (z : Option ℕ). least_of z (first_reader x (flat_map (left_events cs n) (map expr_tree others)))) (sym (ap (λ (m : Summary). m.first) c.target.ensures ∙ left-first x cs n (expr_tree e))))
    c.least-first.ensures
