use Rattle.std.proofs.Common.{List, map, ap, sym, ◌∙◌, ◌+◌, drop}
use Rattle.ped_tree.specs.Views.{expr_tree, pack_exprs}
use Rattle.ped_tree.specs.declared.expressions.Expr.{Expr}
use Rattle.ped_flow.specs.Events.{reads_of, scalars_in, all_scalars_in}
use Rattle.ped_flow.specs.Summaries.{summary_events, summary_in_turn}
use Rattle.ped_flow.specs.declared.summaries.Summary.{Summary}
use Rattle.ped_flow.specs.Kept.{name_of, constants_of}
use Rattle.ped_flow.proofs.SumLaws.{reads-append}
use Rattle.ped_flow.proofs.ScalarSteps.{summary_read, difference_read, product_read, quotient_read, power_read, rest_is, next_in_turn}
use Rattle.ped_flow.proofs.scalars.+expressions.Goals as goal

pub expression-returns-in-Add : goal.expression-returns-in-Add
expression-returns-in-Add t c =
    summary_read (name_of c.args.scalar.now) (constants_of c.args.scalar.now) c.args.number c.args.e.now c.in-Add.a c.in-Add.b c.deref-in-Add.result.now c.deref-in-Add-2.result.now
    c.expression-in-Add.result c.expression-in-Add-2.result c.then.result c.in-Add.is c.deref-in-Add.ensures c.deref-in-Add-2.ensures c.expression-in-Add.ensures c.expression-in-Add-2.ensures c.then.ensures

pub expression-returns-in-Sub : goal.expression-returns-in-Sub
expression-returns-in-Sub t c =
    difference_read (name_of c.args.scalar.now) (constants_of c.args.scalar.now) c.args.number c.args.e.now c.in-Sub.a c.in-Sub.b c.deref-in-Sub.result.now c.deref-in-Sub-2.result.now
    c.expression-in-Sub.result c.expression-in-Sub-2.result c.then-in-Sub.result c.in-Sub.is c.deref-in-Sub.ensures c.deref-in-Sub-2.ensures c.expression-in-Sub.ensures c.expression-in-Sub-2.ensures c.then-in-Sub.ensures

pub expression-returns-in-Mul : goal.expression-returns-in-Mul
expression-returns-in-Mul t c =
    product_read (name_of c.args.scalar.now) (constants_of c.args.scalar.now) c.args.number c.args.e.now c.in-Mul.a c.in-Mul.b c.deref-in-Mul.result.now c.deref-in-Mul-2.result.now
    c.expression-in-Mul.result c.expression-in-Mul-2.result c.then-in-Mul.result c.in-Mul.is c.deref-in-Mul.ensures c.deref-in-Mul-2.ensures c.expression-in-Mul.ensures c.expression-in-Mul-2.ensures c.then-in-Mul.ensures

pub expression-returns-in-Div : goal.expression-returns-in-Div
expression-returns-in-Div t c =
    quotient_read (name_of c.args.scalar.now) (constants_of c.args.scalar.now) c.args.number c.args.e.now c.in-Div.a c.in-Div.b c.deref-in-Div.result.now c.deref-in-Div-2.result.now
    c.expression-in-Div.result c.expression-in-Div-2.result c.then-in-Div.result c.in-Div.is c.deref-in-Div.ensures c.deref-in-Div-2.ensures c.expression-in-Div.ensures c.expression-in-Div-2.ensures c.then-in-Div.ensures

pub expression-returns-in-Pow : goal.expression-returns-in-Pow
expression-returns-in-Pow t c =
    power_read (name_of c.args.scalar.now) (constants_of c.args.scalar.now) c.args.number c.args.e.now c.in-Pow.a c.in-Pow.b c.deref-in-Pow.result.now c.deref-in-Pow-2.result.now
    c.expression-in-Pow.result c.expression-in-Pow-2.result c.then-in-Pow.result c.in-Pow.is c.deref-in-Pow.ensures c.deref-in-Pow-2.ensures c.expression-in-Pow.ensures c.expression-in-Pow-2.ensures c.then-in-Pow.ensures

pub expressions-loop-e-preserved : goal.expressions-loop-e-preserved
expressions-loop-e-preserved t c =
    let x = name_of c.args.scalar.now in
    let cs = constants_of c.args.scalar.now in
    let n = c.args.number in
    let e = c.e-item.result in
    let others = drop (c.loop-e.e-index + 1) c.args.es.now in
    next_in_turn c.loop-e.summary c.then-summary.result _ c.expression.result
    (summary_events x (reads_of n (all_scalars_in cs (pack_exprs (map expr_tree (drop c.loop-e.e-index c.args.es.now))))))
    (summary_events x (reads_of n (all_scalars_in cs (pack_exprs (map expr_tree others)))))
    c.loop-e.invariant
    (ap (λ (es : List Expr). summary_events x (reads_of n (all_scalars_in cs (pack_exprs (map expr_tree es))))) (rest_is c.args.es.now c.loop-e.e-index e c.loop-e-test.true c.e-item.is)
    ∙ reads-append x n (scalars_in cs (expr_tree e)) (all_scalars_in cs (pack_exprs (map expr_tree others)))
    ∙ ap (λ (z : Summary). summary_in_turn z (summary_events x (reads_of n (all_scalars_in cs (pack_exprs (map expr_tree others)))))) (sym c.expression.ensures))
    c.then-summary.ensures
