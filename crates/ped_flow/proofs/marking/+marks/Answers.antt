use Rattle.std.proofs.Common.{List, map, ap, ◌∙◌, ◌+◌, drop}
use Rattle.std.proofs.lemmas.List.{at_drop_all}
use Rattle.ped_tree.specs.Views.{expr_tree, pack_exprs}
use Rattle.ped_tree.specs.declared.expressions.Expr.{Expr}
use Rattle.ped_flow.specs.Events.{scalars_in, all_scalars_in}
use Rattle.ped_flow.specs.RowMarks.{names_in, constants_in}
use Rattle.ped_flow.proofs.ScalarSteps.{rest_is}
use Rattle.ped_flow.proofs.Marks.{summary_marked, difference_marked, product_marked, quotient_marked, power_marked, next_marked, all_marked}
use Rattle.ped_flow.proofs.marking.+marks.Goals as goal

pub mark_expression-returns-in-Add : goal.mark_expression-returns-in-Add
mark_expression-returns-in-Add t c =
    summary_marked (names_in c.args.places.now) (constants_in c.args.places.now) c.args.row.now c.mark_expression-in-Add.new.row c.mark_expression-in-Add-2.new.row
    c.args.e.now c.in-Add.a c.in-Add.b c.deref-in-Add.result.now c.deref-in-Add-2.result.now c.in-Add.is c.deref-in-Add.ensures c.deref-in-Add-2.ensures c.mark_expression-in-Add.ensures c.mark_expression-in-Add-2.ensures

pub mark_expression-returns-in-Sub : goal.mark_expression-returns-in-Sub
mark_expression-returns-in-Sub t c =
    difference_marked (names_in c.args.places.now) (constants_in c.args.places.now) c.args.row.now c.mark_expression-in-Sub.new.row c.mark_expression-in-Sub-2.new.row
    c.args.e.now c.in-Sub.a c.in-Sub.b c.deref-in-Sub.result.now c.deref-in-Sub-2.result.now c.in-Sub.is c.deref-in-Sub.ensures c.deref-in-Sub-2.ensures c.mark_expression-in-Sub.ensures c.mark_expression-in-Sub-2.ensures

pub mark_expression-returns-in-Mul : goal.mark_expression-returns-in-Mul
mark_expression-returns-in-Mul t c =
    product_marked (names_in c.args.places.now) (constants_in c.args.places.now) c.args.row.now c.mark_expression-in-Mul.new.row c.mark_expression-in-Mul-2.new.row
    c.args.e.now c.in-Mul.a c.in-Mul.b c.deref-in-Mul.result.now c.deref-in-Mul-2.result.now c.in-Mul.is c.deref-in-Mul.ensures c.deref-in-Mul-2.ensures c.mark_expression-in-Mul.ensures c.mark_expression-in-Mul-2.ensures

pub mark_expression-returns-in-Div : goal.mark_expression-returns-in-Div
mark_expression-returns-in-Div t c =
    quotient_marked (names_in c.args.places.now) (constants_in c.args.places.now) c.args.row.now c.mark_expression-in-Div.new.row c.mark_expression-in-Div-2.new.row
    c.args.e.now c.in-Div.a c.in-Div.b c.deref-in-Div.result.now c.deref-in-Div-2.result.now c.in-Div.is c.deref-in-Div.ensures c.deref-in-Div-2.ensures c.mark_expression-in-Div.ensures c.mark_expression-in-Div-2.ensures

pub mark_expression-returns-in-Pow : goal.mark_expression-returns-in-Pow
mark_expression-returns-in-Pow t c =
    power_marked (names_in c.args.places.now) (constants_in c.args.places.now) c.args.row.now c.mark_expression-in-Pow.new.row c.mark_expression-in-Pow-2.new.row
    c.args.e.now c.in-Pow.a c.in-Pow.b c.deref-in-Pow.result.now c.deref-in-Pow-2.result.now c.in-Pow.is c.deref-in-Pow.ensures c.deref-in-Pow-2.ensures c.mark_expression-in-Pow.ensures c.mark_expression-in-Pow-2.ensures

pub mark_expressions-loop-e-preserved : goal.mark_expressions-loop-e-preserved
mark_expressions-loop-e-preserved t c =
    let cs = constants_in c.args.places.now in
    let e = c.e-item.result in
    record {
      width = c.mark_expression.ensures.width ∙ c.loop-e.invariant.width;
      marked = next_marked (names_in c.args.places.now) c.args.row.now c.loop-e.row c.mark_expression.new.row _
          (all_scalars_in cs (pack_exprs (map expr_tree (drop c.loop-e.e-index c.args.es.now)))) (scalars_in cs (expr_tree e)) (all_scalars_in cs (pack_exprs (map expr_tree (drop (c.loop-e.e-index + 1) c.args.es.now))))
          c.loop-e.invariant.marked
          (ap (λ (es : List Expr). all_scalars_in cs (pack_exprs (map expr_tree es))) (rest_is c.args.es.now c.loop-e.e-index e c.loop-e-test.true c.e-item.is))
          c.mark_expression.ensures;
    }

pub mark_expressions-returns : goal.mark_expressions-returns
mark_expressions-returns t c =
    let cs = constants_in c.args.places.now in
    all_marked (names_in c.args.places.now) c.args.row.now c.loop-e.row _ (all_scalars_in cs (pack_exprs (map expr_tree (drop c.loop-e.e-index c.args.es.now)))) c.loop-e.invariant.marked
    (at_drop_all (λ (es : List Expr). all_scalars_in cs (pack_exprs (map expr_tree es))) c.args.es.now c.loop-e.e-index c.loop-e-test.false)
