use Rattle.std.proofs.Common.{map, sym, ap, ◌∙◌, arith}
use Rattle.std.proofs.lemmas.List.{map_push}
use Rattle.ped_tree.specs.Views.{expr_tree}
use Rattle.ped_expressions.specs.ExpressionReading.{saturated, exprs_of}
use Rattle.ped_expressions.proofs.Lists.{exprs_more, exprs_last, named_applied}
use Rattle.ped_expressions.proofs.expressions.+expr.Goals as goal

pub exprs-loop-exprs-preserved : goal.exprs-loop-exprs-preserved
exprs-loop-exprs-preserved t c = record {
  rest = exprs_more saturated (map expr_tree c.loop-exprs.exprs.items) _ (expr_tree c.in_ok-next.next) c.loop-exprs.left.now c.in_ok-next.rest.now c.in-Some.behind.now (exprs_of saturated c.args.text.now) c.loop-exprs.invariant.rest c.in_ok-next.ensures.gives (sym c.in-Some.ensures.is) (ap (map expr_tree) c.in_ok-push.ensures.items ∙ map_push expr_tree c.loop-exprs.exprs.items c.in_ok-next.next);
  shorter = omega (arith, c.in-Some.ensures.shorter, c.in_ok-next.ensures.shorter);
}

pub exprs-returns-in-None-clause-gives : goal.exprs-returns-in-None-clause-gives
exprs-returns-in-None-clause-gives t c =
    exprs_last saturated (map expr_tree c.loop-exprs.exprs.items) _ (expr_tree c.in_ok-next.next) c.loop-exprs.left.now c.in_ok-next.rest.now (exprs_of saturated c.args.text.now) c.loop-exprs.invariant.rest c.in_ok-next.ensures.gives (sym c.in-None.ensures.is) (ap (map expr_tree) c.in_ok-push.ensures.items ∙ map_push expr_tree c.loop-exprs.exprs.items c.in_ok-next.next)

pub named-returns-in-Some-applied-clause-gives : goal.named-returns-in-Some-applied-clause-gives
named-returns-in-Some-applied-clause-gives t c =
    named_applied saturated c.args.word.now c.in-Some.name c.args.text.now c.in-Some-after.inside.now c.in_ok-arguments.rest.now c.in-Some-after-2.rest.now _ (expr_tree c.in-Some-applied.e) c.in-Some.ensures.is c.in-Some-after.ensures.is c.in_ok-arguments.ensures.gives c.in-Some-after-2.ensures.is c.in-Some-applied.ensures
