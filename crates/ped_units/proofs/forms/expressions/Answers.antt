use Rattle.std.proofs.Common.{◌≡◌, ℕ, List, Vec, Global, Bor, map, Option, Err, sym, ap, ◌∙◌, arith}
use Rattle.std.proofs.lemmas.List.{map_push}
use Rattle.std.proofs.lemmas.Result.{err_from_is_err_and}
use Rattle.ped_tree.specs.Tree.{ExprTree}
use Rattle.ped_tree.specs.declared.expressions.Expr.{Expr}
use Rattle.ped_tree.specs.Views.{expr_tree}
use Rattle.ped_expressions.specs.ExpressionReading.{expr_of, saturated}
use Rattle.ped_expressions.specs.Views.{Gives, expr_and_rest}
use Rattle.ped_expressions.specs.declared.readings.Failure.{Failure}
use Rattle.ped_expressions.specs.declared.readings.Failure.TheVariants.{NoForm, OutOfMemory}
use Rattle.ped_valid.specs.ped_parse.specs.ped_statements.specs.Listing.{several}
use Rattle.ped_valid.specs.ped_parse.specs.ped_statements.proofs.Gathered.{ahead, several_more, several_last, several_fails}
use Rattle.ped_units.proofs.UnitForms.{exprs_shrink}
use Rattle.ped_units.proofs.forms.expressions.Goals as goal

pub loop-expressions-preserved : goal.loop-expressions-preserved
loop-expressions-preserved c = record {
  rest = several_more (expr_of saturated) (exprs_shrink saturated) (map expr_tree c.loop-expressions.expressions.items) _ (expr_tree c.in_ok-next.next) c.loop-expressions.left.now c.in_ok-next.rest.now c.in-Some.behind.now (several (expr_of saturated) c.args.text.now) c.loop-expressions.invariant.rest c.in_ok-next.ensures.gives (sym c.in-Some.ensures.is) (ap (map expr_tree) c.in_ok-push.ensures.items ∙ map_push expr_tree c.loop-expressions.expressions.items c.in_ok-next.next);
  shorter = omega (arith, c.in-Some.ensures.shorter, c.in_ok-next.ensures.shorter);
}

pub returns-in-None : goal.returns-in-None
returns-in-None c =
    several_last (expr_of saturated) (exprs_shrink saturated) (map expr_tree c.loop-expressions.expressions.items) _ (expr_tree c.in_ok-next.next) c.loop-expressions.left.now c.in_ok-next.rest.now (several (expr_of saturated) c.args.text.now) c.loop-expressions.invariant.rest c.in_ok-next.ensures.gives (sym c.in-None.ensures.is) (ap (map expr_tree) c.in_ok-push.ensures.items ∙ map_push expr_tree c.loop-expressions.expressions.items c.in_ok-next.next)

-- an expression can't be read, or memory runs out
failed : {X : Type 0} (view : X → List ExprTree × List ℕ) (failure : Failure) (xs : List ExprTree) (left : List ℕ) (all : Option (List ExprTree × List ℕ)) → ahead xs (several (expr_of saturated) left) ≡ all → Gives expr_and_rest (Err failure) (expr_of saturated left) → Gives view (Err failure) all
failed view OutOfMemory xs left all h g = tt
failed view NoForm xs left all h g = several_fails (expr_of saturated) (exprs_shrink saturated) xs left all h g

pub returns-in_err-next : goal.returns-in_err-next
returns-in_err-next c =
    let p = err_from_is_err_and c.from_residual.result c.from_residual.ensures.1 in
    rw (p.1, p.2) (failed {X = Vec Expr Global × Bor (List ℕ)} (λ x. (map expr_tree x.0.items, x.1.now)) c.in_err-next.field-0.0 (map expr_tree c.loop-expressions.expressions.items) c.loop-expressions.left.now (several (expr_of saturated) c.args.text.now) c.loop-expressions.invariant.rest c.in_err-next.ensures.gives)
