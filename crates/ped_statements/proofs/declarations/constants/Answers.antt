use Rattle.std.proofs.Common.{map, sym, ap, ◌∙◌, arith}
use Rattle.std.proofs.lemmas.List.{map_push}
use Rattle.ped_tree.specs.Views.{value_tree}
use Rattle.ped_expressions.specs.ExpressionReading.{saturated}
use Rattle.ped_statements.specs.Listing.{several}
use Rattle.ped_statements.specs.StatementReading.{value_of}
use Rattle.ped_statements.proofs.Declared.{values_shrink}
use Rattle.ped_statements.proofs.Gathered.{several_more, several_last}
use Rattle.ped_statements.proofs.declarations.constants.Goals as goal

pub loop-constants-preserved : goal.loop-constants-preserved
loop-constants-preserved c = record {
  rest = several_more (value_of saturated) (values_shrink saturated) (map value_tree c.loop-constants.constants.items) _ (value_tree c.in_ok-next.next) c.loop-constants.left.now c.in_ok-next.rest.now c.in-Some.behind.now (several (value_of saturated) c.args.text.now) c.loop-constants.invariant.rest c.in_ok-next.ensures.gives (sym c.in-Some.ensures.is) (ap (map value_tree) c.in_ok-push.ensures.items ∙ map_push value_tree c.loop-constants.constants.items c.in_ok-next.next);
  shorter = omega (arith, c.in-Some.ensures.shorter, c.in_ok-next.ensures.shorter);
}

pub returns-in-None : goal.returns-in-None
returns-in-None c =
    several_last (value_of saturated) (values_shrink saturated) (map value_tree c.loop-constants.constants.items) _ (value_tree c.in_ok-next.next) c.loop-constants.left.now c.in_ok-next.rest.now (several (value_of saturated) c.args.text.now) c.loop-constants.invariant.rest c.in_ok-next.ensures.gives (sym c.in-None.ensures.is) (ap (map value_tree) c.in_ok-push.ensures.items ∙ map_push value_tree c.loop-constants.constants.items c.in_ok-next.next)
