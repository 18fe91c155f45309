use Rattle.std.proofs.Common.{map, sym, ap, ◌∙◌, arith}
use Rattle.std.proofs.lemmas.List.{map_push}
use Rattle.ped_tree.specs.Views.{declarator_tree}
use Rattle.ped_expressions.specs.ExpressionReading.{saturated}
use Rattle.ped_statements.specs.Listing.{several}
use Rattle.ped_statements.specs.StatementReading.{declarator_of}
use Rattle.ped_statements.proofs.Declared.{declarators_shrink}
use Rattle.ped_statements.proofs.Gathered.{several_more, several_last}
use Rattle.ped_statements.proofs.declarations.declarators.Goals as goal

pub loop-declarators-preserved : goal.loop-declarators-preserved
loop-declarators-preserved c = record {
  rest = several_more (declarator_of saturated) (declarators_shrink saturated) (map declarator_tree c.loop-declarators.declarators.items) _ (declarator_tree c.in_ok-next.next) c.loop-declarators.left.now c.in_ok-next.rest.now c.in-Some.behind.now (several (declarator_of saturated) c.args.text.now) c.loop-declarators.invariant.rest c.in_ok-next.ensures.gives (sym c.in-Some.ensures.is) (ap (map declarator_tree) c.in_ok-push.ensures.items ∙ map_push declarator_tree c.loop-declarators.declarators.items c.in_ok-next.next);
  shorter = omega (arith, c.in-Some.ensures.shorter, c.in_ok-next.ensures.shorter);
}

pub returns-in-None : goal.returns-in-None
returns-in-None c =
    several_last (declarator_of saturated) (declarators_shrink saturated) (map declarator_tree c.loop-declarators.declarators.items) _ (declarator_tree c.in_ok-next.next) c.loop-declarators.left.now c.in_ok-next.rest.now (several (declarator_of saturated) c.args.text.now) c.loop-declarators.invariant.rest c.in_ok-next.ensures.gives (sym c.in-None.ensures.is) (ap (map declarator_tree) c.in_ok-push.ensures.items ∙ map_push declarator_tree c.loop-declarators.declarators.items c.in_ok-next.next)
