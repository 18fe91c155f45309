use Rattle.std.proofs.Common.{map, sym, ap, ◌∙◌, arith}
use Rattle.std.proofs.lemmas.List.{map_push}
use Rattle.ped_tree.specs.Views.{bound_tree}
use Rattle.ped_expressions.specs.ExpressionReading.{saturated}
use Rattle.ped_statements.specs.Listing.{several}
use Rattle.ped_statements.specs.StatementReading.{bound_of}
use Rattle.ped_statements.proofs.Declared.{bounds_shrink}
use Rattle.ped_statements.proofs.Gathered.{several_more, several_last}
use Rattle.ped_statements.proofs.declarations.bounds.Goals as goal

pub loop-bounds-preserved : goal.loop-bounds-preserved
loop-bounds-preserved c = record {
  rest = several_more (bound_of saturated) (bounds_shrink saturated) (map bound_tree c.loop-bounds.bounds.items) _ (bound_tree c.in_ok-next.next) c.loop-bounds.left.now c.in_ok-next.rest.now c.in-Some.behind.now (several (bound_of saturated) c.args.text.now) c.loop-bounds.invariant.rest c.in_ok-next.ensures.gives (sym c.in-Some.ensures.is) (ap (map bound_tree) c.in_ok-push.ensures.items ∙ map_push bound_tree c.loop-bounds.bounds.items c.in_ok-next.next);
  shorter = omega (arith, c.in-Some.ensures.shorter, c.in_ok-next.ensures.shorter);
}

pub returns-in-None-clause-gives : goal.returns-in-None-clause-gives
returns-in-None-clause-gives c =
    several_last (bound_of saturated) (bounds_shrink saturated) (map bound_tree c.loop-bounds.bounds.items) _ (bound_tree c.in_ok-next.next) c.loop-bounds.left.now c.in_ok-next.rest.now (several (bound_of saturated) c.args.text.now) c.loop-bounds.invariant.rest c.in_ok-next.ensures.gives (sym c.in-None.ensures.is) (ap (map bound_tree) c.in_ok-push.ensures.items ∙ map_push bound_tree c.loop-bounds.bounds.items c.in_ok-next.next)
