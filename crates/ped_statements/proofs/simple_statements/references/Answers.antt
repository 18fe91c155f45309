use Rattle.std.proofs.Common.{map, sym, ap, ◌∙◌}
use Rattle.std.proofs.lemmas.List.{map_push}
use Rattle.ped_tree.specs.Views.{expr_tree}
use Rattle.ped_expressions.specs.ExpressionReading.{saturated}
use Rattle.ped_statements.specs.Listing.{each_behind_comma}
use Rattle.ped_statements.specs.StatementReading.{reference_of}
use Rattle.ped_statements.proofs.SimpleSteps.{references_shrink, each_more, each_ends}
use Rattle.ped_statements.proofs.simple_statements.references.Goals as goal

pub loop-left-preserved : goal.loop-left-preserved
loop-left-preserved c =
    each_more (reference_of saturated) (references_shrink saturated) (map expr_tree c.loop-left.references.items) _ (expr_tree c.in_ok-next.next) c.loop-left.left.now c.in-Some.behind.now c.in_ok-next.rest.now (each_behind_comma (reference_of saturated) c.args.text.now) c.loop-left.invariant
    (sym c.is_end.ensures ∙ c.loop-left-test.true) (sym c.in-Some.ensures.is) c.in_ok-next.ensures.gives (ap (map expr_tree) c.in_ok-push.ensures.items ∙ map_push expr_tree c.loop-left.references.items c.in_ok-next.next)

pub returns : goal.returns
returns c = each_ends (reference_of saturated) (map expr_tree c.loop-left.references.items) c.loop-left.left.now (each_behind_comma (reference_of saturated) c.args.text.now) c.loop-left.invariant (sym c.is_end.ensures ∙ c.loop-left-test.false)
