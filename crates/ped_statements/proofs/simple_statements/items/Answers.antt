use Rattle.std.proofs.Common.{map, sym, ap, ◌∙◌}
use Rattle.std.proofs.lemmas.List.{map_push}
use Rattle.ped_tree.specs.Views.{item_tree}
use Rattle.ped_expressions.specs.ExpressionReading.{saturated}
use Rattle.ped_statements.specs.Listing.{each_behind_comma}
use Rattle.ped_statements.specs.StatementReading.{print_item_of}
use Rattle.ped_statements.proofs.SimpleSteps.{items_shrink, each_more, each_ends}
use Rattle.ped_statements.proofs.simple_statements.items.Goals as goal

pub loop-left-preserved : goal.loop-left-preserved
loop-left-preserved c =
    each_more (print_item_of saturated) (items_shrink saturated) (map item_tree c.loop-left.items.items) _ (item_tree c.in_ok-next.next) c.loop-left.left.now c.in-Some.behind.now c.in_ok-next.rest.now (each_behind_comma (print_item_of saturated) c.args.text.now) c.loop-left.invariant
    (sym c.is_end.ensures ∙ c.loop-left-test.true) (sym c.in-Some.ensures.is) c.in_ok-next.ensures.gives (ap (map item_tree) c.in_ok-push.ensures.items ∙ map_push item_tree c.loop-left.items.items c.in_ok-next.next)

pub returns : goal.returns
returns c = each_ends (print_item_of saturated) (map item_tree c.loop-left.items.items) c.loop-left.left.now (each_behind_comma (print_item_of saturated) c.args.text.now) c.loop-left.invariant (sym c.is_end.ensures ∙ c.loop-left-test.false)
