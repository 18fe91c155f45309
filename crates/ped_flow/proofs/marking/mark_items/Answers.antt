use Rattle.std.proofs.Common.{List, map, ap, ◌∙◌, ◌+◌, drop}
use Rattle.std.specs.List.{flat_map}
use Rattle.std.proofs.lemmas.List.{at_drop_all}
use Rattle.ped_tree.specs.Views.{item_tree}
use Rattle.ped_tree.specs.declared.statements.PrintItem.{PrintItem}
use Rattle.ped_flow.specs.Events.{scalars_in_item}
use Rattle.ped_flow.specs.RowMarks.{names_in, constants_in}
use Rattle.ped_flow.proofs.ScalarSteps.{rest_is}
use Rattle.ped_flow.proofs.Marks.{next_marked, all_marked}
use Rattle.ped_flow.proofs.marking.mark_items.Goals as goal

pub mark_item-requires : goal.mark_item-requires
mark_item-requires c = c.loop-item.invariant.width

pub loop-item-preserved : goal.loop-item-preserved
loop-item-preserved c =
    let cs = constants_in c.args.places.now in
    let i = c.item-item.result in
    record {
      width = c.mark_item.ensures.width ∙ c.loop-item.invariant.width;
      marked = next_marked (names_in c.args.places.now) c.args.row.now c.loop-item.row c.mark_item.new.row _
          (flat_map (scalars_in_item cs) (map item_tree (drop c.loop-item.item-index c.args.items.now))) (scalars_in_item cs (item_tree i)) (flat_map (scalars_in_item cs) (map item_tree (drop (c.loop-item.item-index + 1) c.args.items.now)))
          c.loop-item.invariant.marked
          (ap (λ (is : List PrintItem). flat_map (scalars_in_item cs) (map item_tree is)) (rest_is c.args.items.now c.loop-item.item-index i c.loop-item-test.true c.item-item.is))
          c.mark_item.ensures;
    }

pub returns : goal.returns
returns c =
    let cs = constants_in c.args.places.now in
    all_marked (names_in c.args.places.now) c.args.row.now c.loop-item.row _ (flat_map (scalars_in_item cs) (map item_tree (drop c.loop-item.item-index c.args.items.now))) c.loop-item.invariant.marked
    (at_drop_all (λ (is : List PrintItem). flat_map (scalars_in_item cs) (map item_tree is)) c.args.items.now c.loop-item.item-index c.loop-item-test.false)
