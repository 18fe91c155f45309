use Rattle.std.proofs.Common.{List, map, ap, sym, ◌∙◌, ◌+◌, drop}
use Rattle.std.specs.List.{flat_map}
use Rattle.ped_tree.specs.Views.{item_tree}
use Rattle.ped_tree.specs.declared.statements.PrintItem.{PrintItem}
use Rattle.ped_flow.specs.Events.{reads_of, scalars_in_item}
use Rattle.ped_flow.specs.Summaries.{summary_events, summary_in_turn}
use Rattle.ped_flow.specs.declared.summaries.Summary.{Summary}
use Rattle.ped_flow.specs.Kept.{name_of, constants_of}
use Rattle.ped_flow.proofs.SumLaws.{reads-append}
use Rattle.ped_flow.proofs.ScalarSteps.{rest_is, next_in_turn}
use Rattle.ped_flow.proofs.scalars.items.Goals as goal

pub loop-i-preserved : goal.loop-i-preserved
loop-i-preserved c =
    let x = name_of c.args.scalar.now in
    let cs = constants_of c.args.scalar.now in
    let n = c.args.number in
    let e = c.i-item.result in
    let others = drop (c.loop-i.i-index + 1) c.args.items.now in
    next_in_turn c.loop-i.summary c.then-summary.result _ c.item.result
    (summary_events x (reads_of n (flat_map (scalars_in_item cs) (map item_tree (drop c.loop-i.i-index c.args.items.now)))))
    (summary_events x (reads_of n (flat_map (scalars_in_item cs) (map item_tree others))))
    c.loop-i.invariant
    (ap (λ (es : List PrintItem). summary_events x (reads_of n (flat_map (scalars_in_item cs) (map item_tree es)))) (rest_is c.args.items.now c.loop-i.i-index e c.loop-i-test.true c.i-item.is)
    ∙ reads-append x n (scalars_in_item cs (item_tree e)) (flat_map (scalars_in_item cs) (map item_tree others))
    ∙ ap (λ (z : Summary). summary_in_turn z (summary_events x (reads_of n (flat_map (scalars_in_item cs) (map item_tree others))))) (sym c.item.ensures))
    c.then-summary.ensures
