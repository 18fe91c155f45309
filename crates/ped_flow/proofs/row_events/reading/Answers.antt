use Rattle.std.proofs.Common.{List, [], None, map, ap, sym, refl, ◌∙◌, ◌+◌, drop}
use Rattle.std.specs.List.{flat_map}
use Rattle.std.proofs.lemmas.List.{at_drop_all}
use Rattle.ped_tree.specs.Views.{expr_tree}
use Rattle.ped_tree.specs.declared.expressions.Expr.{Expr}
use Rattle.ped_flow.specs.Events.{Event, left_events}
use Rattle.ped_flow.specs.Summaries.{least_of, passing, summary_in_turn, summary_events}
use Rattle.ped_flow.specs.Kept.{first_reader}
use Rattle.ped_flow.specs.RowMarks.{names_in, constants_in}
use Rattle.ped_flow.proofs.SumLaws.{least-none, events-append, in_turn-passing}
use Rattle.ped_flow.proofs.ScalarSteps.{rest_is, next_in_turn}
use Rattle.ped_flow.proofs.OutsideSteps.{first_reader-append}
use Rattle.ped_flow.proofs.PartSummaries.{same_part, next_least}
use Rattle.ped_flow.proofs.row_events.reading.Goals as goal

pub loop-left-init : goal.loop-left-init
loop-left-init c =
    let is = c.in_ok-part.ensures (names_in c.args.places.now) (sym c.len.ensures) in
    record { width = is.width; part = λ n. record { sum = λ x. passing; outside = λ x. None; is = is; summaries = λ x. refl; loose = λ x. refl } }

pub loop-left-preserved : goal.loop-left-preserved
loop-left-preserved c = record {
  width = c.add_item.ensures.width ∙ c.loop-left.invariant.width;
  part = λ n.
      let names = names_in c.args.places.now in
      let cs = constants_in c.args.places.now in
      let e = expr_tree c.left-item.result in
      let i = c.loop-left.invariant.part n in
      let rest = flat_map (left_events cs n) (map expr_tree (drop c.loop-left.left-index c.args.lefts.now)) in
      let others = flat_map (left_events cs n) (map expr_tree (drop (c.loop-left.left-index + 1) c.args.lefts.now)) in
      let parts = ap (λ (es : List Expr). flat_map (left_events cs n) (map expr_tree es)) (rest_is c.args.lefts.now c.loop-left.left-index c.left-item.result c.loop-left-test.true c.left-item.is) in
      record {
        sum = λ x. summary_in_turn (i.sum x) (summary_events x (left_events cs n e));
        outside = λ x. least_of (i.outside x) (first_reader x (left_events cs n e));
        is = c.in_default.ensures.part n i.sum i.outside i.is;
        summaries = λ x. next_in_turn (i.sum x) _ _ (summary_events x (left_events cs n e)) (summary_events x rest) (summary_events x others) (i.summaries x) (ap (summary_events x) parts ∙ events-append x (left_events cs n e) others) refl;
        loose = λ x. next_least (i.outside x) _ _ (first_reader x (left_events cs n e)) (first_reader x rest) (first_reader x others) (i.loose x) (ap (first_reader x) parts ∙ first_reader-append x (left_events cs n e) others) refl;
      };
}

pub returns : goal.returns
returns c = λ n.
    let cs = constants_in c.args.places.now in
    let i = c.loop-left.invariant.part n in
    let none = at_drop_all (λ (es : List Expr). flat_map (left_events cs n) (map expr_tree es)) c.args.lefts.now c.loop-left.left-index c.loop-left-test.false in
    same_part (names_in c.args.places.now) c.loop-left.part i.sum _ i.outside _ [] []
    (λ x. sym (in_turn-passing (i.sum x)) ∙ ap (λ (es : List Event). summary_in_turn (i.sum x) (summary_events x es)) (sym none) ∙ i.summaries x)
    (λ x. sym (least-none (i.outside x)) ∙ ap (λ (es : List Event). least_of (i.outside x) (first_reader x es)) (sym none) ∙ i.loose x)
    refl i.is
