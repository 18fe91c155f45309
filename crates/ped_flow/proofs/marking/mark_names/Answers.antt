use Rattle.std.proofs.Common.{List, ℕ, ◌∷◌, [], ◌+◌, drop, ◌∙◌}
use Rattle.std.proofs.lemmas.List.{at_drop_all}
use Rattle.ped_flow.specs.RowMarks.{names_in}
use Rattle.ped_flow.proofs.ScalarSteps.{rest_is}
use Rattle.ped_flow.proofs.Marks.{next_marked, all_marked}
use Rattle.ped_flow.proofs.marking.mark_names.Goals as goal

pub mark_name-requires : goal.mark_name-requires
mark_name-requires c = c.loop-name.invariant.width

pub loop-name-preserved : goal.loop-name-preserved
loop-name-preserved c = record {
  width = c.mark_name.ensures.width ∙ c.loop-name.invariant.width;
  marked = next_marked (names_in c.args.places.now) c.args.row.now c.loop-name.row c.mark_name.new.row _
      (drop c.loop-name.name-index c.args.names.now) (c.name-item.result ∷ []) (drop (c.loop-name.name-index + 1) c.args.names.now) c.loop-name.invariant.marked
      (rest_is c.args.names.now c.loop-name.name-index c.name-item.result c.loop-name-test.true c.name-item.is) c.mark_name.ensures;
}

pub returns : goal.returns
returns c =
    all_marked (names_in c.args.places.now) c.args.row.now c.loop-name.row _ (drop c.loop-name.name-index c.args.names.now) c.loop-name.invariant.marked
    (at_drop_all (λ (names : List (List ℕ)). names) c.args.names.now c.loop-name.name-index c.loop-name-test.false)
