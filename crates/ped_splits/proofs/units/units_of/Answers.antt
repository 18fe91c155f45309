use Rattle.std.proofs.Common.{ℕ, ◌+◌, ◌==◌, List, length, drop, Vec, Global, sym, ap, subst, ◌∙◌, arith}
use Rattle.ped_tree.specs.Numbering.{statements_count}
use Rattle.ped_tree.specs.Views.{stmt_trees}
use Rattle.ped_splits.specs.declared.units.Unit.{Unit}
use Rattle.ped_splits.proofs.FoundUnits.{AreFound, all_found, next_comment, next_found, begins, ends_there}
use Rattle.ped_splits.proofs.units.units_of.Goals as goal
use Rattle.ped_splits.proofs.units.units_of.Goals.{then-not-is_comment+in_ok-push, else-not-is_comment}

pub part-requires-clause-from : goal.part-requires-clause-from
part-requires-clause-from c =
    let body = c.args.body.now in
    let place = c.loop-place.place in
    let first = begins body place c.loop-place.from c.loop-place.units.items c.loop-place.invariant c.index-body-place.result c.loop-place-test.true c.index-body-place.is (sym c.is_comment.ensures ∙ c.if-not-is_comment.true) in
    let before = first.0 in
    let there = ends_there (statements_count (stmt_trees (drop (place + 1) body)) == 0) (length body) place c.end_of_unit-behind.result c.loop-place-test.true c.end_of_unit-behind.ensures in
    let behind = there.0 in
    omega (arith, before, behind)

pub part-requires-clause-behind : goal.part-requires-clause-behind
part-requires-clause-behind c =
    let body = c.args.body.now in
    let place = c.loop-place.place in
    let there = ends_there (statements_count (stmt_trees (drop (place + 1) body)) == 0) (length body) place c.end_of_unit-behind.result c.loop-place-test.true c.end_of_unit-behind.ensures in
    there.1

pub loop-place-preserved : goal.loop-place-preserved
loop-place-preserved c =
    let body = c.args.body.now in
    let place = c.loop-place.place in
    let from = c.loop-place.from in
    let found = c.loop-place.units.items in
    let s = c.index-body-place.result in
    elim c.if-not-is_comment.branch [
      | then-not-is_comment+in_ok-push w ↦
          let items = ap (λ (v : Vec Unit Global). v.items) w.units-is ∙ w.in_ok-push.ensures.items in
          subst (λ (k : ℕ). AreFound body (place + 1) k c.if-not-is_comment.units.items) (sym w.from-is)
          (subst (λ (us : List Unit). AreFound body (place + 1) w.end_of_unit-behind.result us) (sym items)
          (next_found body place from found c.loop-place.invariant s c.loop-place-test.true c.index-body-place.is (sym c.is_comment.ensures ∙ w.if-not-is_comment.true) (record { statements = w.part.result }) w.end_of_unit-behind.result w.end_of_unit-behind.ensures w.part.ensures))
      | else-not-is_comment w ↦
          subst (λ (k : ℕ). AreFound body (place + 1) k c.if-not-is_comment.units.items) (sym w.from-is)
          (subst (λ (us : List Unit). AreFound body (place + 1) from us) (sym (ap (λ (v : Vec Unit Global). v.items) w.units-is))
          (next_comment body place from found c.loop-place.invariant s c.loop-place-test.true c.index-body-place.is (sym c.is_comment.ensures ∙ w.if-not-is_comment.false)))
    ]

pub returns : goal.returns
returns c = all_found c.args.body.now c.loop-place.place c.loop-place.from c.loop-place.units.items c.loop-place.invariant c.loop-place-test.false
