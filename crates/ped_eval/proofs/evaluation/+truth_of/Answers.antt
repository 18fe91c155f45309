use Rattle.std.proofs.Common.{not, ◌&&◌, ◌||◌, sym, ap, ◌∙◌, Ok}
use Rattle.ped_tree.specs.Tree.{And, Or}
use Rattle.ped_tree.specs.declared.conditions.Cond.{Cond}
use Rattle.ped_tree.specs.Views.{expr_tree, cond_tree}
use Rattle.ped_eval.specs.Values.{relation_holds}
use Rattle.ped_eval.specs.Noting.{truth_seen_at}
use Rattle.ped_eval.specs.Results.{value_at, truth_at, of_one, of_two, next_result}
use Rattle.ped_eval.proofs.Levels.{tree-Rel, tree-Not, tree-And, tree-Or}
use Rattle.ped_eval.proofs.Steps.{rel_at, not_at, and_at, or_at, true_as, of_next}
use Rattle.ped_eval.proofs.Seeing.{not_seen, and_seen, or_seen}
use Rattle.ped_eval.proofs.Notings.{noted_as, next_noted, fault_noted, relation_noted, conditions_noted}
use Rattle.ped_eval.proofs.evaluation.+truth_of.Goals as goal

pub truth_of-returns-in-Rel-clause-truth : goal.truth_of-returns-in-Rel-clause-truth
truth_of-returns-in-Rel-clause-truth t c =
    let a = c.whole_value-left.ensures.value in
    let b = c.next_side-right.ensures.value ∙ ap (λ r. next_result r (value_at c.args.around.now (expr_tree c.in-Rel.b))) a in
    c.related.ensures ∙ (λ i. of_two (λ u v. Ok (relation_holds c.in-Rel.relation u v)) (a i) (b i))
    ∙ of_next (λ u v. Ok (relation_holds c.in-Rel.relation u v)) (value_at c.args.around.now (expr_tree c.in-Rel.a)) (value_at c.args.around.now (expr_tree c.in-Rel.b))
    ∙ sym (rel_at c.args.around.now c.in-Rel.relation (expr_tree c.in-Rel.a) (expr_tree c.in-Rel.b))
    ∙ true_as c.args.around.now c.args.condition.now _ _ c.in-Rel.is (tree-Rel c.in-Rel.relation c.in-Rel.a c.in-Rel.b)

pub truth_of-returns-in-Rel-clause-noted : goal.truth_of-returns-in-Rel-clause-noted
truth_of-returns-in-Rel-clause-noted t c =
    relation_noted c.args.around.now c.args.notes.now c.whole_value-left.new.notes c.next_side-right.new.notes c.args.condition.now c.in-Rel.relation c.in-Rel.a c.in-Rel.b c.whole_value-left.result
    (ap cond_tree c.in-Rel.is ∙ tree-Rel c.in-Rel.relation c.in-Rel.a c.in-Rel.b) c.whole_value-left.ensures.value c.whole_value-left.ensures.noted c.next_side-right.ensures.noted

pub truth_of-returns-in-Not-clause-truth : goal.truth_of-returns-in-Not-clause-truth
truth_of-returns-in-Not-clause-truth t c =
    c.denied.ensures
    ∙ ap (of_one (λ u. Ok (not u))) (c.truth_of.ensures.truth ∙ ap (λ (a : Cond). truth_at c.args.around.now (cond_tree a)) c.deref.ensures)
    ∙ sym (not_at c.args.around.now (cond_tree c.in-Not.a.value))
    ∙ true_as c.args.around.now c.args.condition.now _ _ c.in-Not.is (tree-Not c.in-Not.a)

pub truth_of-returns-in-Not-clause-noted : goal.truth_of-returns-in-Not-clause-noted
truth_of-returns-in-Not-clause-noted t c =
    noted_as c.args.notes.now c.truth_of.new.notes _ _
    (sym (ap (truth_seen_at c.args.around.now) (ap cond_tree c.in-Not.is ∙ tree-Not c.in-Not.a) ∙ not_seen c.args.around.now (cond_tree c.in-Not.a.value) ∙ ap (λ (a : Cond). truth_seen_at c.args.around.now (cond_tree a)) (sym c.deref.ensures))) c.truth_of.ensures.noted

pub truth_of-returns-in-And-clause-truth : goal.truth_of-returns-in-And-clause-truth
truth_of-returns-in-And-clause-truth t c =
    let a = c.truth_of-left.ensures.truth ∙ ap (λ (a : Cond). truth_at c.args.around.now (cond_tree a)) c.deref-in-And.ensures in
    let b = c.next_truth-right.ensures.truth ∙ (λ i. next_result (a i) (truth_at c.args.around.now (cond_tree (c.deref-in-And-2.ensures i)))) in
    c.both.ensures ∙ (λ i. of_two (λ u v. Ok (u && v)) (a i) (b i))
    ∙ of_next (λ u v. Ok (u && v)) (truth_at c.args.around.now (cond_tree c.in-And.a.value)) (truth_at c.args.around.now (cond_tree c.in-And.b.value))
    ∙ sym (and_at c.args.around.now (cond_tree c.in-And.a.value) (cond_tree c.in-And.b.value))
    ∙ true_as c.args.around.now c.args.condition.now _ _ c.in-And.is (tree-And c.in-And.a c.in-And.b)

pub truth_of-returns-in-And-clause-noted : goal.truth_of-returns-in-And-clause-noted
truth_of-returns-in-And-clause-noted t c =
    conditions_noted c.args.around.now And (and_seen c.args.around.now) c.args.notes.now c.truth_of-left.new.notes c.next_truth-right.new.notes c.args.condition.now c.in-And.a.value c.in-And.b.value
    c.deref-in-And.result.now c.deref-in-And.result.now c.deref-in-And-2.result.now c.truth_of-left.result (ap cond_tree c.in-And.is ∙ tree-And c.in-And.a c.in-And.b)
    c.deref-in-And.ensures c.deref-in-And.ensures c.deref-in-And-2.ensures c.truth_of-left.ensures.truth c.truth_of-left.ensures.noted c.next_truth-right.ensures.noted

pub truth_of-returns-in-Or-clause-truth : goal.truth_of-returns-in-Or-clause-truth
truth_of-returns-in-Or-clause-truth t c =
    let a = c.truth_of-left-in-Or.ensures.truth ∙ ap (λ (a : Cond). truth_at c.args.around.now (cond_tree a)) c.deref-in-Or.ensures in
    let b = c.next_truth-right-in-Or.ensures.truth ∙ (λ i. next_result (a i) (truth_at c.args.around.now (cond_tree (c.deref-in-Or-2.ensures i)))) in
    c.either.ensures ∙ (λ i. of_two (λ u v. Ok (u || v)) (a i) (b i))
    ∙ of_next (λ u v. Ok (u || v)) (truth_at c.args.around.now (cond_tree c.in-Or.a.value)) (truth_at c.args.around.now (cond_tree c.in-Or.b.value))
    ∙ sym (or_at c.args.around.now (cond_tree c.in-Or.a.value) (cond_tree c.in-Or.b.value))
    ∙ true_as c.args.around.now c.args.condition.now _ _ c.in-Or.is (tree-Or c.in-Or.a c.in-Or.b)

pub truth_of-returns-in-Or-clause-noted : goal.truth_of-returns-in-Or-clause-noted
truth_of-returns-in-Or-clause-noted t c =
    conditions_noted c.args.around.now Or (or_seen c.args.around.now) c.args.notes.now c.truth_of-left-in-Or.new.notes c.next_truth-right-in-Or.new.notes c.args.condition.now c.in-Or.a.value c.in-Or.b.value
    c.deref-in-Or.result.now c.deref-in-Or.result.now c.deref-in-Or-2.result.now c.truth_of-left-in-Or.result (ap cond_tree c.in-Or.is ∙ tree-Or c.in-Or.a c.in-Or.b)
    c.deref-in-Or.ensures c.deref-in-Or.ensures c.deref-in-Or-2.ensures c.truth_of-left-in-Or.ensures.truth c.truth_of-left-in-Or.ensures.noted c.next_truth-right-in-Or.ensures.noted

pub next_truth-returns-in-Ok-clause-truth : goal.next_truth-returns-in-Ok-clause-truth
next_truth-returns-in-Ok-clause-truth t c =
    c.truth_of.ensures.truth ∙ ap (λ r. next_result r (truth_at c.args.around.now (cond_tree c.args.condition.now))) (sym c.in-Ok.is)

pub next_truth-returns-in-Ok-clause-noted : goal.next_truth-returns-in-Ok-clause-noted
next_truth-returns-in-Ok-clause-noted t c =
    next_noted c.args.notes.now c.truth_of.new.notes c.args.first.now c.in-Ok.field-0 (truth_seen_at c.args.around.now (cond_tree c.args.condition.now)) c.in-Ok.is c.truth_of.ensures.noted

pub next_truth-returns-in-Err-clause-truth : goal.next_truth-returns-in-Err-clause-truth
next_truth-returns-in-Err-clause-truth t c =
    ap (λ r. next_result r (truth_at c.args.around.now (cond_tree c.args.condition.now))) (sym c.in-Err.is)

pub next_truth-returns-in-Err-clause-noted : goal.next_truth-returns-in-Err-clause-noted
next_truth-returns-in-Err-clause-noted t c =
    fault_noted c.args.notes.now c.args.first.now c.in-Err.fault (truth_seen_at c.args.around.now (cond_tree c.args.condition.now)) c.in-Err.is
