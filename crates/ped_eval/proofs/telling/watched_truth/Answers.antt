use Rattle.std.proofs.Common.{ℕ, ℤ, List, sym, ap, ◌∙◌, refl}
use Rattle.ped_tree.specs.Views.{cond_tree}
use Rattle.ped_store.specs.Keeping.{memory_of}
use Rattle.ped_eval.specs.ScopeViews.{names_at}
use Rattle.ped_eval.specs.Values.{truth}
use Rattle.ped_eval.specs.Noting.{truth_seen_at}
use Rattle.ped_eval.specs.Results.{truth_at}
use Rattle.ped_eval.specs.StatementNotes.{reads_noted}
use Rattle.ped_eval.proofs.Storing.{fresh_noted}
use Rattle.ped_eval.proofs.telling.watched_truth.Goals as goal

pub returns-in-Ok : goal.returns-in-Ok
unfolding truth_seen_at truth_at
returns-in-Ok g c =
    let m = memory_of c.args.state.now.store in
    let at = λ (k : List (List ℕ × ℤ)). truth (names_at m c.args.state.now.scope k) (cond_tree c.args.condition.now) m.cells in
    let noted = fresh_noted c.of_statement-notes.result c.truth_of-truth.new.notes _ c.of_statement-notes.ensures.touches c.of_statement-notes.ensures.next c.truth_of-truth.ensures.noted in (
      sym (ap (λ k. (at k).result) c.consts.ensures) ∙ sym c.truth_of-truth.ensures.truth ∙ c.in-Ok.is,
      c.in_ok-tell.ensures (reads_noted (at c.args.symbols.now.constants).seen) (λ kept. noted kept ∙ ap (λ k. reads_noted (at k).seen) c.consts.ensures),
    )

pub returns-in-Err : goal.returns-in-Err
unfolding truth_seen_at truth_at
returns-in-Err g c =
    let m = memory_of c.args.state.now.store in
    let at = λ (k : List (List ℕ × ℤ)). truth (names_at m c.args.state.now.scope k) (cond_tree c.args.condition.now) m.cells in
    let noted = fresh_noted c.of_statement-notes.result c.truth_of-truth.new.notes _ c.of_statement-notes.ensures.touches c.of_statement-notes.ensures.next c.truth_of-truth.ensures.noted in (
      sym (ap (λ k. (at k).result) c.consts.ensures) ∙ sym c.truth_of-truth.ensures.truth ∙ c.in-Err.is,
      refl,
      c.in_ok-tell.ensures (reads_noted (at c.args.symbols.now.constants).seen) (λ kept. noted kept ∙ ap (λ k. reads_noted (at k).seen) c.consts.ensures),
    )
