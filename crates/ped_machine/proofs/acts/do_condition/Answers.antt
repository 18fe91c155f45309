use Rattle.std.proofs.Common.{ℕ, ℤ, List, ap, ◌∙◌}
use Rattle.ped_tree.specs.Views.{cond_tree}
use Rattle.ped_store.specs.Keeping.{memory_of}
use Rattle.ped_interleavings.specs.ped_eval.specs.ScopeViews.{names_at}
use Rattle.ped_interleavings.specs.ped_eval.specs.Values.{truth}
use Rattle.ped_interleavings.specs.ped_eval.specs.Results.{truth_at}
use Rattle.ped_machine.proofs.acts.do_condition.Goals as goal

pub returns : goal.returns
unfolding truth_at
returns c =
    let m = memory_of c.args.state.now.store in
    c.truth_of.ensures.truth ∙ ap (λ (k : List (List ℕ × ℤ)). (truth (names_at m c.args.state.now.scope k) (cond_tree c.args.condition.now) m.cells).result) c.consts.ensures
