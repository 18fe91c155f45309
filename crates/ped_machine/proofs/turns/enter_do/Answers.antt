use Rattle.std.proofs.Common.{◌∷◌, sym, ap, subst, ◌∙◌}
use Rattle.ped_tree.specs.Views.{head_of}
use Rattle.ped_store.specs.Keeping.{memory_of}
use Rattle.ped_interleavings.specs.ped_eval.specs.Scopes.{Frame, Scope}
use Rattle.ped_interleavings.specs.ped_eval.specs.Agreement.{DoCopiesStand}
use Rattle.ped_interleavings.specs.ped_eval.specs.Loops.{frame}
use Rattle.ped_interleavings.specs.ped_eval.specs.Plans.{entered_by}
use Rattle.ped_machine.proofs.Growing.{turned_names, turned_copies}
use Rattle.ped_machine.proofs.turns.enter_do.Goals as goal

pub open_body-requires-clause-copies : goal.open_body-requires-clause-copies
open_body-requires-clause-copies c =
    let f = frame (entered_by (head_of c.args.d.now) c.args.plan 0) 1 in
    let scope = c.args.state.now.scope in
    turned_names c.enter.new.self f scope c.args.plan.copied (c.in_ok-enter.ensures.ok ∙ ap (λ (g : Frame). g ∷ scope) c.in_ok-frame.ensures) c.requires.plan.copied

pub returns-in-Ok-clause-copies : goal.returns-in-Ok-clause-copies
returns-in-Ok-clause-copies c h =
    let f = frame (entered_by (head_of c.args.d.now) c.args.plan 0) 1 in
    let scope = c.args.state.now.scope in
    let new = memory_of c.open_body.new.state.store in
    subst (λ (z : Scope). DoCopiesStand z new.stands) (sym c.in-Ok.ensures.scope)
    (turned_copies c.enter.new.self f scope c.args.plan.copied (memory_of c.args.state.now.store) new (c.in_ok-enter.ensures.ok ∙ ap (λ (g : Frame). g ∷ scope) c.in_ok-frame.ensures) c.requires.plan.copied c.in-Ok.ensures.room c.in-Ok.ensures.stand h)
