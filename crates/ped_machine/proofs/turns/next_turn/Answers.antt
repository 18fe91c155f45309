use Rattle.std.proofs.Common.{◌≡◌, ◌+◌, ◌∷◌, ap, ◌∙◌}
use Rattle.std.specs.Int.{w128}
use mir.Val.{to_z, of_z}
use Rattle.ped_store.specs.Keeping.{memory_of}
use Rattle.ped_tree.specs.Views.{head_of}
use Rattle.ped_interleavings.specs.ped_eval.specs.Scopes.{Frame}
use Rattle.ped_interleavings.specs.ped_eval.specs.ScopeViews.{with_turn, outside}
use Rattle.ped_interleavings.specs.ped_eval.specs.Loops.{frame}
use Rattle.ped_interleavings.specs.ped_eval.specs.Plans.{entered_by}
use Rattle.ped_machine.proofs.Growing.{turned_names, turned_copies}
use Rattle.ped_machine.proofs.turns.next_turn.Goals as goal

pub open_copies-requires : goal.open_copies-requires
open_copies-requires c =
    let t = c.args.turn.now in
    let f = frame (entered_by (head_of t.d.now) t.plan 0) (t.earlier + 1) in
    let v = to_z w128 (of_z w128 c.value_behind.result) in
    let g : Frame = record f { turn = record f.turn { number = t.earlier + 2; value = v } } in
    let scope : c.turn.new.self ≡ g ∷ outside c.args.state.now.scope = c.turn.ensures ∙ ap (with_turn (t.earlier + 2) v) c.requires.inside in
    turned_names c.turn.new.self g (outside c.args.state.now.scope) c.as_slice.result.now scope (c.as_slice.ensures ∙ c.requires.plan.copied)

pub returns-in-Ok-clause-copies : goal.returns-in-Ok-clause-copies
returns-in-Ok-clause-copies c =
    let t = c.args.turn.now in
    let f = frame (entered_by (head_of t.d.now) t.plan 0) (t.earlier + 1) in
    let v = to_z w128 (of_z w128 c.value_behind.result) in
    let g : Frame = record f { turn = record f.turn { number = t.earlier + 2; value = v } } in
    let scope : c.turn.new.self ≡ g ∷ outside c.args.state.now.scope = c.turn.ensures ∙ ap (with_turn (t.earlier + 2) v) c.requires.inside in
    turned_copies c.turn.new.self g (outside c.args.state.now.scope) c.as_slice.result.now (memory_of c.args.state.now.store) (memory_of c.open_copies.new.store) scope (c.as_slice.ensures ∙ c.requires.plan.copied) c.in-Ok.ensures.room c.in-Ok.ensures.stand
