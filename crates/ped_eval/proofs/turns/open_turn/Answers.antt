use Rattle.std.proofs.Common.{◌≡◌, ◌+◌, ◌∷◌, ap, ◌∙◌}
use Rattle.std.specs.List.{list_all}
use Rattle.std.specs.Int.{w128}
use mir.Val.{to_z, of_z}
use Rattle.ped_eval.specs.Scopes.{Frame, cell_of}
use Rattle.ped_eval.specs.ScopeViews.{with_turn, outside}
use Rattle.ped_eval.specs.Agreement.{is_copy}
use Rattle.ped_eval.specs.Loops.{frame, copied_names}
use Rattle.ped_eval.specs.Plans.{entered_by}
use Rattle.ped_tree.specs.Views.{head_of}
use Rattle.ped_eval.proofs.Copies.{all_among, all_copies}
use Rattle.ped_eval.proofs.turns.open_turn.Goals as goal

pub open_copies-requires : goal.open_copies-requires
open_copies-requires c =
    let e = entered_by (head_of c.args.d.now) c.args.plan.now 0 in
    let f = frame e c.requires.inside.0 in
    let g : Frame = record f { turn = record f.turn { number = c.args.earlier + 1; value = to_z w128 (of_z w128 c.value_behind.result) } } in
    let scope : c.turn.new.self ≡ g ∷ outside c.args.state.now.scope = c.turn.ensures ∙ ap (with_turn (c.args.earlier + 1) (to_z w128 (of_z w128 c.value_behind.result))) c.requires.inside.1 in
    (λ i. list_all (λ x. is_copy (cell_of (scope i) x)) ((c.as_slice.ensures ∙ c.requires.plan.copied) i))
    ∙ all_copies g (outside c.args.state.now.scope) (copied_names e) (all_among (copied_names e))
