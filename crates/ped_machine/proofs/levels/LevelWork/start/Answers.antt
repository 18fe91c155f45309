-- An iteration is started.
use Rattle.std.proofs.Common.{◌+◌, ◌∷◌, ◌∙◌}
use Rattle.ped_tree.specs.Views.{head_of, stmt_trees}
use Rattle.ped_store.specs.Keeping.{memory_of}
use Rattle.ped_interleavings.specs.ped_eval.specs.Loops.{frame}
use Rattle.ped_interleavings.specs.ped_eval.specs.Plans.{entered_by}
use Rattle.ped_machine.proofs.Growing.{turned_names, turned_copies}
use Rattle.ped_machine.proofs.Leveling.{body_sound, body_inside}
use Rattle.ped_machine.proofs.levels.LevelWork.start.Goals as goal

pub open_copies-requires : goal.open_copies-requires
open_copies-requires g c =
    let f = frame (entered_by (head_of c.args.d.now) c.args.plan.now 0) (c.args.earlier + 1) in
    turned_names c.in_ok-scope.scope f c.args.state.now.scope c.as_slice.result.now c.in_ok-scope.ensures (c.as_slice.ensures ∙ c.requires.plan.copied)

pub returns-in-Ok-clause-sound : goal.returns-in-Ok-clause-sound
returns-in-Ok-clause-sound g c =
    let f = frame (entered_by (head_of c.args.d.now) c.args.plan.now 0) (c.args.earlier + 1) in
    let fs = c.args.state.now.scope in
    let m = memory_of c.args.state.now.store in
    let new = memory_of c.open_copies.new.store in
    body_sound g.C.Work.left g.C.Work.base g.C.Work.sound c.with_body.result c.in_ok-scope.scope f fs c.args.plan.now.number (head_of c.args.d.now) (stmt_trees c.args.d.now.body.items) m new c.in_ok-scope.ensures
    c.with_body.ensures.scope c.with_body.ensures.parts c.with_body.ensures.inner
    (turned_copies c.in_ok-scope.scope f fs c.as_slice.result.now m new c.in_ok-scope.ensures (c.as_slice.ensures ∙ c.requires.plan.copied) c.in-Ok.ensures.room c.in-Ok.ensures.stand)

pub returns-in-Ok-clause-inside : goal.returns-in-Ok-clause-inside
returns-in-Ok-clause-inside g c =
    body_inside c.with_body.result c.in_ok-scope.scope (frame (entered_by (head_of c.args.d.now) c.args.plan.now 0) (c.args.earlier + 1) ∷ c.args.state.now.scope) (stmt_trees c.args.d.now.body.items) (c.args.plan.now.number + 1) c.in_ok-scope.ensures c.with_body.ensures.scope c.with_body.ensures.parts
