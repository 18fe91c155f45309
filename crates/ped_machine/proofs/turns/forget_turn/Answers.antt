-- The copies of an iteration of a PARALLEL DO are forgotten, where there is memory for their names.
use Rattle.std.proofs.Common.{◌+◌, [], ◌∷◌, ap, ◌∙◌}
use Rattle.std.specs.List.{list_all}
use Rattle.ped_tree.specs.Views.{head_of}
use Rattle.ped_store.specs.Keeping.{memory_of}
use Rattle.ped_interleavings.specs.ped_eval.specs.Loops.{frame, copied_names}
use Rattle.ped_interleavings.specs.ped_eval.specs.Plans.{entered_by}
use Rattle.ped_interleavings.specs.ped_eval.proofs.Copies.{all_among}
use Rattle.ped_machine.specs.Bases.{is_own}
use Rattle.ped_machine.proofs.Dropping.{nothing_kept}
use Rattle.ped_machine.proofs.Forgetting.{nothing_but}
use Rattle.ped_machine.proofs.turns.forget_turn.Goals as goal

pub returns-in-Ok-clause-cells : goal.returns-in-Ok-clause-cells
returns-in-Ok-clause-cells c =
    let e = entered_by (head_of c.args.d.now) c.args.plan.now 0 in
    let inner = frame e (c.args.earlier + 1) ∷ c.args.scope.now in
    let m = memory_of c.args.store.now in
    let new = memory_of c.forget_copies.new.store in
    (c.forget_copies.ensures inner ([], c.in-Ok.ensures) (ap (list_all (is_own inner)) c.as_slice-names.ensures ∙ ap (list_all (is_own inner)) c.requires.plan.copied ∙ all_among (copied_names e))).0

pub returns-in-Ok-clause-kept : goal.returns-in-Ok-clause-kept
returns-in-Ok-clause-kept c =
    let e = entered_by (head_of c.args.d.now) c.args.plan.now 0 in
    let inner = frame e (c.args.earlier + 1) ∷ c.args.scope.now in
    (c.forget_copies.ensures inner ([], c.in-Ok.ensures) (ap (list_all (is_own inner)) c.as_slice-names.ensures ∙ ap (list_all (is_own inner)) c.requires.plan.copied ∙ all_among (copied_names e))).1

pub returns-in-Err-clause-cells : goal.returns-in-Err-clause-cells
returns-in-Err-clause-cells c = nothing_but (frame (entered_by (head_of c.args.d.now) c.args.plan.now 0) (c.args.earlier + 1) ∷ c.args.scope.now) (memory_of c.args.store.now)

pub returns-in-Err-clause-kept : goal.returns-in-Err-clause-kept
returns-in-Err-clause-kept c = nothing_kept (frame (entered_by (head_of c.args.d.now) c.args.plan.now 0) (c.args.earlier + 1) ∷ c.args.scope.now) (memory_of c.args.store.now)
