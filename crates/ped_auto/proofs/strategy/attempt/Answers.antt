use Rattle.std.proofs.Common.{◌-◌, Bool, false, subst, ◌∙◌, arith}
use Rattle.std.proofs.Math.Nat.{le_trans}
use Rattle.std.proofs.lemmas.Result.{IfOk-weaker, on_err_weaker}
use Rattle.ped_script.specs.declared.items.Command.TheVariants.{Parallel}
use Rattle.ped_auto.specs.CarriedNames.{are_scalars}
use Rattle.ped_auto.specs.Strategy.{Attempts, Privatises, Reduces}
use Rattle.ped_auto.specs.CodeStages.{stage, Goes, AnyOutcome, CutsOff}
use Rattle.ped_auto.proofs.Leading.{leads_tries, leads_named, leads_private}
use Rattle.ped_auto.proofs.Attempting.{tried_taken, tried_left, still_refused, attempt_plain, attempt_private, attempt_sums, cut_plain, cut_private, cut_sums}
use Rattle.ped_auto.proofs.Still.{still_there}
use Rattle.ped_auto.proofs.Outcomes.{when_err, none_by}
use Rattle.ped_auto.proofs.strategy.attempt.Goals as goal

pub returns-in_err-refused-clause-cut : goal.returns-in_err-refused-clause-cut
returns-in_err-refused-clause-cut g c =
    let e = g.E.Editor.editing in
    when_err _ (CutsOff e (AnyOutcome (Attempts e c.args.number)) c.args.editor.now c.args.accepted.now c.args.steps.now c.try_command.new.editor c.try_command.new.steps)
    (λ before low. cut_plain e g.met.E.Editor.laws c.args.number (stage c.args.editor.now c.args.accepted.now (c.args.steps.now - before)) c.try_command.new.editor (c.try_command.new.steps - before)
    (c.in_err-refused.ensures.cut before low))

pub returns-then-is_none-clause-done : goal.returns-then-is_none-clause-done
returns-then-is_none-clause-done g c = λ before low.
    let e = g.E.Editor.editing in
    let p = stage c.args.editor.now c.args.accepted.now (c.args.steps.now - before) in
    let q = stage c.try_command.new.editor c.try_command.new.accepted (c.try_command.new.steps - before) in
    attempt_plain e c.args.number p q (tried_taken e (Parallel c.args.number) c.in_ok-refused.refused p q (c.in_ok-refused.ensures.tried before low) (none_by c.in_ok-refused.refused c.is_none.result c.is_none.ensures ∙ c.if-is_none.true))

pub make_private-requires-clause-at : goal.make_private-requires-clause-at
make_private-requires-clause-at g c =
    let e = g.E.Editor.editing in
    let p = stage c.args.editor.now c.args.accepted.now (c.args.steps.now - 0) in
    let q = stage c.try_command.new.editor c.try_command.new.accepted (c.try_command.new.steps - 0) in
    still_there e c.args.number p q (leads_tries e g.met.E.Editor.laws (Parallel c.args.number) tt p false q
    (tried_left e (Parallel c.args.number) c.in_ok-refused.refused p q (c.in_ok-refused.ensures.tried 0 (omega arith)) (none_by c.in_ok-refused.refused c.is_none.result c.is_none.ensures ∙ c.if-is_none.false))) c.requires

pub make_private-requires-clause-refused : goal.make_private-requires-clause-refused
make_private-requires-clause-refused g c =
    let e = g.E.Editor.editing in
    let p = stage c.args.editor.now c.args.accepted.now (c.args.steps.now - 0) in
    let q = stage c.try_command.new.editor c.try_command.new.accepted (c.try_command.new.steps - 0) in
    still_refused e (Parallel c.args.number) c.in_ok-refused.refused p q (c.in_ok-refused.ensures.tried 0 (omega arith)) (none_by c.in_ok-refused.refused c.is_none.result c.is_none.ensures ∙ c.if-is_none.false)

pub returns-in_err-made-clause-cut : goal.returns-in_err-made-clause-cut
returns-in_err-made-clause-cut g c =
    let e = g.E.Editor.editing in
    when_err _ (CutsOff e (AnyOutcome (Attempts e c.args.number)) c.args.editor.now c.args.accepted.now c.args.steps.now c.make_private.new.editor c.make_private.new.steps)
    (λ before low.
    let p = stage c.args.editor.now c.args.accepted.now (c.args.steps.now - before) in
    let q = stage c.try_command.new.editor c.try_command.new.accepted (c.try_command.new.steps - before) in
    cut_private e g.met.E.Editor.laws c.args.number p q
    (tried_left e (Parallel c.args.number) c.in_ok-refused.refused p q (c.in_ok-refused.ensures.tried before low) (none_by c.in_ok-refused.refused c.is_none.result c.is_none.ensures ∙ c.if-is_none.false))
    c.make_private.new.editor (c.make_private.new.steps - before)
    (c.in_err-made.ensures.cut before (le_trans low c.try_command.ensures.least)))

pub returns-then-made-clause-done : goal.returns-then-made-clause-done
returns-then-made-clause-done g c = λ before low.
    let e = g.E.Editor.editing in
    let p = stage c.args.editor.now c.args.accepted.now (c.args.steps.now - before) in
    let q = stage c.try_command.new.editor c.try_command.new.accepted (c.try_command.new.steps - before) in
    let r = stage c.make_private.new.editor c.make_private.new.accepted (c.make_private.new.steps - before) in
    attempt_private e c.args.number p q r
    (tried_left e (Parallel c.args.number) c.in_ok-refused.refused p q (c.in_ok-refused.ensures.tried before low) (none_by c.in_ok-refused.refused c.is_none.result c.is_none.ensures ∙ c.if-is_none.false))
    (subst (λ (b : Bool). Privatises e c.args.number q b r) c.if-made.true (c.in_ok-made.ensures.done before (le_trans low c.try_command.ensures.least)))

pub add_up-requires : goal.add_up-requires
add_up-requires g c =
    let e = g.E.Editor.editing in
    let laws = g.met.E.Editor.laws in
    let p = stage c.args.editor.now c.args.accepted.now (c.args.steps.now - 0) in
    let q = stage c.try_command.new.editor c.try_command.new.accepted (c.try_command.new.steps - 0) in
    let r = stage c.make_private.new.editor c.make_private.new.accepted (c.make_private.new.steps - 0) in
    still_there e c.args.number q r (leads_named e c.args.number are_scalars _ (leads_private e laws c.args.number) q r c.in_ok-made.made (c.in_ok-made.ensures.done 0 (omega arith)))
    (still_there e c.args.number p q (leads_tries e laws (Parallel c.args.number) tt p false q
    (tried_left e (Parallel c.args.number) c.in_ok-refused.refused p q (c.in_ok-refused.ensures.tried 0 (omega arith)) (none_by c.in_ok-refused.refused c.is_none.result c.is_none.ensures ∙ c.if-is_none.false))) c.requires)

pub returns-clause-done : goal.returns-clause-done
returns-clause-done g c =
    let e = g.E.Editor.editing in
    IfOk-weaker c.add_up.result
    (λ (done : Bool). Goes (λ p q. Reduces e c.args.number p done q) c.make_private.new.editor c.make_private.new.accepted c.make_private.new.steps c.add_up.new.editor c.add_up.new.accepted c.add_up.new.steps)
    (λ (done : Bool). Goes (λ p q. Attempts e c.args.number p done q) c.args.editor.now c.args.accepted.now c.args.steps.now c.add_up.new.editor c.add_up.new.accepted c.add_up.new.steps) (λ done h before low.
    let p = stage c.args.editor.now c.args.accepted.now (c.args.steps.now - before) in
    let q = stage c.try_command.new.editor c.try_command.new.accepted (c.try_command.new.steps - before) in
    let r = stage c.make_private.new.editor c.make_private.new.accepted (c.make_private.new.steps - before) in
    let z = stage c.add_up.new.editor c.add_up.new.accepted (c.add_up.new.steps - before) in
    let more = le_trans low c.try_command.ensures.least in
    attempt_sums e c.args.number p q r z done
    (tried_left e (Parallel c.args.number) c.in_ok-refused.refused p q (c.in_ok-refused.ensures.tried before low) (none_by c.in_ok-refused.refused c.is_none.result c.is_none.ensures ∙ c.if-is_none.false))
    (subst (λ (b : Bool). Privatises e c.args.number q b r) c.if-made.false (c.in_ok-made.ensures.done before more))
    (h before (le_trans more c.make_private.ensures.least))) c.add_up.ensures.done

pub returns-clause-cut : goal.returns-clause-cut
returns-clause-cut g c =
    let e = g.E.Editor.editing in
    on_err_weaker c.add_up.result (λ h before low.
    let p = stage c.args.editor.now c.args.accepted.now (c.args.steps.now - before) in
    let q = stage c.try_command.new.editor c.try_command.new.accepted (c.try_command.new.steps - before) in
    let r = stage c.make_private.new.editor c.make_private.new.accepted (c.make_private.new.steps - before) in
    let more = le_trans low c.try_command.ensures.least in
    cut_sums e g.met.E.Editor.laws c.args.number p q r
    (tried_left e (Parallel c.args.number) c.in_ok-refused.refused p q (c.in_ok-refused.ensures.tried before low) (none_by c.in_ok-refused.refused c.is_none.result c.is_none.ensures ∙ c.if-is_none.false))
    (subst (λ (b : Bool). Privatises e c.args.number q b r) c.if-made.false (c.in_ok-made.ensures.done before more))
    c.add_up.new.editor (c.add_up.new.steps - before) (h before (le_trans more c.make_private.ensures.least))) c.add_up.ensures.cut
