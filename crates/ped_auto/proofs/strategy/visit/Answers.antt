use Rattle.std.proofs.Common.{◌-◌, Bool, true, sym, subst, ◌∙◌, arith}
use Rattle.std.proofs.Math.Nat.{le_trans}
use Rattle.ped_script.specs.declared.items.Command.TheVariants.{Distribute}
use Rattle.ped_auto.specs.Strategy.{Attempts, Visits}
use Rattle.ped_auto.specs.CodeStages.{stage, CutsOff}
use Rattle.ped_auto.proofs.Leading.{leads_tries, leads_attempts}
use Rattle.ped_auto.proofs.Attempting.{tried_taken, tried_left, visit_attempted, visit_undivided, visit_divided, cut_attempt, cut_division, cut_divided}
use Rattle.ped_auto.proofs.Still.{still_there}
use Rattle.ped_auto.proofs.Outcomes.{when_err, none_by, stage_is}
use Rattle.ped_auto.proofs.strategy.visit.Goals.{then-is_none+in_ok-_made, else-is_none}
use Rattle.ped_auto.proofs.strategy.visit.Goals as goal

pub returns-in_err-made-clause-cut : goal.returns-in_err-made-clause-cut
returns-in_err-made-clause-cut g c =
    let e = g.E.Editor.editing in
    when_err _ (CutsOff e (Visits e c.args.number) c.args.editor.now c.args.accepted.now c.args.steps.now c.attempt.new.editor c.attempt.new.steps)
    (λ before low. cut_attempt e g.met.E.Editor.laws c.args.number (stage c.args.editor.now c.args.accepted.now (c.args.steps.now - before)) c.attempt.new.editor (c.attempt.new.steps - before)
    (c.in_err-made.ensures.cut before low))

pub returns-then-made-clause-visited : goal.returns-then-made-clause-visited
returns-then-made-clause-visited g c = λ before low.
    let e = g.E.Editor.editing in
    let p = stage c.args.editor.now c.args.accepted.now (c.args.steps.now - before) in
    let q = stage c.attempt.new.editor c.attempt.new.accepted (c.attempt.new.steps - before) in
    visit_attempted e c.args.number p q (subst (λ (b : Bool). Attempts e c.args.number p b q) c.if-made.true (c.in_ok-made.ensures.done before low))

pub try_command-requires-clause-can : goal.try_command-requires-clause-can
try_command-requires-clause-can g c =
    let e = g.E.Editor.editing in
    let p = stage c.args.editor.now c.args.accepted.now (c.args.steps.now - 0) in
    let q = stage c.attempt.new.editor c.attempt.new.accepted (c.attempt.new.steps - 0) in
    still_there e c.args.number p q (leads_attempts e g.met.E.Editor.laws c.args.number p q c.in_ok-made.made (c.in_ok-made.ensures.done 0 (omega arith))) c.requires

pub returns-in_err-refused-clause-cut : goal.returns-in_err-refused-clause-cut
returns-in_err-refused-clause-cut g c =
    let e = g.E.Editor.editing in
    when_err _ (CutsOff e (Visits e c.args.number) c.args.editor.now c.args.accepted.now c.args.steps.now c.try_command.new.editor c.try_command.new.steps)
    (λ before low.
    let p = stage c.args.editor.now c.args.accepted.now (c.args.steps.now - before) in
    let q = stage c.attempt.new.editor c.attempt.new.accepted (c.attempt.new.steps - before) in
    cut_division e g.met.E.Editor.laws c.args.number p q (subst (λ (b : Bool). Attempts e c.args.number p b q) c.if-made.false (c.in_ok-made.ensures.done before low))
    c.try_command.new.editor (c.try_command.new.steps - before) (c.in_err-refused.ensures.cut before (le_trans low c.attempt.ensures.least)))

pub attempt-requires-then-is_none : goal.attempt-requires-then-is_none
attempt-requires-then-is_none g c =
    let e = g.E.Editor.editing in
    let laws = g.met.E.Editor.laws in
    let p = stage c.args.editor.now c.args.accepted.now (c.args.steps.now - 0) in
    let q = stage c.attempt.new.editor c.attempt.new.accepted (c.attempt.new.steps - 0) in
    let r = stage c.try_command.new.editor c.try_command.new.accepted (c.try_command.new.steps - 0) in
    still_there e c.args.number q r (leads_tries e laws (Distribute c.args.number) tt q true r
    (tried_taken e (Distribute c.args.number) c.in_ok-refused.refused q r (c.in_ok-refused.ensures.tried 0 (omega arith)) (none_by c.in_ok-refused.refused c.is_none.result c.is_none.ensures ∙ c.if-is_none.true)))
    (still_there e c.args.number p q (leads_attempts e laws c.args.number p q c.in_ok-made.made (c.in_ok-made.ensures.done 0 (omega arith))) c.requires)

pub returns-in_err-_made-clause-cut : goal.returns-in_err-_made-clause-cut
returns-in_err-_made-clause-cut g c =
    let e = g.E.Editor.editing in
    when_err _ (CutsOff e (Visits e c.args.number) c.args.editor.now c.args.accepted.now c.args.steps.now c.attempt-then-is_none.new.editor c.attempt-then-is_none.new.steps)
    (λ before low.
    let p = stage c.args.editor.now c.args.accepted.now (c.args.steps.now - before) in
    let q = stage c.attempt.new.editor c.attempt.new.accepted (c.attempt.new.steps - before) in
    let r = stage c.try_command.new.editor c.try_command.new.accepted (c.try_command.new.steps - before) in
    let more = le_trans low c.attempt.ensures.least in
    cut_divided e g.met.E.Editor.laws c.args.number p q r (subst (λ (b : Bool). Attempts e c.args.number p b q) c.if-made.false (c.in_ok-made.ensures.done before low))
    (tried_taken e (Distribute c.args.number) c.in_ok-refused.refused q r (c.in_ok-refused.ensures.tried before more) (none_by c.in_ok-refused.refused c.is_none.result c.is_none.ensures ∙ c.if-is_none.true))
    c.attempt-then-is_none.new.editor (c.attempt-then-is_none.new.steps - before) (c.in_err-_made.ensures.cut before (le_trans more c.try_command.ensures.least)))

pub returns-clause-visited : goal.returns-clause-visited
returns-clause-visited g c = λ before low.
    let e = g.E.Editor.editing in
    let p = stage c.args.editor.now c.args.accepted.now (c.args.steps.now - before) in
    let q = stage c.attempt.new.editor c.attempt.new.accepted (c.attempt.new.steps - before) in
    let r = stage c.try_command.new.editor c.try_command.new.accepted (c.try_command.new.steps - before) in
    let more = le_trans low c.attempt.ensures.least in
    let failed = subst (λ (b : Bool). Attempts e c.args.number p b q) c.if-made.false (c.in_ok-made.ensures.done before low) in
    elim c.if-is_none.branch [
      | then-is_none+in_ok-_made w ↦
          (let z = stage w.attempt-then-is_none.new.editor w.attempt-then-is_none.new.accepted (w.attempt-then-is_none.new.steps - before) in
          let taken = tried_taken e (Distribute c.args.number) c.in_ok-refused.refused q r (c.in_ok-refused.ensures.tried before more) (none_by c.in_ok-refused.refused c.is_none.result c.is_none.ensures ∙ w.if-is_none.true) in
          subst (λ x. Visits e c.args.number p x)
          (sym (stage_is c.if-is_none.editor w.attempt-then-is_none.new.editor c.if-is_none.accepted w.attempt-then-is_none.new.accepted c.if-is_none.steps w.attempt-then-is_none.new.steps before w.editor-is w.accepted-is w.steps-is))
          (visit_divided e c.args.number p q r z _ failed taken (w.in_ok-_made.ensures.done before (le_trans more c.try_command.ensures.least))))
      | else-is_none w ↦
          (let left = tried_left e (Distribute c.args.number) c.in_ok-refused.refused q r (c.in_ok-refused.ensures.tried before more) (none_by c.in_ok-refused.refused c.is_none.result c.is_none.ensures ∙ w.if-is_none.false) in
          subst (λ x. Visits e c.args.number p x)
          (sym (stage_is c.if-is_none.editor c.try_command.new.editor c.if-is_none.accepted c.try_command.new.accepted c.if-is_none.steps c.try_command.new.steps before w.editor-is w.accepted-is w.steps-is))
          (visit_undivided e c.args.number p q r failed left))
    ]
