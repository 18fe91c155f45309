use Rattle.std.proofs.Common.{◌-◌, Bool, subst, arith}
use Rattle.std.specs.Option.{is_none}
use Rattle.std.proofs.Math.Nat.{le_trans}
use Rattle.ped_script.specs.declared.items.Command.TheVariants.{Parallel}
use Rattle.ped_auto.specs.CarriedNames.{are_scalars}
use Rattle.ped_auto.specs.Strategy.{Tries, TriesEach, TriesPrivate, Privatises}
use Rattle.ped_auto.specs.CodeStages.{stage, AnyOutcome, IsCut, CutsOff}
use Rattle.ped_auto.proofs.Leading.{leads_here, leads_named, leads_private, leads_each}
use Rattle.ped_auto.proofs.Cutting.{cut_here, cut_within}
use Rattle.ped_auto.proofs.Named.{named_done, named_failed, private_first, private_second, private_useless}
use Rattle.ped_auto.proofs.ScalarNames.{named_of, unnamed_of}
use Rattle.ped_auto.proofs.Attempting.{tried_some}
use Rattle.ped_auto.proofs.Still.{still_there}
use Rattle.ped_auto.proofs.Outcomes.{when_err, none_by}
use Rattle.ped_auto.proofs.strategy.make_private.Goals as goal

pub returns-in_err-found-clause-cut : goal.returns-in_err-found-clause-cut
returns-in_err-found-clause-cut g c =
    let e = g.E.Editor.editing in
    when_err _ (CutsOff e (AnyOutcome (Privatises e c.args.number)) c.args.editor.now c.args.accepted.now c.args.steps.now c.args.editor.now c.args.steps.now)
    (λ before low.
    let p = stage c.args.editor.now c.args.accepted.now (c.args.steps.now - before) in
    cut_here e (AnyOutcome (Privatises e c.args.number)) p (λ q h. leads_named e c.args.number are_scalars _ (leads_private e g.met.E.Editor.laws c.args.number) p q h.0 h.1))

pub returns-in_default-clause-done : goal.returns-in_default-clause-done
returns-in_default-clause-done g c = λ before low.
    let e = g.E.Editor.editing in
    named_failed e c.args.number are_scalars (TriesPrivate e c.args.number) (stage c.args.editor.now c.args.accepted.now (c.args.steps.now - before)) c.in_ok-found.ensures.2
    (unnamed_of e c.args.editor.now c.args.number c.in_ok-found.found c.in_ok-found.ensures c.in_default.is)

pub returns-in_err-taken-clause-cut : goal.returns-in_err-taken-clause-cut
returns-in_err-taken-clause-cut g c =
    let e = g.E.Editor.editing in
    when_err _ (CutsOff e (AnyOutcome (Privatises e c.args.number)) c.args.editor.now c.args.accepted.now c.args.steps.now c.privatise_each.new.editor c.privatise_each.new.steps)
    (λ before low.
    let names = c.in-Some.names in
    let p = stage c.args.editor.now c.args.accepted.now (c.args.steps.now - before) in
    cut_within e (TriesEach e c.args.number names) (AnyOutcome (Privatises e c.args.number)) p p c.privatise_each.new.editor (c.privatise_each.new.steps - before)
    (subst (λ ns. IsCut e (TriesEach e c.args.number ns) p c.privatise_each.new.editor (c.privatise_each.new.steps - before)) c.as_slice.ensures (c.in_err-taken.ensures.cut before low)) (leads_here e p)
    (λ q h. private_first e g.met.E.Editor.laws c.args.number p q names (named_of e c.args.editor.now c.args.number c.in_ok-found.found names c.in_ok-found.ensures c.in-Some.is) h))

pub returns-then-not-taken-clause-done : goal.returns-then-not-taken-clause-done
returns-then-not-taken-clause-done g c = λ before low.
    let e = g.E.Editor.editing in
    let names = c.in-Some.names in
    let p = stage c.args.editor.now c.args.accepted.now (c.args.steps.now - before) in
    let r = stage c.privatise_each.new.editor c.privatise_each.new.accepted (c.privatise_each.new.steps - before) in
    private_useless e c.args.number p r names (named_of e c.args.editor.now c.args.number c.in_ok-found.found names c.in_ok-found.ensures c.in-Some.is)
    (subst (λ ns. TriesEach e c.args.number ns p r) c.as_slice.ensures (c.in_ok-taken.ensures.each before low)) (c.in_ok-taken.ensures.none c.if-not-taken.true before low) c.requires.refused

pub try_command-requires-clause-can : goal.try_command-requires-clause-can
try_command-requires-clause-can g c =
    let e = g.E.Editor.editing in
    let p = stage c.args.editor.now c.args.accepted.now (c.args.steps.now - 0) in
    let r = stage c.privatise_each.new.editor c.privatise_each.new.accepted (c.privatise_each.new.steps - 0) in
    still_there e c.args.number p r (leads_each e g.met.E.Editor.laws c.args.number c.as_slice.result.now p r (c.in_ok-taken.ensures.each 0 (omega arith))) c.requires.at

pub returns-in_err-refused-clause-cut : goal.returns-in_err-refused-clause-cut
returns-in_err-refused-clause-cut g c =
    let e = g.E.Editor.editing in
    let laws = g.met.E.Editor.laws in
    when_err _ (CutsOff e (AnyOutcome (Privatises e c.args.number)) c.args.editor.now c.args.accepted.now c.args.steps.now c.try_command.new.editor c.try_command.new.steps)
    (λ before low.
    let names = c.in-Some.names in
    let p = stage c.args.editor.now c.args.accepted.now (c.args.steps.now - before) in
    let r = stage c.privatise_each.new.editor c.privatise_each.new.accepted (c.privatise_each.new.steps - before) in
    let each = subst (λ ns. TriesEach e c.args.number ns p r) c.as_slice.ensures (c.in_ok-taken.ensures.each before low) in
    cut_within e (AnyOutcome (Tries e (Parallel c.args.number))) (AnyOutcome (Privatises e c.args.number)) p r c.try_command.new.editor (c.try_command.new.steps - before)
    (c.in_err-refused.ensures.cut before (le_trans low c.privatise_each.ensures.least)) (leads_each e laws c.args.number names p r each)
    (λ q h. private_second e laws c.args.number p r q names (named_of e c.args.editor.now c.args.number c.in_ok-found.found names c.in_ok-found.ensures c.in-Some.is) each h))

pub returns-clause-done : goal.returns-clause-done
returns-clause-done g c = λ before low.
    let e = g.E.Editor.editing in
    let names = c.in-Some.names in
    let p = stage c.args.editor.now c.args.accepted.now (c.args.steps.now - before) in
    let r = stage c.privatise_each.new.editor c.privatise_each.new.accepted (c.privatise_each.new.steps - before) in
    let z = stage c.try_command.new.editor c.try_command.new.accepted (c.try_command.new.steps - before) in
    let each = subst (λ ns. TriesEach e c.args.number ns p r) c.as_slice.ensures (c.in_ok-taken.ensures.each before low) in
    let why = c.in_ok-refused.refused in
    subst (λ (b : Bool). Privatises e c.args.number p b z) (none_by why c.is_none.result c.is_none.ensures)
    (named_done e c.args.number are_scalars (TriesPrivate e c.args.number) p z names (is_none why) (named_of e c.args.editor.now c.args.number c.in_ok-found.found names c.in_ok-found.ensures c.in-Some.is)
    (r, each, tried_some e (Parallel c.args.number) why r z (c.in_ok-refused.ensures.tried before (le_trans low c.privatise_each.ensures.least))))
