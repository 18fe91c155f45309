use Rattle.std.proofs.Common.{◌≡◌, ◌-◌, ◌≤◌, length, arith}
use Rattle.ped_script.specs.declared.items.Command.TheVariants.{Reduce}
use Rattle.ped_auto.specs.CarriedNames.{are_few_scalars}
use Rattle.ped_auto.specs.Strategy.{Tries, Reduces}
use Rattle.ped_auto.specs.CodeStages.{stage, AnyOutcome, CutsOff}
use Rattle.ped_auto.proofs.Leading.{leads_here, leads_named, leads_reduce}
use Rattle.ped_auto.proofs.Cutting.{cut_here, cut_within}
use Rattle.ped_auto.proofs.Named.{reduce_whole}
use Rattle.ped_auto.proofs.ScalarNames.{named_of, few_named}
use Rattle.ped_auto.proofs.Outcomes.{when_err}
use Rattle.ped_auto.proofs.strategy.add_up.Goals as goal

pub returns-in_err-found-clause-cut : goal.returns-in_err-found-clause-cut
returns-in_err-found-clause-cut g c =
    let e = g.E.Editor.editing in
    when_err _ (CutsOff e (AnyOutcome (Reduces e c.args.number)) c.args.editor.now c.args.accepted.now c.args.steps.now c.args.editor.now c.args.steps.now)
    (λ before low.
    let p = stage c.args.editor.now c.args.accepted.now (c.args.steps.now - before) in
    cut_here e (AnyOutcome (Reduces e c.args.number)) p (λ q h. leads_named e c.args.number are_few_scalars _ (leads_reduce e g.met.E.Editor.laws c.args.number) p q h.0 h.1))

pub returns-in_err-refused-clause-cut : goal.returns-in_err-refused-clause-cut
returns-in_err-refused-clause-cut g c =
    let e = g.E.Editor.editing in
    when_err _ (CutsOff e (AnyOutcome (Reduces e c.args.number)) c.args.editor.now c.args.accepted.now c.args.steps.now c.try_command.new.editor c.try_command.new.steps)
    (λ before low.
    let names = c.in-Some.names in
    let p = stage c.args.editor.now c.args.accepted.now (c.args.steps.now - before) in
    let named = named_of e c.args.editor.now c.args.number c.in_ok-found.found names c.in_ok-found.ensures c.in-Some.is in
    let count : c.len.result ≡ length names = c.len.ensures in
    let few : length names ≤ 8 = (let f = c.if-len-gt-MOST_SUMS.false in omega (arith, f, count)) in
    cut_within e (AnyOutcome (Tries e (Reduce c.args.number names))) (AnyOutcome (Reduces e c.args.number)) p p c.try_command.new.editor (c.try_command.new.steps - before)
    (c.in_err-refused.ensures.cut before low) (leads_here e p)
    (λ q h. reduce_whole e g.met.E.Editor.laws c.args.number p q names (few_named e c.args.editor.now c.args.number names named few) h))
