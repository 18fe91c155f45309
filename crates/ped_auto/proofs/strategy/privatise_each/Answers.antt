use Rattle.std.proofs.Common.{◌-◌, ◌∙◌, arith}
use Rattle.std.specs.Option.{is_none}
use Rattle.std.proofs.Math.Nat.{le_trans}
use Rattle.ped_script.specs.declared.items.Command.TheVariants.{Privatise}
use Rattle.ped_auto.specs.Strategy.{TriesEach}
use Rattle.ped_auto.specs.CodeStages.{stage, CutsOff}
use Rattle.ped_auto.proofs.Leading.{leads_tries}
use Rattle.ped_auto.proofs.Attempting.{tried_some, same_where_left}
use Rattle.ped_auto.proofs.EachName.{each_more, cut_more}
use Rattle.ped_auto.proofs.Still.{still_there}
use Rattle.ped_auto.proofs.Outcomes.{when_err, neither_of, none_by}
use Rattle.ped_auto.proofs.strategy.privatise_each.Goals as goal

pub returns-in_err-refused-clause-cut : goal.returns-in_err-refused-clause-cut
returns-in_err-refused-clause-cut g c =
    let e = g.E.Editor.editing in
    let inv = c.loop-name.invariant in
    let x = c.name-item.result in
    when_err c.from_residual.result (CutsOff e (TriesEach e c.args.number c.args.names.now) c.args.editor.now c.args.accepted.now c.args.steps.now c.try_command.new.editor c.try_command.new.steps)
    (λ before low.
    cut_more e g.met.E.Editor.laws c.args.number c.args.names.now c.loop-name.name-index x
    (stage c.args.editor.now c.args.accepted.now (c.args.steps.now - before)) (stage c.loop-name.editor c.loop-name.accepted (c.loop-name.steps - before))
    (let h = c.loop-name-test.true in omega (arith, h)) c.name-item.is (inv.on before low) c.try_command.new.editor (c.try_command.new.steps - before)
    (c.in_err-refused.ensures.cut before (le_trans low inv.least)))

pub loop-name-preserved : goal.loop-name-preserved
loop-name-preserved g c =
    let e = g.E.Editor.editing in
    let laws = g.met.E.Editor.laws in
    let inv = c.loop-name.invariant in
    let x = c.name-item.result in
    let why = c.in_ok-refused.refused in
    record {
      there =
          (let m = stage c.loop-name.editor c.loop-name.accepted (c.loop-name.steps - 0) in
          let r = stage c.try_command.new.editor c.try_command.new.accepted (c.try_command.new.steps - 0) in
          still_there e c.args.number m r (leads_tries e laws (Privatise c.args.number x) tt m (is_none why) r (tried_some e (Privatise c.args.number x) why m r (c.in_ok-refused.ensures.tried 0 (omega arith)))) inv.there);
      on = λ before low.
          (let m = stage c.loop-name.editor c.loop-name.accepted (c.loop-name.steps - before) in
          let r = stage c.try_command.new.editor c.try_command.new.accepted (c.try_command.new.steps - before) in
          each_more e laws c.args.number c.args.names.now c.loop-name.name-index x (stage c.args.editor.now c.args.accepted.now (c.args.steps.now - before)) m r (is_none why)
          (let h = c.loop-name-test.true in omega (arith, h)) c.name-item.is (inv.on before low)
          (tried_some e (Privatise c.args.number x) why m r (c.in_ok-refused.ensures.tried before (le_trans low inv.least))));
      none = λ not_taken before low.
          (let m = stage c.loop-name.editor c.loop-name.accepted (c.loop-name.steps - before) in
          let r = stage c.try_command.new.editor c.try_command.new.accepted (c.try_command.new.steps - before) in
          let both = neither_of c.loop-name.taken c.is_none-taken.result not_taken in
          same_where_left e (Privatise c.args.number x) why m r (c.in_ok-refused.ensures.tried before (le_trans low inv.least)) (none_by why c.is_none-taken.result c.is_none-taken.ensures ∙ both.1) ∙ inv.none both.0 before low);
      least = le_trans inv.least c.try_command.ensures.least;
    }
