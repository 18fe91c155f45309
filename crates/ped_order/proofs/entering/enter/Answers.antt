use Rattle.std.proofs.Common.{◌≡◌, List, [], map, length, take, ap, subst, sym, ◌∙◌, arith}
use Rattle.std.proofs.lemmas.List.{take_all, length-take-le}
use Rattle.ped_store.specs.Acts.{Turn}
use Rattle.ped_laws.specs.ped_eval.specs.AccessViews.{turn_view}
use Rattle.ped_order.specs.Entered.{Enters, told_by, in_turns}
use Rattle.ped_order.proofs.PathLaws.{front_short}
use Rattle.ped_order.proofs.Levels.{one_more}
use Rattle.ped_order.proofs.Remembering.{added_none}
use Rattle.ped_order.proofs.entering.enter.Goals as goal

pub loop-level-init : goal.loop-level-init
loop-level-init c =
    (added_none c.args.entries.now.entries c.args.from c.args.touch.now.sighting (in_turns [] c.args.touch.now) (map turn_view (take c.args.from c.args.turns.now)) (front_short c.args.from c.args.turns.now), omega arith)

pub loop-level-preserved : goal.loop-level-preserved
loop-level-preserved c =
    let l = c.loop-level in
    let turns = c.args.turns.now in
    let h = c.loop-level-test.true in
    let long : length (take l.level turns) ≡ l.level = length-take-le l.level turns (omega (arith, h)) in
    let far = l.invariant.1 in (
      subst (λ (ts : List Turn). Enters (told_by c.args.entries.now.entries) c.enter_at.new.entries.entries c.args.from c.args.touch.now.sighting (in_turns ts c.args.touch.now)) (sym (one_more turns l.level _ h))
          (c.in_ok-enter_at.ensures (told_by c.args.entries.now.entries) c.args.from (omega (arith, long, far)) l.invariant.0),
      omega (arith, far),
    )

pub returns : goal.returns
returns c =
    subst (λ (ts : List Turn). Enters (told_by c.args.entries.now.entries) c.loop-level.entries.entries c.args.from c.args.touch.now.sighting (in_turns ts c.args.touch.now))
    (ap (map turn_view) (take_all c.loop-level.level c.args.turns.now c.loop-level-test.false)) c.loop-level.invariant.0
