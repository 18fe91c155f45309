use Rattle.std.proofs.Common.{◌≡◌, ◌∙◌, ◌+◌, ◌≤◌, refl, ap, sym, subst, arith, Option, take}
use Rattle.ped_script.specs.declared.items.Command.{Command}
use Rattle.ped_session.specs.States.{State}
use Rattle.ped_answer.specs.declared.tallies.Tally as code
use Rattle.ped_answer.specs.Generated.{Tally, tally_both, bad_command_tally, AppliesCommand, Applies}
use Rattle.ped_answer.specs.Tallies.{first_count, counted}
use Rattle.ped_answer.proofs.Tallying.{one_applies, item_within, items_more, item_no_auto, items_all, counted_both, counted_bad}
use Rattle.ped_answer.proofs.tallies.apply_items.Goals.{in-Some+in_ok-apply_command-in-Some, in-None}
use Rattle.ped_answer.proofs.tallies.apply_items.Goals as goal

pub apply_command-requires-clause-other : goal.apply_command-requires-clause-other
apply_command-requires-clause-other g c =
    item_no_auto c.args.items.now c.loop-item.item-index c.item-item.result _ c.requires (let h = c.loop-item-test.true in omega (arith, h)) c.item-item.is c.in-Some.is

pub returns-in_err-apply_command-in-Some-clause-most :
    goal.returns-in_err-apply_command-in-Some-clause-most
returns-in_err-apply_command-in-Some-clause-most g c = λ tally last whole.
    let inv = c.loop-item.invariant in
    let at = item_within c.args.items.now c.loop-item.item-index c.item-item.result c.args.session.now c.loop-item.session last inv.so_far tally
    (let h = c.loop-item-test.true in omega (arith, h)) c.item-item.is inv.applies whole in
    let most : c.apply_command.new.steps ≤ c.loop-item.steps + at.tally.tests = c.apply_command.ensures.most at.tally at.next
    (subst (λ (o : Option Command). AppliesCommand o c.loop-item.session at.tally at.next) c.in-Some.is at.applies) in
    let ticks : c.loop-item.steps ≡ c.args.steps.now + inv.so_far.tests = inv.ticks in
    let tests : tally.tests ≡ inv.so_far.tests + (at.tally.tests + at.more) = at.tests in
    omega (arith, most, ticks, tests)

pub loop-item-preserved : goal.loop-item-preserved
loop-item-preserved g c = elim c.match-item.branch [
  | in-Some+in_ok-apply_command-in-Some w ↦
      (let inv = c.loop-item.invariant in
      let adds = w.in_ok-apply_command-in-Some.ensures.applies in
      let accepted = w.in_ok-apply_command-in-Some.ensures.accepted in
      let refused = w.in_ok-apply_command-in-Some.ensures.refused in
      let tested = w.in_ok-apply_command-in-Some.ensures.tested in
      record {
        so_far = tally_both inv.so_far adds.tally;
        applies = subst (λ (u : State). Applies (take (c.loop-item.item-index + 1) c.args.items.now) c.args.session.now (tally_both inv.so_far adds.tally) u) (sym w.session-is)
            (items_more c.args.items.now c.loop-item.item-index c.item-item.result c.args.session.now c.loop-item.session w.apply_command.new.session inv.so_far adds.tally
            (let h = c.loop-item-test.true in omega (arith, h)) c.item-item.is inv.applies
            (subst (λ (o : Option Command). AppliesCommand o c.loop-item.session adds.tally w.apply_command.new.session) (sym w.in-Some.is) adds.applies));
        counts = w.tally-is ∙ adds.counts ∙ ap (λ (t : code.Tally). counted t adds.tally) inv.counts ∙ counted_both (first_count c.args.session.now.tested) inv.so_far adds.tally;
        ticks = let now : c.match-item.steps ≡ c.loop-item.steps + adds.tally.tests = w.steps-is ∙ adds.ticks in let before : c.loop-item.steps ≡ c.args.steps.now + inv.so_far.tests = inv.ticks in omega (arith, now, before);
        few_accepted = let is = ap (λ (t : code.Tally). t.accepted) w.tally-is in let few = inv.few_accepted in omega (arith, is, accepted, few);
        few_refused = let is = ap (λ (t : code.Tally). t.refused) w.tally-is in let few = inv.few_refused in omega (arith, is, refused, few);
        few_tested = let is = ap (λ (t : code.Tally). t.tested) w.tally-is in let few = inv.few_tested in omega (arith, is, tested, few);
      })
  | in-None w ↦
      (let inv = c.loop-item.invariant in
      record {
        so_far = tally_both inv.so_far bad_command_tally;
        applies = subst (λ (u : State). Applies (take (c.loop-item.item-index + 1) c.args.items.now) c.args.session.now (tally_both inv.so_far bad_command_tally) u) (sym w.session-is)
            (items_more c.args.items.now c.loop-item.item-index c.item-item.result c.args.session.now c.loop-item.session c.loop-item.session inv.so_far bad_command_tally
            (let h = c.loop-item-test.true in omega (arith, h)) c.item-item.is inv.applies
            (subst (λ (o : Option Command). AppliesCommand o c.loop-item.session bad_command_tally c.loop-item.session) (sym w.in-None.is) (refl, refl)));
        counts = w.tally-is ∙ counted_bad c.loop-item.tally ∙ ap (λ (t : code.Tally). counted t bad_command_tally) inv.counts ∙ counted_both (first_count c.args.session.now.tested) inv.so_far bad_command_tally;
        ticks = let now : c.match-item.steps ≡ c.loop-item.steps = w.steps-is in let before : c.loop-item.steps ≡ c.args.steps.now + inv.so_far.tests = inv.ticks in omega (arith, now, before);
        few_accepted = let is = ap (λ (t : code.Tally). t.accepted) w.tally-is in let few = inv.few_accepted in omega (arith, is, few);
        few_refused = let is = ap (λ (t : code.Tally). t.refused) w.tally-is in let few = inv.few_refused in omega (arith, is, few);
        few_tested = let is = ap (λ (t : code.Tally). t.tested) w.tally-is in let few = inv.few_tested in omega (arith, is, few);
      })
]

pub returns-clause-most : goal.returns-clause-most
returns-clause-most g c = λ tally last whole.
    let inv = c.loop-item.invariant in
    let past = c.loop-item-test.false in
    let same = one_applies c.args.items.now c.args.session.now c.loop-item.session last inv.so_far tally
    (items_all c.args.items.now c.loop-item.item-index c.args.session.now c.loop-item.session inv.so_far (omega (arith, past)) inv.applies) whole in
    let tests : inv.so_far.tests ≡ tally.tests = ap (λ (a : Tally). a.tests) same.0 in
    let ticks : c.loop-item.steps ≡ c.args.steps.now + inv.so_far.tests = inv.ticks in
    omega (arith, tests, ticks)
