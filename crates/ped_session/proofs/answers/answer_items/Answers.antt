use Rattle.std.proofs.Common.{◌≡◌, ◌∙◌, ◌+◌, ◌≤◌, ℕ, List, ◌++◌, Bool, ◌||◌, refl, ap, sym, subst, arith, Option, take}
use Rattle.ped_script.specs.declared.items.Command.{Command}
use Rattle.ped_versions.specs.States.{State}
use Rattle.ped_session.specs.declared.answers.Answered.{Answered}
use Rattle.ped_session.specs.Meanings.{IsMeaningKept}
use Rattle.ped_session.specs.Scripts.{Said, AnswersCommand, AnswersItems, said_both, bad_command_said}
use Rattle.ped_session.proofs.OneAnswer.{one_all}
use Rattle.ped_session.proofs.Answering.{item_within, items_more, items_all}
use Rattle.ped_session.proofs.KeptMeanings.{items_as_before}
use Rattle.ped_session.proofs.answers.answer_items.Goals.{in-Some+in_ok-answer_command-in-Some, in-None+in_ok-answer_bad_command-in-None}
use Rattle.ped_session.proofs.answers.answer_items.Goals as goal

pub returns-in_err-answer_command-in-Some-clause-most : goal.returns-in_err-answer_command-in-Some-clause-most
returns-in_err-answer_command-in-Some-clause-most g c = λ said last whole.
    let inv = c.loop-item.invariant in
    let at = item_within c.args.items.now c.loop-item.item-index c.item-item.result c.args.input.now c.args.session.now c.loop-item.session last inv.said said
    (let h = c.loop-item-test.true in omega (arith, h)) c.item-item.is inv.answers whole in
    let most : c.answer_command.new.steps ≤ c.loop-item.steps + at.said.tests = c.answer_command.ensures.most at.said at.next
    (subst (λ (o : Option Command). AnswersCommand c.item-item.result.line o c.args.input.now c.loop-item.session at.said at.next) c.in-Some.is at.answers) in
    let ticks : c.loop-item.steps ≡ c.args.steps.now + inv.said.tests = inv.ticks in
    let tests : said.tests ≡ inv.said.tests + (at.said.tests + at.more) = at.tests in
    omega (arith, most, ticks, tests)

pub returns-in_err-answer_bad_command-in-None-clause-most : goal.returns-in_err-answer_bad_command-in-None-clause-most
returns-in_err-answer_bad_command-in-None-clause-most g c = λ said last whole.
    let inv = c.loop-item.invariant in
    let at = item_within c.args.items.now c.loop-item.item-index c.item-item.result c.args.input.now c.args.session.now c.loop-item.session last inv.said said
    (let h = c.loop-item-test.true in omega (arith, h)) c.item-item.is inv.answers whole in
    let ticks : c.loop-item.steps ≡ c.args.steps.now + inv.said.tests = inv.ticks in
    let tests : said.tests ≡ inv.said.tests + (at.said.tests + at.more) = at.tests in
    omega (arith, ticks, tests)

pub loop-item-preserved : goal.loop-item-preserved
loop-item-preserved g c = elim c.match-item.branch [
  | in-Some+in_ok-answer_command-in-Some w ↦
      (let inv = c.loop-item.invariant in
      let adds = w.in_ok-answer_command-in-Some.ensures.answers in
      record {
        said = said_both inv.said adds.said;
        answers = subst (λ (u : State). AnswersItems (take (c.loop-item.item-index + 1) c.args.items.now) c.args.input.now c.args.session.now (said_both inv.said adds.said) u) (sym w.session-is)
            (items_more c.args.items.now c.loop-item.item-index c.item-item.result c.args.input.now c.args.session.now c.loop-item.session w.answer_command.new.session inv.said adds.said
            (let h = c.loop-item-test.true in omega (arith, h)) c.item-item.is inv.answers
            (subst (λ (o : Option Command). AnswersCommand c.item-item.result.line o c.args.input.now c.loop-item.session adds.said w.answer_command.new.session) (sym w.in-Some.is) adds.is));
        bytes = ap (λ (a : Answered). a.bytes) (w.answered-is ∙ adds.adds) ∙ ap (λ (b : List ℕ). b ++ adds.said.bytes) inv.bytes;
        refused = ap (λ (a : Answered). a.refused) (w.answered-is ∙ adds.adds) ∙ ap (λ (b : Bool). b || adds.said.refused) inv.refused;
        ticks = let now : c.match-item.steps ≡ c.loop-item.steps + adds.said.tests = w.steps-is ∙ adds.ticks in let before : c.loop-item.steps ≡ c.args.steps.now + inv.said.tests = inv.ticks in omega (arith, now, before);
      })
  | in-None+in_ok-answer_bad_command-in-None w ↦
      (let inv = c.loop-item.invariant in
      let line = c.item-item.result.line in
      let bad = bad_command_said line in
      let adds = w.in_ok-answer_bad_command-in-None.ensures in
      record {
        said = said_both inv.said bad;
        answers = subst (λ (u : State). AnswersItems (take (c.loop-item.item-index + 1) c.args.items.now) c.args.input.now c.args.session.now (said_both inv.said bad) u) (sym w.session-is)
            (items_more c.args.items.now c.loop-item.item-index c.item-item.result c.args.input.now c.args.session.now c.loop-item.session c.loop-item.session inv.said bad
            (let h = c.loop-item-test.true in omega (arith, h)) c.item-item.is inv.answers
            (subst (λ (o : Option Command). AnswersCommand line o c.args.input.now c.loop-item.session bad c.loop-item.session) (sym w.in-None.is) (refl, refl)));
        bytes = ap (λ (a : Answered). a.bytes) (w.answered-is ∙ adds) ∙ ap (λ (b : List ℕ). b ++ bad.bytes) inv.bytes;
        refused = ap (λ (a : Answered). a.refused) (w.answered-is ∙ adds) ∙ ap (λ (b : Bool). b || bad.refused) inv.refused;
        ticks = let now : c.match-item.steps ≡ c.loop-item.steps = w.steps-is in let before : c.loop-item.steps ≡ c.args.steps.now + inv.said.tests = inv.ticks in omega (arith, now, before);
      })
]

pub returns-clause-most : goal.returns-clause-most
returns-clause-most g c = λ said last whole.
    let inv = c.loop-item.invariant in
    let past = c.loop-item-test.false in
    let same = one_all c.args.items.now c.args.input.now c.args.session.now c.loop-item.session last inv.said said
    (items_all c.args.items.now c.loop-item.item-index c.args.input.now c.args.session.now c.loop-item.session inv.said (omega (arith, past)) inv.answers) whole in
    let tests : inv.said.tests ≡ said.tests = ap (λ (a : Said). a.tests) same.0 in
    let ticks : c.loop-item.steps ≡ c.args.steps.now + inv.said.tests = inv.ticks in
    omega (arith, tests, ticks)

pub returns-clause-before : goal.returns-clause-before
returns-clause-before g c =
    let inv = c.loop-item.invariant in
    let past = c.loop-item-test.false in (
      inv.said,
      items_as_before c.interleavings_agree.ensures c.lowering_keeps_the_meaning.ensures c.every_step_is_lawful.ensures c.args.items.now c.args.input.now c.args.session.now c.loop-item.session inv.said
          (subst IsMeaningKept c.session.view_is c.session.invariant)
          (items_all c.args.items.now c.loop-item.item-index c.args.input.now c.args.session.now c.loop-item.session inv.said (omega (arith, past)) inv.answers),
      inv.bytes,
    )
