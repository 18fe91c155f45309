use Rattle.std.proofs.Common.{◌≡◌, ◌+◌, take}
use Rattle.ped_session.specs.Scripts.{Said, AnswersItems}
use Rattle.ped_session.proofs.answers.answer_items.Given as goal

abbrev pub invariant-loop-item : goal.invariant-loop-item
invariant-loop-item g l = record {
  said : Said;
  answers : AnswersItems (take l.item-index l.items) l.input l.fn.session said l.session;
  bytes : l.answered.bytes ≡ said.bytes;
  refused : l.answered.refused ≡ said.refused;
  ticks : l.steps ≡ l.fn.steps + said.tests;
}
