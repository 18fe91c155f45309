use Rattle.ped_io.specs.Shelves.{all_names}
use Rattle.ped_answer.proofs.Outcomes.{never_rises}
use Rattle.ped_answer.proofs.answering.answer_surely.Goals as goal

-- a shelf that never fails holds to the end what it held
pub returns-clause-answer : goal.returns-clause-answer
returns-clause-answer g c = c.ped_main.ensures.complete (all_names c.args.shelf.now) c.ped_main.ensures.same (λ name input. never_rises) never_rises

pub returns-clause-tests : goal.returns-clause-tests
returns-clause-tests g c = c.ped_main.ensures.tests (all_names c.args.shelf.now) c.ped_main.ensures.same
