use Rattle.std.proofs.Common.{◌∙◌, sym, subst}
use Rattle.ped_tree.specs.Views.{program_tree}
use Rattle.ped_answer.specs.declared.answering.Status.TheVariants.{Done}
use Rattle.ped_session.specs.Panes.{ArePanes}
use Rattle.ped_answer.specs.Answer.{IsJust, ShowsTree}
use Rattle.ped_answer.proofs.Counting.{whole_ticks}
use Rattle.ped_answer.proofs.Outcomes.{outcome_weaker}
use Rattle.ped_answer.proofs.showing.show_program.Goals as goal

pub returns-in-Ok-clause-answer : goal.returns-in-Ok-clause-answer
returns-in-Ok-clause-answer g c =
    let o = c.finish.ensures.answer in
    let t = program_tree c.args.program.now in
    (o.0, o.1, outcome_weaker (IsJust Done c.as_slice.result.now) (ShowsTree t) (λ s b j. (j.0, subst (ArePanes t) (sym (j.1 ∙ c.as_slice.ensures)) c.in-Ok.ensures.panes)) _ o.0 c.finish.result o.2)

pub returns-in-Ok-clause-tests : goal.returns-in-Ok-clause-tests
returns-in-Ok-clause-tests g c = whole_ticks c.finish.result Done _ _ _ (λ a e. e) c.finish.ensures.ends c.in-Ok.ensures.ticks
