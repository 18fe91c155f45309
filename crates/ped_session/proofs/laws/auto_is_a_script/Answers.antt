use Rattle.std.proofs.Common.{List, sym, subst}
use Rattle.ped_script.specs.declared.items.Item.{Item}
use Rattle.ped_session.specs.Scripts.{AnswersItems}
use Rattle.ped_session.specs.AutoScripts.{items_on, all_accepted}
use Rattle.ped_session.proofs.AutoRows.{script_again}
use Rattle.ped_session.proofs.AutoScripts.{replayed}
use Rattle.ped_session.proofs.AutoSteps.{auto_steps}
use Rattle.ped_session.proofs.ShortNames.{short_names}
use Rattle.ped_session.proofs.laws.auto_is_a_script.Goals as goal

pub returns-clause-read : goal.returns-clause-read
returns-clause-read g c = λ s last report tests h.
    script_again c.rows_are_commands.ensures report.accepted
    (c.accepted_are_commands.ensures.strategy s last report tests h)
    (c.accepted_are_commands.ensures.written s last report tests short_names h)

pub returns-clause-answers : goal.returns-clause-answers
returns-clause-answers g c = λ s last report tests d h.
    subst (λ (items : List Item). AnswersItems items d s (all_accepted (items_on 1 report.accepted) tests) last)
    (sym (script_again c.rows_are_commands.ensures report.accepted
    (c.accepted_are_commands.ensures.strategy s last report tests h)
    (c.accepted_are_commands.ensures.written s last report tests short_names h)))
    (replayed 1 report.accepted d s last tests (c.accepted_are_commands.ensures.strategy s last report tests h) (auto_steps s last report tests h))
