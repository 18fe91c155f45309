use Rattle.std.proofs.Common.{[], sym, ◌∙◌}
use Rattle.ped_flow.specs.RowMarks.{names_in}
use Rattle.ped_flow.proofs.EventRows.{if_done}
use Rattle.ped_flow.proofs.row_events.add_item.Goals as goal

pub then-done-requires : goal.then-done-requires
then-done-requires c = c.requires ∙ sym (c.in_ok-item.ensures 0).width

pub returns-clause-part : goal.returns-clause-part
returns-clause-part c = if_done c.then-done.result (λ made n f o k. made (names_in c.args.places.now) f _ o _ [] [] k (c.in_ok-item.ensures n)) c.then-done.ensures.part
