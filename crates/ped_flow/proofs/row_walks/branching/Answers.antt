use Rattle.std.proofs.Common.{sym, ◌∙◌}
use Rattle.ped_flow.specs.RowMarks.{names_in}
use Rattle.ped_flow.proofs.EventRows.{if_ok}
use Rattle.ped_flow.proofs.row_walks.branching.Goals as goal

pub either-requires : goal.either-requires
either-requires c = c.requires.first ∙ sym c.requires.second

pub decided-part-requires : goal.decided-part-requires
decided-part-requires c = c.in_ok-parts.ensures.width ∙ c.requires.first

pub returns : goal.returns
returns c = if_ok c.decided-part.result (λ p made n f g o q u v h k. made n _ _ _ (c.in_ok-parts.ensures.part (names_in c.args.places.now) f g o q u v h k)) c.decided-part.ensures
