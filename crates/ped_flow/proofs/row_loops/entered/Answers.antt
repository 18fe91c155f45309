use Rattle.std.proofs.Common.{[], sym, ◌∙◌}
use Rattle.ped_flow.specs.RowMarks.{names_in}
use Rattle.ped_flow.proofs.EventRows.{if_ok}
use Rattle.ped_flow.proofs.row_loops.entered.Goals as goal

pub followed-requires : goal.followed-requires
followed-requires c = (c.in_ok-part.ensures 0).width ∙ sym c.requires

pub returns : goal.returns
returns c = if_ok c.followed.result (λ p made n g q v k. made (names_in c.args.places.now) _ g _ q [] v (c.in_ok-part.ensures n) k) c.followed.ensures
