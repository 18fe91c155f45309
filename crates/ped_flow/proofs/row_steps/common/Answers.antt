use Rattle.std.proofs.Common.{length, ap, sym, ◌∙◌}
use Rattle.ped_flow.proofs.RowLaws.{length-without}
use Rattle.ped_flow.proofs.row_steps.common.Goals as goal

pub less-requires-2 : goal.less-requires-2
less-requires-2 c = sym (ap length c.in_ok-gone.ensures ∙ length-without c.args.row.now c.args.other.now c.requires)
