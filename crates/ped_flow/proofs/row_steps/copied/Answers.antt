use Rattle.std.proofs.Common.{List, Bool, ap, sym, ◌∙◌}
use Rattle.ped_bits.specs.Places.{union}
use Rattle.ped_flow.proofs.RowLaws.{union-nothing}
use Rattle.ped_flow.proofs.row_steps.copied.Goals as goal

pub returns : goal.returns
returns c = c.or_into.ensures ∙ ap (λ (r : List Bool). union r c.args.row.now) c.in_ok-copy.ensures ∙ union-nothing c.width.result c.args.row.now (sym c.width.ensures)
