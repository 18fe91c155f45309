use Rattle.std.proofs.Common.{◌≡◌, map, length, arith}
use Rattle.std.proofs.lemmas.List.{length-map}
use Rattle.ped_store.specs.CellViews.{cell_view}
use Rattle.ped_order.specs.Paths.{level_view}
use Rattle.ped_order.proofs.Adding.{spread_short}
use Rattle.ped_order.proofs.entering.spread.Goals as goal

pub returns-then-len-from : goal.returns-then-len-from
returns-then-len-from c =
    let touched = c.args.touched.now in
    let long : length (map level_view touched.path) ≡ length touched.path = length-map touched.path level_view in
    let short = c.if-len-from.true in
    let counted = c.len.ensures in
    spread_short c.args.entries.now.entries c.args.from (map level_view touched.path) touched.seen (cell_view c.args.cell.now) (omega (arith, long, counted, short))
