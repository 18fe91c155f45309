use Rattle.ped_graph.proofs.SideLaws.{view_told}
use Rattle.ped_graph.proofs.sides.tells_view.Goals as goal

pub returns : goal.returns
returns c = λ told. view_told c.args.source.now c.args.sink.now c.common_depth-common.result c.args.view.now c.common_depth-common.ensures (c.is_like.ensures told)
