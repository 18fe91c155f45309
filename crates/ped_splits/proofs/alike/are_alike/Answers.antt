use Rattle.ped_tree.specs.Views.{stmt_trees, head_of}
use Rattle.ped_splits.proofs.AlikeLoops.{alike_loops}
use Rattle.ped_splits.proofs.alike.are_alike.Goals as goal

pub returns : goal.returns
returns c = alike_loops (head_of c.args.own.now) (head_of c.args.next.now) (stmt_trees c.args.next.now.body.items) c.is_like.result c.is_like.ensures
