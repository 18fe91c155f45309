use Rattle.ped_tree.specs.Tree.{Do}
use Rattle.ped_tree.specs.Views.{stmt_trees}
use Rattle.ped_tree.specs.Views.{head_of}
use Rattle.ped_flow.proofs.EventRows.{if_ok}
use Rattle.ped_flow.proofs.Known.{made_entry, if_found}
use Rattle.ped_flow.proofs.row_walks.loop_entry.Goals as goal

pub returns : goal.returns
returns c = if_ok c.entry_with.result
    (λ e made n k at. made_entry c.args.places.now (Do (head_of c.args.d.now) (stmt_trees c.args.d.now.body.items)) n made.0 c.args.behind e made.2 (if_found _ c.loop_part-part.result made.0 made.1 c.loop_part-part.ensures n _ _ k) at)
    c.entry_with.ensures
