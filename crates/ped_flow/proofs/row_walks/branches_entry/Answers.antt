use Rattle.ped_tree.specs.Tree.{If}
use Rattle.ped_tree.specs.Views.{cond_tree}
use Rattle.ped_flow.proofs.EventRows.{if_ok}
use Rattle.ped_flow.proofs.Known.{made_entry, if_found}
use Rattle.ped_flow.proofs.row_walks.branches_entry.Goals as goal

pub returns-in-Ok : goal.returns-in-Ok
returns-in-Ok c = if_ok c.entry_with.result
    (λ e made. (c.in-Ok.second, c.in-Ok.is, λ n a b h k at. made_entry c.args.places.now (If (cond_tree c.args.c.now) a b) n made.0 c.args.behind e made.2 (if_found _ c.branching-part.result made.0 made.1 c.branching-part.ensures n _ _ _ _ _ _ h k) at))
    c.entry_with.ensures
