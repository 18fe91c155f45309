use Rattle.std.proofs.Common.{List, sym, subst, Option}
use Rattle.ped_tree.specs.Views.{stmt_trees}
use Rattle.ped_flow.specs.Entries.{KnowsAll}
use Rattle.ped_flow.specs.declared.entries.Entry.{Entry}
use Rattle.ped_flow.proofs.Known.{all_knows_nothing}
use Rattle.ped_flow.proofs.flows.table_of.Goals as goal

-- src/flows.rt:92:9
pub returns-then-not-is_crowded : goal.returns-then-not-is_crowded
returns-then-not-is_crowded c =
    let body = stmt_trees c.args.body.now in
    subst (λ (xs : List (Option Entry)). KnowsAll c.args.places.now xs body 1) (sym c.new.ensures.items) (all_knows_nothing c.args.places.now body 1)
