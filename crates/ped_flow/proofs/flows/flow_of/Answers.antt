use Rattle.std.proofs.Common.{List, subst}
use Rattle.ped_tree.specs.Views.{stmt_trees}
use Rattle.ped_tree.specs.declared.statements.Stmt.{Stmt}
use Rattle.ped_flow.specs.Entries.{KnowsAll}
use Rattle.ped_flow.proofs.Skipping.{are_entered}
use Rattle.ped_flow.proofs.flows.flow_of.Goals as goal

pub invariant_of-result : goal.invariant_of-result
invariant_of-result c =
    let places = c.in_ok-places.places in
    let table = c.in_ok-table.table.items in
    record {
      constants = c.in_ok-places.ensures;
      known = are_entered places table (stmt_trees c.args.program.now.body.items) (subst (λ (ss : List Stmt). KnowsAll places table (stmt_trees ss) 1) c.deref.ensures.value c.in_ok-table.ensures);
    }
