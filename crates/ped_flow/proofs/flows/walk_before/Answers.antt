use Rattle.std.proofs.Common.{List, subst, sym}
use Rattle.ped_tree.specs.Views.{stmt_trees}
use Rattle.ped_tree.specs.declared.statements.Stmt.{Stmt}
use Rattle.ped_flow.specs.Entries.{AreKnown}
use Rattle.ped_flow.proofs.Skipping.{asked_known, entered_known}
use Rattle.ped_flow.proofs.flows.walk_before.Goals as goal

pub before_all-requires-clause-known : goal.before_all-requires-clause-known
before_all-requires-clause-known c =
    let flow = c.args.flow.now in
    let asked = c.scalar_of-scalar.result in
    let body = flow.program.now.body.items in
    subst (λ (ss : List Stmt). AreKnown asked (stmt_trees ss) 1) (sym c.deref.ensures.value)
    (asked_known asked flow.places flow.table.items (stmt_trees body) 1 c.scalar_of-scalar.ensures.places c.scalar_of-scalar.ensures.table (entered_known flow.places flow.table.items (stmt_trees body) flow.known))
