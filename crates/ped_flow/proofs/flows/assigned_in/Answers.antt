use Rattle.std.proofs.Common.{◌+◌, List, ap, ◌∙◌}
use Rattle.ped_tree.specs.declared.statements.Stmt.{Stmt}
use Rattle.ped_tree.specs.Views.{stmt_trees}
use Rattle.ped_flow.specs.Paths.{all_paths}
use Rattle.ped_flow.specs.Summaries.{summary_of_all}
use Rattle.ped_flow.specs.Kept.{name_of, constants_of}
use Rattle.ped_flow.proofs.TreeSummaries.{all_summed}
use Rattle.ped_flow.proofs.Answering.{assigned_by}
use Rattle.ped_flow.proofs.flows.assigned_in.Goals as goal

pub returns : goal.returns
returns c =
    let cs = constants_of c.args.scalar.now in
    let x = name_of c.args.scalar.now in
    let body = stmt_trees c.args.d.now.body.items in
    assigned_by (all_paths cs body (c.args.number + 1)).onward x c.statements-summary.result (summary_of_all cs x body (c.args.number + 1)) c.always_assigns.result
    (all_summed cs x body (c.args.number + 1)).onward
    (c.statements-summary.ensures.sum ∙ ap (λ (b : List Stmt). summary_of_all cs x (stmt_trees b) (c.args.number + 1)) c.deref.ensures.value) c.always_assigns.ensures
