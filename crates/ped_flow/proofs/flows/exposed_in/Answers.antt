use Rattle.std.proofs.Common.{◌+◌, List, ap, ◌∙◌}
use Rattle.ped_tree.specs.declared.statements.Stmt.{Stmt}
use Rattle.ped_flow.specs.Summaries.{summary_of_all}
use Rattle.ped_tree.specs.Views.{stmt_trees}
use Rattle.ped_tree.specs.Views.{head_of}
use Rattle.ped_flow.specs.Kept.{name_of, constants_of}
use Rattle.ped_flow.proofs.Answering.{first_in_iteration}
use Rattle.ped_flow.proofs.flows.exposed_in.Goals as goal

pub returns : goal.returns
returns c =
    first_in_iteration (constants_of c.args.scalar.now) (name_of c.args.scalar.now) c.args.number (head_of c.args.d.now) (stmt_trees c.args.d.now.body.items)
    c.start.result c.statements-body.result c.then-summary.result c.start.ensures
    (c.statements-body.ensures.sum ∙ ap (λ (b : List Stmt). summary_of_all (constants_of c.args.scalar.now) (name_of c.args.scalar.now) (stmt_trees b) (c.args.number + 1)) c.deref.ensures.value) c.then-summary.ensures
