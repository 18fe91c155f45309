use Rattle.std.proofs.Common.{ℕ, List, ap, ◌∙◌}
use Rattle.std.proofs.lemmas.Result.{IfOk-weaker}
use Rattle.ped_tree.specs.Numbering.{statements_count}
use Rattle.ped_tree.specs.Views.{stmt_trees}
use Rattle.ped_tree.specs.declared.statements.Stmt.{Stmt}
use Rattle.ped_splits.proofs.KeptWithout.{kept_but, kept_up_to}
use Rattle.ped_splits.proofs.joining.kept_without.Goals as goal

pub returns : goal.returns
returns c =
    let m = c.args.number in
    let count = c.count_statements.ensures ∙ ap (λ (xs : List Stmt). statements_count (stmt_trees xs)) c.deref.ensures.value in
    IfOk-weaker c.kept_up_to.result _ _ (λ keep e. e ∙ (kept_but m c.count_statements.result ∙ ap (λ (n : ℕ). kept_up_to m n) count)) c.kept_up_to.ensures
