use Rattle.std.proofs.Common.{ap, ◌∙◌}
use Rattle.ped_tree.specs.Tree.{StmtTrees, Do}
use Rattle.ped_tree.specs.Views.{stmt_trees, head_of}
use Rattle.ped_rules.specs.ped_steps.specs.Replacing.{followed}
use Rattle.ped_rules.specs.ped_steps.proofs.Followed.{followed-assoc, stmt_trees-append}
use Rattle.ped_splits.specs.Neighbours.{renamed_body}
use Rattle.ped_splits.proofs.Joints.{rejoined}
use Rattle.ped_splits.proofs.joining.joined_loop.Goals as goal

pub returns : goal.returns
returns c =
    let p = c.args.pair.now in
    let own = stmt_trees p.own.now.body.items in
    let between = stmt_trees p.between.now in
    let renamed = renamed_body (head_of p.own.now) (head_of p.next.now) (stmt_trees p.next.now.body.items) in
    let first = c.in_ok-add_copies.ensures ∙ (λ i. followed (stmt_trees (c.new-body.ensures.items i)) (stmt_trees (c.deref.ensures.value i))) in
    let second = c.in_ok-add_copies-2.ensures ∙ ap (λ (b : StmtTrees). followed b between) first in
    let body = ap stmt_trees c.in_ok-append.ensures.items ∙ stmt_trees-append c.add_copies-2.new.all.items c.in_ok-second.second.items ∙ (λ i. followed (second i) (c.in_ok-second.ensures i)) ∙ followed-assoc own between renamed in
    rejoined (head_of c.in_ok-new.new) (head_of p.own.now) (stmt_trees c.in_ok-new.new.body.items) (followed own (followed between renamed)) _ _ (c.in_ok-new.ensures ∙ ap (λ (b : StmtTrees). Do (head_of p.own.now) b) body) c.in_ok-rejected.ensures
