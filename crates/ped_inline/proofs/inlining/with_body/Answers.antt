use Rattle.std.proofs.Common.{List, ◌++◌, map, ap, ◌∙◌}
use Rattle.ped_tree.specs.Tree.{StmtTree, StmtTrees}
use Rattle.ped_tree.specs.Views.{decl_tree, stmt_trees, program_tree}
use Rattle.ped_tree.specs.declared.declarations.Decl.{Decl}
use Rattle.ped_rules.specs.ped_steps.specs.Replacing.{all_replaced}
use Rattle.ped_rules.specs.Settling.{front_comments, behind_comments, settled}
use Rattle.ped_inline.proofs.InlineAnswers.{program_opened}
use Rattle.ped_inline.proofs.inlining.with_body.Goals as goal

pub returns-clause-tree : goal.returns-clause-tree
returns-clause-tree c =
    let n = c.args.number in
    let body = stmt_trees c.args.statements.now in
    let decls = c.in_ok-decls.ensures ∙ ap (λ (ds : List Decl). map decl_tree ds) c.deref.ensures.value in
    let all = c.in_ok-all.ensures ∙ (λ i. all_replaced (λ (s : StmtTree). body) n (stmt_trees (c.deref-2.ensures.value i)) 1) in
    let settled_decls = c.in_ok-body.ensures.decls ∙ (λ i. decls i ++ front_comments (all i)) in
    let settled_body = c.in_ok-body.ensures.body ∙ ap (λ (ss : StmtTrees). behind_comments ss) all in
    (λ i. record { decls = settled_decls i; body = settled_body i })
    ∙ ap settled (program_opened (program_tree c.args.program.now) n body c.requires.is)
