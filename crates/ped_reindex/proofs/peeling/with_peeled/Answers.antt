use Rattle.std.proofs.Common.{List, ◌++◌, map, ap, ◌∙◌}
use Rattle.ped_tree.specs.Tree.{StmtTree, StmtTrees}
use Rattle.ped_tree.specs.Views.{decl_tree, stmt_trees, program_tree, head_of}
use Rattle.ped_tree.specs.declared.declarations.Decl.{Decl}
use Rattle.ped_rules.specs.ped_steps.specs.Replacing.{all_replaced}
use Rattle.ped_reindex.specs.CodePeeling.{peeled_in}
use Rattle.ped_rules.specs.Settling.{front_comments, behind_comments}
use Rattle.ped_reindex.proofs.PeelAnswers.{peeled_program}
use Rattle.ped_reindex.proofs.peeling.with_peeled.Goals as goal

pub returns-clause-tree : goal.returns-clause-tree
returns-clause-tree c =
    let n = c.args.number in
    let decls = c.in_ok-decls.ensures ∙ ap (λ (ds : List Decl). map decl_tree ds) c.deref.ensures.value in
    let all = c.in_ok-all.ensures ∙ (λ i. all_replaced (λ (s : StmtTree). stmt_trees (c.deref-3.ensures.value i)) n (stmt_trees (c.deref-2.ensures.value i)) 1) in
    let settled_decls = c.in_ok-body.ensures.decls ∙ (λ i. decls i ++ front_comments (all i)) in
    let settled_body = c.in_ok-body.ensures.body ∙ ap (λ (ss : StmtTrees). behind_comments ss) all in
    (λ i. record { decls = settled_decls i; body = settled_body i })
    ∙ peeled_program (program_tree c.args.program.now) n c.args.last (peeled_in c.args.taken) (head_of c.args.d.now) (stmt_trees c.args.d.now.body.items) c.in_ok-new.new.items c.requires.is c.in_ok-new.ensures
