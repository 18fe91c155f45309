use Rattle.std.proofs.Common.{ℤ, List, ap, ◌∙◌}
use Rattle.std.specs.Int.{w64}
use Rattle.std.proofs.lemmas.Int.{to_z-of_z}
use Rattle.ped_tree.specs.Tree.{StmtTree, Do}
use Rattle.ped_tree.specs.Views.{stmt_trees, head_of}
use Rattle.ped_tree.specs.declared.statements.Stmt.{Stmt}
use Rattle.ped_rules.specs.ped_steps.specs.Replacing.{alone}
use Rattle.ped_reindex.specs.CodeSkewing.{all_skewed}
use Rattle.ped_reindex.proofs.SkewAnswers.{only_one_skewed}
use Rattle.ped_reindex.proofs.skewing.outer_with.Goals as goal

pub returns : goal.returns
returns c =
    let h = head_of c.args.d.now in
    let body = stmt_trees c.args.d.now.body.items in
    let f = c.args.factor in
    let each =
    c.in_ok-body.ensures
    ∙ ap (λ (z : ℤ). all_skewed z h.variable (stmt_trees c.deref.result.now)) (to_z-of_z w64 f c.ranges.factor)
    ∙ ap (λ (ss : List Stmt). all_skewed f h.variable (stmt_trees ss)) c.deref.ensures.value
    ∙ only_one_skewed f h.variable body c.requires.perfect in
    ap (λ (s : StmtTree). alone s) (c.of_loop.ensures ∙ c.in_ok-with_body.ensures ∙ ap (Do h) each)
