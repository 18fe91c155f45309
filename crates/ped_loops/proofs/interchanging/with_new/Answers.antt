use Rattle.std.proofs.Common.{List, [], ◌∷◌, ◌++◌, ap, ◌∙◌}
use Rattle.std.proofs.lemmas.Result.{IfOk-weaker}
use Rattle.ped_tree.specs.Views.{program_tree, stmt_trees, head_of}
use Rattle.ped_tree.specs.declared.statements.Stmt.{Stmt}
use Rattle.ped_rules.specs.ped_steps.specs.Replacing.{alone}
use Rattle.ped_loops.proofs.InterchangeAnswers.{exchanged_program}
use Rattle.ped_loops.proofs.interchanging.with_new.Goals as goal

pub returns-clause-tree : goal.returns-clause-tree
returns-clause-tree c =
    let d = c.args.outer.now in
    let f = c.of_loop.result in
    let listed = c.deref.ensures.value ∙ c.in_ok-push.ensures.items ∙ ap (λ (old : List Stmt). old ++ f ∷ []) c.new-statements.ensures.items in
    let made = exchanged_program (program_tree c.args.program.now) c.args.number (head_of d) (stmt_trees d.body.items) f c.deref.result.now c.requires.is listed (ap alone (c.of_loop.ensures ∙ c.in_ok-copy.ensures) ∙ c.requires.new) in
    IfOk-weaker c.program_with.result _ _ (λ p h. h ∙ made) c.program_with.ensures.tree
