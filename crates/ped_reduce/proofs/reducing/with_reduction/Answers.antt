use Rattle.std.proofs.Common.{List, [], ◌∷◌, ◌++◌, ap, ◌∙◌}
use Rattle.std.proofs.lemmas.Result.{IfOk-weaker}
use Rattle.ped_tree.specs.Views.{program_tree, stmt_trees, head_of}
use Rattle.ped_tree.specs.declared.statements.Stmt.{Stmt}
use Rattle.ped_reduce.proofs.ReducingAnswers.{listed_program}
use Rattle.ped_reduce.proofs.reducing.with_reduction.Goals as goal

pub returns-clause-tree : goal.returns-clause-tree
returns-clause-tree c =
    let d = c.args.d.now in
    let f = c.in_ok-loop_with.field-0 in
    let listed = c.deref.ensures.value ∙ c.in_ok-push.ensures.items ∙ ap (λ (old : List Stmt). old ++ f ∷ []) c.new-new.ensures.items in
    let made = listed_program (program_tree c.args.program.now) c.args.number c.args.names.now (head_of d) (stmt_trees d.body.items) f c.deref.result.now c.requires.is listed c.in_ok-loop_with.ensures in
    IfOk-weaker c.program_with.result _ _ (λ p h. h ∙ made) c.program_with.ensures.tree
