use Rattle.std.proofs.Common.{ℤ, List, [], ◌∷◌, ◌++◌, ap, ◌∙◌}
use Rattle.std.specs.Int.{w64}
use Rattle.std.proofs.lemmas.Int.{to_z-of_z}
use Rattle.std.proofs.lemmas.Result.{IfOk-weaker}
use Rattle.ped_tree.specs.Views.{program_tree, stmt_trees, head_of}
use Rattle.ped_tree.specs.declared.statements.Stmt.{Stmt}
use Rattle.ped_reindex.specs.Skewing.{with_skewed}
use Rattle.ped_reindex.proofs.SkewAnswers.{skewed_program}
use Rattle.ped_reindex.proofs.skewing.with_skewed.Goals as goal

pub returns-clause-tree : goal.returns-clause-tree
returns-clause-tree c =
    let d = c.args.d.now in
    let g = c.in_ok-outer_with.field-0 in
    let listed = c.deref.ensures.value ∙ c.in_ok-push.ensures.items ∙ ap (λ (old : List Stmt). old ++ g ∷ []) c.new-new.ensures.items in
    let made = skewed_program (program_tree c.args.program.now) c.args.number c.args.factor (head_of d) (stmt_trees d.body.items) g c.deref.result.now c.requires.is listed (c.in_ok-outer_with.ensures ∙ ap (λ (z : ℤ). with_skewed z (head_of d) (stmt_trees d.body.items)) (to_z-of_z w64 c.args.factor c.ranges.factor)) in
    IfOk-weaker c.program_with.result _ _ (λ p h. h ∙ made) c.program_with.ensures.tree
