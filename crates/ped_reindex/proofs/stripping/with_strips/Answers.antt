use Rattle.std.proofs.Common.{List, [], ◌∷◌, ◌++◌, ap, ◌∙◌, ℤ}
use Rattle.std.specs.Int.{w64}
use Rattle.std.proofs.lemmas.Int.{to_z-of_z}
use Rattle.std.proofs.lemmas.Result.{IfOk-weaker}
use Rattle.ped_tree.specs.Views.{program_tree, stmt_trees, head_of}
use Rattle.ped_tree.specs.declared.statements.Stmt.{Stmt}
use Rattle.ped_reindex.specs.Stripping.{with_strips}
use Rattle.ped_reindex.proofs.StripAnswers.{stripped_program}
use Rattle.ped_reindex.proofs.stripping.with_strips.Goals as goal

pub returns-clause-tree : goal.returns-clause-tree
returns-clause-tree c =
    let d = c.args.d.now in
    let g = c.in_ok-strips_with.field-0 in
    let listed = c.deref.ensures.value ∙ c.in_ok-push.ensures.items ∙ ap (λ (old : List Stmt). old ++ g ∷ []) c.new-new.ensures.items in
    let made = stripped_program (program_tree c.args.program.now) c.args.number c.args.size c.args.name (head_of d) (stmt_trees d.body.items) g c.deref.result.now c.requires.is listed (c.in_ok-strips_with.ensures ∙ ap (λ (z : ℤ). with_strips z c.args.name (head_of d) (stmt_trees d.body.items)) (to_z-of_z w64 c.args.size c.ranges.size)) in
    IfOk-weaker c.program_with.result _ _ (λ p h. h ∙ made) c.program_with.ensures.tree
