use Rattle.std.proofs.Common.{pos, ◌-ℤ◌, to_z, of_z, List, [], ◌∷◌, ◌++◌, ap, ◌∙◌}
use Rattle.std.specs.Int.{w64}
use Rattle.std.proofs.lemmas.Result.{IfOk-weaker}
use Rattle.ped_tree.specs.Views.{program_tree, stmt_trees, head_of}
use Rattle.ped_tree.specs.declared.statements.Stmt.{Stmt}
use Rattle.ped_rules.specs.Rules.{is_unit}
use Rattle.ped_loops.proofs.ReverseAnswers.{turned_program, unit_negated, unit_turned}
use Rattle.ped_loops.proofs.reversing.with_turned.Goals as goal

pub turned-requires : goal.turned-requires
turned-requires c = ap is_unit (unit_turned c.args.step c.requires.unit) ∙ unit_negated c.args.step c.requires.unit

pub returns-clause-tree : goal.returns-clause-tree
returns-clause-tree c =
    let d = c.args.d.now in
    let f = c.in_ok-turned.field-0 in
    let k = to_z w64 (of_z w64 (pos 0 -ℤ to_z w64 (of_z w64 c.args.step))) in
    let listed = c.deref.ensures.value ∙ c.in_ok-push.ensures.items ∙ ap (λ (old : List Stmt). old ++ f ∷ []) c.new-new.ensures.items in
    let made = turned_program (program_tree c.args.program.now) c.args.number (head_of d) (stmt_trees d.body.items) c.args.step k f c.deref.result.now c.requires.is c.requires.step (unit_turned c.args.step c.requires.unit) listed c.in_ok-turned.ensures in
    IfOk-weaker c.program_with.result _ _ (λ p h. h ∙ made) c.program_with.ensures.tree
