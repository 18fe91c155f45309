use Rattle.std.proofs.Common.{◌≡◌, ◌++◌, List, map, ap, subst, ◌∙◌}
use Rattle.std.proofs.lemmas.Result.{IfOk-weaker}
use Rattle.ped_tree.specs.Tree.{StmtTrees, ProgramTree}
use Rattle.ped_tree.specs.Views.{decl_tree, stmt_trees, program_tree}
use Rattle.ped_tree.specs.Names.Collecting.{HaveSame}
use Rattle.ped_tree.specs.declared.declarations.Decl.{Decl}
use Rattle.ped_tree.specs.declared.statements.Stmt.{Stmt}
use Rattle.ped_units.specs.Units.{all_with_calls}
use Rattle.ped_units.specs.Refusals.{save_of_formals, dimensioned, using_arguments, for_names}
use Rattle.ped_units.specs.Views.{program_unit_of}
use Rattle.ped_units.proofs.SameArrays.{same_with_calls}
use Rattle.ped_units.proofs.naming.for_names.Goals as goal

pub returns-clause-tree : goal.returns-clause-tree
returns-clause-tree c =
    let unit = c.args.unit.now in
    let decls = map decl_tree unit.program.decls.items in
    let arrays = c.in_ok-arrays.arrays in
    let same = subst (λ (ds : List Decl). HaveSame arrays (dimensioned (map decl_tree ds))) c.deref.ensures.value c.in_ok-arrays.ensures in
    let body =
    c.in_ok-body.ensures
    ∙ ap (λ (ss : List Stmt). all_with_calls (using_arguments arrays) (stmt_trees ss)) c.deref-2.ensures.value
    ∙ same_with_calls arrays (dimensioned decls) same (stmt_trees unit.program.body.items) in
    let with_body : StmtTrees → ProgramTree = λ ss. record { decls = save_of_formals unit.formals ++ decls; body = ss } in
    IfOk-weaker c.with_statements.result _ (λ p. program_tree p ≡ for_names (program_unit_of unit)) (λ p is. is ∙ ap with_body body) c.with_statements.ensures.tree
