use Rattle.std.proofs.Common.{List, map, sym, ap, ◌∙◌, arith}
use Rattle.std.proofs.lemmas.List.{drop_all}
use Rattle.ped_tree.specs.Views.{program_tree, stmt_tree, stmt_trees, decl_tree}
use Rattle.ped_tree.specs.declared.declarations.Decl.{Decl}
use Rattle.ped_tree.specs.declared.statements.Stmt.{Stmt}
use Rattle.ped_rules.specs.ped_steps.specs.Replacing.{followed}
use Rattle.ped_rules.specs.ped_steps.proofs.Followed.{followed-none}
use Rattle.ped_reduce.proofs.SummedCode.{pushed}
use Rattle.ped_reduce.proofs.LoweringCode.{copied_next, same_program}
use Rattle.ped_reduce.proofs.lowering.copy_of.Goals as goal

pub loop-statement-preserved : goal.loop-statement-preserved
loop-statement-preserved c =
    let ss = c.deref-statement-items.result.now in
    let old = c.loop-statement.body.items in
    let new = c.push.new.self.items in
    let s = c.statement-item.result in
    copied_next ss c.loop-statement.statement-index s c.loop-statement-test.true c.statement-item.is (stmt_trees old) (stmt_trees new) (stmt_trees ss) c.loop-statement.invariant
    (pushed old new c.in_ok-copy.field-0 (stmt_tree s) c.in_ok-push.ensures.items c.in_ok-copy.ensures)

pub returns-clause-tree : goal.returns-clause-tree
returns-clause-tree c =
    let all = stmt_trees c.loop-statement.body.items in
    let ss = c.deref-statement-items.result.now in
    let left = drop_all c.loop-statement.statement-index ss (omega (arith, c.loop-statement-test.false)) in
    let decls = c.in_ok-decls.ensures ∙ ap (λ (ds : List Decl). map decl_tree ds) c.deref.ensures.value in
    let body = sym (followed-none all) ∙ ap (λ (rest : List Stmt). followed all (stmt_trees rest)) (sym left) ∙ c.loop-statement.invariant ∙ ap stmt_trees c.deref-statement-items.ensures.value in
    same_program (map decl_tree c.in_ok-decls.decls.items) all (program_tree c.args.program.now) decls body
