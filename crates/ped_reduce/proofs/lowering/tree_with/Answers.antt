use Rattle.std.proofs.Common.{◌++◌, ◌+◌, List, map, true, ap, ◌∙◌, arith}
use Rattle.ped_tree.specs.Tree.{StmtTree, DeclTree}
use Rattle.ped_tree.specs.Numbering.{statements_count}
use Rattle.ped_tree.specs.Views.{program_tree, stmt_trees, decl_tree, head_of}
use Rattle.ped_tree.specs.declared.declarations.Decl.{Decl}
use Rattle.ped_tree.specs.declared.statements.Stmt.{Stmt}
use Rattle.ped_rules.specs.ped_steps.specs.Replacing.{all_replaced}
use Rattle.ped_rules.specs.ped_steps.proofs.Answering.{few_numbers}
use Rattle.ped_rules.specs.CodeSpans.{span_in}
use Rattle.ped_reduce.specs.Lowering.{declarations, lowered_with}
use Rattle.ped_reduce.specs.CodeLowering.{partials_view}
use Rattle.ped_reduce.specs.CodeLowered.{lowered_view}
use Rattle.ped_reduce.proofs.LoweringCode.{same_program, replaced_loop}
use Rattle.ped_reduce.proofs.lowering.tree_with.Goals as goal

pub body_with-requires : goal.body_with-requires
body_with-requires c =
    let few = few_numbers (program_tree c.args.lowered.now.tree) c.requires.kept.valid in
    let same = ap (λ (ss : List Stmt). statements_count (stmt_trees ss)) c.deref.ensures.value in
    omega (arith, few, same)

pub returns-clause-tree : goal.returns-clause-tree
returns-clause-tree c =
    let l = c.args.lowered.now in
    let t = program_tree l.tree in
    let n = c.args.number + l.more in
    let h = head_of c.args.d.now in
    let body = stmt_trees c.args.d.now.body.items in
    let v = span_in c.args.span in
    let ps = map partials_view c.args.partials.now in
    let new = c.deref-2.result.now in
    let copied = c.in_ok-decls.ensures ∙ ap (λ (ds : List Decl). map decl_tree ds) c.deref-3.ensures.value in
    let decls = c.in_ok-declare.ensures ∙ ap (λ (ds : List DeclTree). ds ++ declarations v ps) copied in
    let made = ap stmt_trees c.deref-2.ensures.value ∙ c.in_ok-new.ensures in
    let inner = c.in_ok-body.ensures
    ∙ ap (λ (b : List Stmt). all_replaced (λ (s : StmtTree). stmt_trees new) n (stmt_trees b) 1) c.deref.ensures.value
    ∙ replaced_loop t n ps h body c.requires.is (stmt_trees new) made in
    same_program (map decl_tree c.declare.new.decls.items) (stmt_trees c.in_ok-body.body.items) (lowered_with true (lowered_view l) c.args.number body v ps).tree decls inner
