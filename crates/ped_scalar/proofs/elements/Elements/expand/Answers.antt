use Rattle.std.proofs.Common.{List, map, ap, ◌∙◌}
use Rattle.ped_tree.specs.Views.{program_tree, stmt_trees, decl_tree}
use Rattle.ped_tree.specs.declared.statements.Stmt.{Stmt}
use Rattle.ped_tree.specs.declared.declarations.Decl.{Decl}
use Rattle.ped_tree.specs.Views.{head_of}
use Rattle.ped_tree.specs.Tree.{StmtTree}
use Rattle.ped_rules.specs.ped_steps.specs.Replacing.{all_replaced}
use Rattle.ped_rules.specs.ScalarArrays.{declaration}
use Rattle.ped_rules.specs.CodeSpans.{span_in}
use Rattle.ped_scalar.proofs.ExpandedPrograms.{replaced_body, expanded_is, declared_is}
use Rattle.ped_scalar.proofs.elements.Elements.expand.Goals as goal

pub returns-clause-tree : goal.returns-clause-tree
returns-clause-tree c =
    let t = program_tree c.args.program.now in
    let n = c.args.number in
    let e = c.args.self.now in
    let d = c.args.d.now in
    let v = span_in e.span in
    let h = head_of d in
    let body = stmt_trees d.body.items in
    let copied = c.in_ok-decls.ensures ∙ ap (λ (ds : List Decl). map decl_tree ds) c.deref.ensures.value in
    let declared = ap (λ (ds : List Decl). map decl_tree ds) c.in_ok-push.ensures.items
    ∙ declared_is t.decls c.in_ok-decls.decls.items c.in_ok-declaration.field-0 (declaration e.array v) copied c.in_ok-declaration.ensures in
    let made = ap stmt_trees c.deref-3.ensures.value ∙ c.in_ok-new.ensures in
    let replaced_here = c.in_ok-body.ensures
    ∙ ap (λ (b : List Stmt). all_replaced (λ (s : StmtTree). stmt_trees c.deref-3.result.now) n (stmt_trees b) 1) c.deref-2.ensures.value
    ∙ replaced_body t n e.scalar e.array e.live v h body c.deref-3.result.now c.requires.is made in
    expanded_is t n e.scalar e.array e.live v h body (map decl_tree c.push.new.self.items) (stmt_trees c.in_ok-body.body.items) declared replaced_here
