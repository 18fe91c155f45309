use Rattle.std.proofs.Common.{◌≡◌, true, List, map, sym, ap, subst, ◌∙◌, OnOk, IfErr, Ok, Err}
use Rattle.ped_tree.specs.Tree.{ExprTree, Element}
use Rattle.ped_tree.specs.Views.{expr_tree, pack_exprs}
use Rattle.ped_tree.specs.declared.expressions.Expr.{Expr}
use Rattle.ped_symbols.specs.RightUses.RightUses.{target_is_right}
use Rattle.ped_store.specs.Stores.{Number}
use Rattle.ped_store.specs.Memories.{with_content}
use Rattle.ped_store.specs.Keeping.{memory_of}
use Rattle.ped_eval.specs.ScopeViews.{names_at}
use Rattle.ped_eval.specs.Readiness.{kinds_by}
use Rattle.ped_eval.specs.Noting.{HasAdded}
use Rattle.ped_eval.specs.StatementNotes.{assignment_noted}
use Rattle.ped_eval.specs.Statements.{Stored, assigned}
use Rattle.ped_eval.proofs.Levels.{tree-Element}
use Rattle.ped_eval.proofs.statements.assign_other.Goals as goal

pub assign_element-requires-clause-right : goal.assign_element-requires-clause-right
assign_element-requires-clause-right c =
    let left = ap expr_tree c.in-Element.is ∙ tree-Element c.in-Element.name c.in-Element.indices ∙ ap (λ (es : List Expr). Element c.in-Element.name (pack_exprs (map expr_tree es))) (sym c.deref.ensures.value) in
    subst (λ (t : ExprTree). target_is_right (kinds_by c.args.symbols.now) t ≡ true) left c.requires.right

pub returns-in-Element-clause-ok : goal.returns-in-Element-clause-ok
returns-in-Element-clause-ok c =
    let m = memory_of c.args.state.now.store in
    let names = names_at m c.args.state.now.scope c.args.symbols.now.constants in
    let left = ap expr_tree c.in-Element.is ∙ tree-Element c.in-Element.name c.in-Element.indices ∙ ap (λ (es : List Expr). Element c.in-Element.name (pack_exprs (map expr_tree es))) (sym c.deref.ensures.value) in
    subst (λ (t : ExprTree). OnOk c.assign_element.result ((w : Stored) × ((assigned names t (expr_tree c.args.right.now) m.cells).result ≡ Ok w) × (memory_of c.assign_element.new.state.store ≡ with_content w.cell (Number w.number) m)))
    (sym left) c.assign_element.ensures.ok

pub returns-in-Element-clause-err : goal.returns-in-Element-clause-err
returns-in-Element-clause-err c =
    let m = memory_of c.args.state.now.store in
    let names = names_at m c.args.state.now.scope c.args.symbols.now.constants in
    let left = ap expr_tree c.in-Element.is ∙ tree-Element c.in-Element.name c.in-Element.indices ∙ ap (λ (es : List Expr). Element c.in-Element.name (pack_exprs (map expr_tree es))) (sym c.deref.ensures.value) in
    subst (λ (t : ExprTree). IfErr c.assign_element.result (λ n. (assigned names t (expr_tree c.args.right.now) m.cells).result ≡ Err n)) (sym left) c.assign_element.ensures.err

pub returns-in-Element-clause-noted : goal.returns-in-Element-clause-noted
returns-in-Element-clause-noted c =
    let m = memory_of c.args.state.now.store in
    let names = names_at m c.args.state.now.scope c.args.symbols.now.constants in
    let left = ap expr_tree c.in-Element.is ∙ tree-Element c.in-Element.name c.in-Element.indices ∙ ap (λ (es : List Expr). Element c.in-Element.name (pack_exprs (map expr_tree es))) (sym c.deref.ensures.value) in
    subst (λ (t : ExprTree). HasAdded c.args.notes.now (assignment_noted c.args.notes.now.next (assigned names t (expr_tree c.args.right.now) m.cells)) c.assign_element.new.notes) (sym left) c.assign_element.ensures.noted
