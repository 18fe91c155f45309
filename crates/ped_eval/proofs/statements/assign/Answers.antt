use Rattle.std.proofs.Common.{◌≡◌, true, sym, subst, OnOk, IfErr, Ok, Err}
use Rattle.ped_tree.specs.Tree.{ExprTree}
use Rattle.ped_tree.specs.Views.{expr_tree}
use Rattle.ped_symbols.specs.RightUses.RightUses.{target_is_right}
use Rattle.ped_store.specs.Stores.{Number}
use Rattle.ped_store.specs.Memories.{with_content}
use Rattle.ped_store.specs.Keeping.{memory_of}
use Rattle.ped_eval.specs.ScopeViews.{names_at}
use Rattle.ped_eval.specs.Readiness.{kinds_by}
use Rattle.ped_eval.specs.Noting.{HasAdded}
use Rattle.ped_eval.specs.StatementNotes.{assignment_noted}
use Rattle.ped_eval.specs.Statements.{Stored, assigned}
use Rattle.ped_eval.proofs.statements.assign.Goals as goal

pub assign_scalar-requires-clause-right : goal.assign_scalar-requires-clause-right
assign_scalar-requires-clause-right c = subst (λ (t : ExprTree). target_is_right (kinds_by c.args.symbols.now) t ≡ true) c.in-Some.ensures.0 c.requires.right

pub returns-in-Some-clause-ok : goal.returns-in-Some-clause-ok
returns-in-Some-clause-ok c =
    let m = memory_of c.args.state.now.store in
    let names = names_at m c.args.state.now.scope c.args.symbols.now.constants in
    subst (λ (t : ExprTree). OnOk c.assign_scalar.result ((w : Stored) × ((assigned names t (expr_tree c.args.right.now) m.cells).result ≡ Ok w) × (memory_of c.assign_scalar.new.state.store ≡ with_content w.cell (Number w.number) m)))
    (sym c.in-Some.ensures.0) c.assign_scalar.ensures.ok

pub returns-in-Some-clause-err : goal.returns-in-Some-clause-err
returns-in-Some-clause-err c =
    let m = memory_of c.args.state.now.store in
    let names = names_at m c.args.state.now.scope c.args.symbols.now.constants in
    subst (λ (t : ExprTree). IfErr c.assign_scalar.result (λ n. (assigned names t (expr_tree c.args.right.now) m.cells).result ≡ Err n)) (sym c.in-Some.ensures.0) c.assign_scalar.ensures.err

pub returns-in-Some-clause-noted : goal.returns-in-Some-clause-noted
returns-in-Some-clause-noted c =
    let m = memory_of c.args.state.now.store in
    let names = names_at m c.args.state.now.scope c.args.symbols.now.constants in
    subst (λ (t : ExprTree). HasAdded c.args.notes.now (assignment_noted c.args.notes.now.next (assigned names t (expr_tree c.args.right.now) m.cells)) c.assign_scalar.new.notes) (sym c.in-Some.ensures.0) c.assign_scalar.ensures.noted
