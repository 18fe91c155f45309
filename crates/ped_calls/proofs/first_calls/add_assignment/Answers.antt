use Rattle.std.proofs.Common.{◌≡◌, ◌≢◌, ◌==◌, ℕ, refl, List, map, Bool, true, false, sym, ap, ◌∙◌, arith, if◌then◌else◌}
use Rattle.std.specs.Prelude.{◌&&◌}
use Rattle.std.proofs.lemmas.Bool.Decides.{nat_tests}
use Rattle.ped_tree.specs.Tree.{more_stmts}
use Rattle.ped_tree.specs.Views.{stmt_tree}
use Rattle.ped_tree.specs.declared.statements.Stmt.{Stmt}
use Rattle.ped_links.specs.ped_units.specs.Expanding.{behind_stmts}
use Rattle.ped_calls.proofs.CourseSteps.{behind_pushed}
use Rattle.ped_calls.proofs.first_calls.add_assignment.Goals as goal

last_false : (a b : Bool) → b ≡ false → (a && b) ≡ false
last_false true b h = h
last_false false b h = refl

not_zero : (n : ℕ) → n ≢ 0 → (n == 0) ≡ false
not_zero n h = grind (arith, nat_tests)

pub returns-then-not-is_call-clause-statements : goal.returns-then-not-is_call-clause-statements
returns-then-not-is_call-clause-statements c rest =
    let old = map stmt_tree c.args.copies.now.items in
    ap (λ (ss : List Stmt). behind_stmts (map stmt_tree ss) rest) c.in_ok-push.ensures.items
    ∙ behind_pushed c.args.copies.now.items c.in_ok-copy.field-0 (stmt_tree c.args.statement.now) rest c.in_ok-copy.ensures
    ∙ ap (λ (b : Bool). behind_stmts old (if b && c.args.left.now == 0 then rest else more_stmts (stmt_tree c.args.statement.now) rest)) (sym c.if-not-is_call.true)

pub returns-clause-statements : goal.returns-clause-statements
returns-clause-statements c rest =
    let old = map stmt_tree c.args.copies.now.items in
    let some : (c.args.is_call && c.args.left.now == 0) ≡ false = last_false c.args.is_call (c.args.left.now == 0) (not_zero c.args.left.now c.if-left-eq0.false) in
    ap (λ (ss : List Stmt). behind_stmts (map stmt_tree ss) rest) c.in_ok-push-2.ensures.items
    ∙ behind_pushed c.args.copies.now.items c.in_ok-copy-2.field-0 (stmt_tree c.args.statement.now) rest c.in_ok-copy-2.ensures
    ∙ ap (λ (b : Bool). behind_stmts old (if b then rest else more_stmts (stmt_tree c.args.statement.now) rest)) (sym some)
