use Rattle.std.proofs.Common.{◌≡◌, List, length, ap, ◌∙◌, arith}
use Rattle.ped_tree.specs.Views.{stmt_trees}
use Rattle.ped_tree.specs.declared.statements.Stmt.{Stmt}
use Rattle.ped_rules.specs.CodeSettling.{body_of}
use Rattle.ped_rules.proofs.Settled.{body_pushed}
use Rattle.ped_rules.proofs.settling.place.Goals as goal

pub returns-then-not-is_empty-clause-body : goal.returns-then-not-is_empty-clause-body
returns-then-not-is_empty-clause-body c rest =
    ap (λ (xs : List Stmt). body_of (stmt_trees xs) rest) c.in_ok-push.ensures.items
    ∙ body_pushed c.args.body.now.items c.args.statement rest
    (λ e. let none : length c.args.body.now.items ≡ 0 = ap (λ (xs : List Stmt). length xs) e in
    let said = c.is_empty.ensures in
    let some = c.if-not-is_empty.true in
    grind (arith, none, said, some))
