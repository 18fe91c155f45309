use Rattle.std.proofs.Common.{◌≡◌, [], ◌∷◌, ◌++◌, ◌+◌, take, arith, sym, subst}
use Rattle.std.proofs.lemmas.Grind.{common_steps}
use Rattle.std.proofs.lemmas.Result.{IfOk-weaker}
use Rattle.ped_tree.specs.Views.{stmt_trees}
use Rattle.ped_symbols.specs.Sites.{stmts_sites}
use Rattle.ped_symbols.specs.Passes.{Goes}
use Rattle.ped_symbols.proofs.Walking.{goes_nowhere, goes_on, stmt_more, sites_of_if, sites_of_loop}
use Rattle.ped_symbols.proofs.statements.+statements.Goals as goal

pub in_statement-returns-in_ok-next-in-If-2 : goal.in_statement-returns-in_ok-next-in-If-2
in_statement-returns-in_ok-next-in-If-2 t c =
    let known = c.args.known.now in
    let kinds = c.args.kinds.now in
    let last = c.statements-in-If.new.kinds in
    IfOk-weaker c.statements-in-If.result _ _
    (λ next at. subst (Goes known kinds last c.args.found next) (sites_of_if c.in-If.condition c.in-If.then_part c.in-If.else_part c.args.statement.now c.deref.result.now c.deref-in-If.result.now c.in-If.is c.deref.ensures.value c.deref-in-If.ensures.value)
    (goes_on known kinds c.own.new.kinds last c.args.found c.in_ok-next-in-If.next next _ _ c.in_ok-next-in-If.ensures
    (goes_on known c.own.new.kinds c.statements.new.kinds last c.in_ok-next-in-If.next c.in_ok-next-in-If-2.next next _ _ c.in_ok-next-in-If-2.ensures at)))
    c.statements-in-If.ensures

pub in_statement-returns-in_ok-next-in-Do-2 : goal.in_statement-returns-in_ok-next-in-Do-2
in_statement-returns-in_ok-next-in-Do-2 t c =
    let known = c.args.known.now in
    let kinds = c.args.kinds.now in
    let last = c.statements-in-Do.new.kinds in
    IfOk-weaker c.statements-in-Do.result _ _
    (λ next at. subst (Goes known kinds last c.args.found next) (sites_of_loop c.in-Do.d c.args.statement.now c.as_slice.result.now c.deref-in-Do.result.now c.in-Do.is c.as_slice.ensures c.deref-in-Do.ensures.value)
    (goes_on known kinds c.own-in-Do.new.kinds last c.args.found c.in_ok-next-in-Do.next next _ _ c.in_ok-next-in-Do.ensures
    (goes_on known c.own-in-Do.new.kinds c.private.new.kinds last c.in_ok-next-in-Do.next c.in_ok-next-in-Do-2.next next _ _ c.in_ok-next-in-Do-2.ensures at)))
    c.statements-in-Do.ensures

pub statements-loop-statement-init : goal.statements-loop-statement-init
statements-loop-statement-init t c = goes_nowhere c.args.known.now c.args.kinds.now c.args.found

pub statements-loop-statement-preserved : goal.statements-loop-statement-preserved
statements-loop-statement-preserved t c =
    let known = c.args.known.now in
    let i = c.loop-statement.statement-index in
    let all = c.args.all.now in
    let x = c.statement-item.result in
    let front : take (i + 1) all ≡ take i all ++ x ∷ [] = grind (arith, common_steps) in
    subst (Goes known c.args.kinds.now c.in_statement.new.kinds c.args.found c.in_ok-next.next) (sym (stmt_more (take i all) (take (i + 1) all) x front))
    (goes_on known c.args.kinds.now c.loop-statement.kinds c.in_statement.new.kinds c.args.found c.loop-statement.next c.in_ok-next.next _ _ c.loop-statement.invariant c.in_ok-next.ensures)

pub statements-returns : goal.statements-returns
statements-returns t c =
    let all = c.args.all.now in
    let whole : take c.loop-statement.statement-index all ≡ all = grind (arith, common_steps) in
    subst (λ ss. Goes c.args.known.now c.args.kinds.now c.loop-statement.kinds c.args.found c.loop-statement.next (stmts_sites (stmt_trees ss))) whole c.loop-statement.invariant
