use Rattle.std.proofs.Common.{◌≡◌, ◌+◌, ◌≤◌, ℕ, List, [], ◌∷◌, ◌++◌, ◌||◌, length, map, take, sym, ap, subst, ◌∙◌, arith, take_all}
use Rattle.std.proofs.lemmas.Result.{on_ok_weaker}
use Rattle.ped_tree.specs.Tree.{StmtTree, If, Do}
use Rattle.std.proofs.lemmas.Grind.{common_steps}
use Rattle.std.proofs.lemmas.List.{map_push}
use Rattle.ped_tree.specs.Views.{cond_tree, head_of, stmt_tree, stmt_trees}
use Rattle.ped_tree.specs.declared.statements.Stmt.{Stmt}
use Rattle.ped_units.specs.ped_valid.specs.ped_symbols.specs.Sites.{stmt_sites, stmts_sites, private_site}
use Rattle.ped_units.specs.Linking.{calls_in, all_calls_in}
use Rattle.ped_links.specs.Placing.{placed_call, Passes}
use Rattle.ped_links.proofs.Passed.{passes_nothing, passes_more, passes_if, passes_do, within_loops}
use Rattle.ped_links.proofs.StatementTrees.{tree-If, tree-Do}
use Rattle.ped_links.proofs.placing.+pass.Goals as goal

pub pass_all-loop-statement-init : goal.pass_all-loop-statement-init
pass_all-loop-statement-init t c loops around = passes_nothing c.args.formals.now c.args.walk.now.found c.args.walk.now.lines.now

pub pass_all-loop-statement-preserved : goal.pass_all-loop-statement-preserved
pass_all-loop-statement-preserved t c loops around =
    let ss = c.args.statements.now in
    let i = c.loop-statement.statement-index in
    let s = c.statement-item.result in
    let more : take (i + 1) ss ≡ take i ss ++ s ∷ [] = grind (arith, common_steps) in
    passes_more c.args.formals.now loops (map stmt_tree (take i ss)) (map stmt_tree (take (i + 1) ss)) (stmt_tree s)
    c.args.walk.now.found c.loop-statement.walk.found c.pass.new.walk.found c.args.walk.now.lines.now c.loop-statement.walk.lines.now c.pass.new.walk.lines.now
    (ap (map stmt_tree) more ∙ map_push stmt_tree (take i ss) s) (c.loop-statement.invariant loops around) (c.in_ok-pass.ensures loops around)

pub pass_all-returns : goal.pass_all-returns
pass_all-returns t c loops around =
    let ss = c.args.statements.now in
    let ended : length ss ≤ c.loop-statement.statement-index = omega (arith, c.loop-statement-test.false, c.loop-statement.auto.statement-index-end) in
    subst (λ (all : List Stmt). Passes c.args.formals.now (stmts_sites (stmt_trees all)) (map placed_call (all_calls_in loops c.args.walk.now.lines.now (stmt_trees all))) c.args.walk.now.found c.args.walk.now.lines.now c.loop-statement.walk.found c.loop-statement.walk.lines.now)
    (take_all c.loop-statement.statement-index ss ended) (c.loop-statement.invariant loops around)

pub pass-returns-in_ok-pass_all-in-If : goal.pass-returns-in_ok-pass_all-in-If
pass-returns-in_ok-pass_all-in-If t c =
    let formals = c.args.formals.now in
    let from = c.args.walk.now in
    let lined = c.next_line.new.self in
    let first = c.pass_all.new.walk in
    let last = c.pass_all-in-If.new.walk in
    let a = stmt_trees c.deref.result.now in
    let b = stmt_trees c.deref-in-If.result.now in
    let cond = cond_tree c.in-If.condition in
    let is : stmt_tree c.args.statement.now ≡ If cond a b =
    ap stmt_tree c.in-If.is ∙ tree-If c.in-If.condition c.in-If.then_part c.in-If.else_part
    ∙ ap (λ (ss : List Stmt). If cond (stmt_trees ss) (stmt_trees c.in-If.else_part.items)) (sym c.deref.ensures.value)
    ∙ ap (λ (ss : List Stmt). If cond a (stmt_trees ss)) (sym c.deref-in-If.ensures.value) in
    on_ok_weaker c.pass_all-in-If.result (λ p loops around.
    subst (λ (s : StmtTree). Passes formals (stmt_sites s) (map placed_call (calls_in loops from.lines.now s)) from.found from.lines.now last.found last.lines.now) (sym is)
    (passes_if formals loops cond a b from.found lined.found first.found last.found from.lines.now lined.lines.now first.lines.now last.lines.now c.next_line.ensures.lines c.next_line.ensures.found (c.in_ok-pass_all-in-If.ensures loops around) (p loops around))) c.pass_all-in-If.ensures

pub pass-returns-in_ok-within-in-Do : goal.pass-returns-in_ok-within-in-Do
pass-returns-in_ok-within-in-Do t c =
    let formals = c.args.formals.now in
    let from = c.args.walk.now in
    let lined = c.next_line-in-Do.new.self in
    let first = c.pass_private.new.self in
    let last = c.pass_all-in-Do.new.walk in
    let d = head_of c.in-Do.d in
    let body = stmt_trees c.deref-in-Do.result.now in
    let is : stmt_tree c.args.statement.now ≡ Do d body =
    ap stmt_tree c.in-Do.is ∙ tree-Do c.in-Do.d ∙ ap (λ (ss : List Stmt). Do d (stmt_trees ss)) (sym c.deref-in-Do.ensures.value) in
    on_ok_weaker c.pass_all-in-Do.result (λ p loops around.
    let private = subst (λ (xs : List (List ℕ)). Passes formals (private_site xs) [] lined.found lined.lines.now first.found first.lines.now) c.as_slice.ensures c.in_ok-pass_private-in-Do.ensures in
    let within = within_loops loops d c.args.around.now c.in_ok-within-in-Do.within around (c.in_ok-within-in-Do.ensures ∙ ap (λ (xs : List (List ℕ)). record { variables = c.args.around.now.variables ++ d.variable ∷ []; private = c.args.around.now.private ++ xs; parallel = c.args.around.now.parallel || d.parallel }) c.as_slice-in-Do.ensures) in
    subst (λ (s : StmtTree). Passes formals (stmt_sites s) (map placed_call (calls_in loops from.lines.now s)) from.found from.lines.now last.found last.lines.now) (sym is)
    (passes_do formals loops d body from.found lined.found first.found last.found from.lines.now lined.lines.now first.lines.now last.lines.now c.next_line-in-Do.ensures.lines c.next_line-in-Do.ensures.found private (p (loops ++ d ∷ []) within))) c.pass_all-in-Do.ensures
