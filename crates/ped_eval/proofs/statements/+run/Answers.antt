use Rattle.std.proofs.Common.{◌≡◌, ℕ, zero, suc, ◌+◌, ◌-◌, ◌<◌, ◌≤◌, List, [], ◌∷◌, ◌==◌, length, drop, true, false, Result, Ok, Err, rules, refl, sym, ap, subst, ◌∙◌, arith}
use Rattle.std.proofs.lemmas.List.{drop_all}
use Rattle.std.specs.List.{list_all}
use Rattle.ped_tree.specs.Tree.{StmtTree, StmtTrees, If, no_stmts, more_stmts}
use Rattle.ped_tree.specs.Views.{cond_tree, stmt_tree, stmt_trees, do_tree}
use Rattle.ped_tree.specs.Numbering.{statement_count, statements_count}
use Rattle.ped_tree.specs.declared.statements.Stmt.{Stmt, the_lemmas}
use Rattle.ped_tree.proofs.Levels.{stmt_tree-If}
use Rattle.ped_store.specs.Memories.{Memory}
use Rattle.ped_store.specs.Stores.{Store}
use Rattle.ped_store.specs.Keeping.{Kept, memory_of}
use Rattle.ped_eval.specs.Scopes.{Scope, cell_of}
use Rattle.ped_eval.specs.ScopeViews.{names_at, outside}
use Rattle.ped_eval.specs.Values.{truth}
use Rattle.ped_eval.specs.Loops.{frame, copied_names, inner_variables}
use Rattle.ped_symbols.specs.RightUses.RightUses.{is_scalar}
use Rattle.ped_eval.specs.Plans.{entered_by, IsEntry}
use Rattle.ped_tree.specs.Views.{head_of}
use Rattle.ped_eval.specs.Readiness.{kinds_by, setting_by, IsReady, CanDo, CanRun}
use Rattle.ped_eval.specs.Agreement.{before, before_turn, is_copy, Agrees}
use Rattle.ped_eval.specs.Runs.{Ending, Run, run, run_all}
use Rattle.ped_eval.specs.Turns.{turns_end, body_run, with_copies, without_copies, exited}
use Rattle.ped_eval.specs.Told.{Goes, TellsFrom, Ran, StaysReady, OnGoing, Reaches}
use Rattle.ped_eval.specs.declared.states.Flow.{Flow}
use Rattle.ped_eval.specs.declared.states.Flow.TheVariants as flow
use Rattle.ped_eval.specs.declared.plans.Plan.{Plan}
use Rattle.ped_eval.specs.declared.states.RunError.{RunError}
use Rattle.ped_eval.proofs.Moments.{first_turn}
use Rattle.ped_eval.proofs.Agreements.{agrees_later}
use Rattle.ped_eval.proofs.Copies.{all_among, all_copies}
use Rattle.ped_eval.proofs.Assignments.{cell_stands}
use Rattle.ped_eval.proofs.Entries.{plan_number, do_run, do_failed}
use Rattle.ped_eval.proofs.Iterations.{exit_tells, exit_ready, scalars_stand, variable_scalar, private_scalars, inner_scalars, open_ready, close_ready, turn_part, turn_goes, turn_stops, turn_fails}
use Rattle.ped_eval.proofs.Parts.{HasRun, first_can, rest_can, then_can, else_can, head_can, body_right, body_can, then_run, else_run, none_run, stop_run, tree-Assign, tree-Do, tree-Stop, stmts_left, only_left, only_run, no_items}
use Rattle.ped_eval.proofs.Running.{statement_done, statement_broken, reaches_behind, tells_broken}
use Rattle.ped_store.specs.Acts.{closed}
use Rattle.ped_store.specs.Races.{Access, accesses}
use Rattle.ped_eval.specs.Loops.{exit_touches}
use Rattle.ped_eval.specs.Follow.{Follow}
use Rattle.ped_eval.specs.Noting.{noted, place_by, accesses_by}
use Rattle.ped_eval.specs.Watched.{Watched, Awaits, turns_run}
use Rattle.ped_eval.proofs.Watching.{act_accesses, awaits_behind, awaits_broken}
use Rattle.ped_eval.proofs.StatementWatches.{then_watched, else_watched, truth_failed, truth_error_watched, do_watched, do_error_watched, statement_told, statement_told_broken, turn_watched}
use Rattle.ped_eval.proofs.statements.+run.Goals as goal

pub run_do-run_turns-requires : goal.run_do-run_turns-requires
run_do-run_turns-requires g t c =
    let entry : IsEntry c.args.symbols.now c.args.number (names_at (memory_of c.args.state.now.store) c.args.state.now.scope c.args.symbols.now.constants) (memory_of c.args.state.now.store).cells (head_of c.args.d.now) (stmt_trees c.args.d.now.body.items) (Ok c.in-Ok.plan) =
    subst (λ (r : Result Plan RunError). IsEntry c.args.symbols.now c.args.number (names_at (memory_of c.args.state.now.store) c.args.state.now.scope c.args.symbols.now.constants) (memory_of c.args.state.now.store).cells (head_of c.args.d.now) (stmt_trees c.args.d.now.body.items) r) c.in-Ok.is c.plan_of.ensures.entry in
    let number : c.in-Ok.plan.number ≡ c.args.number = plan_number c.args.symbols.now.constants c.args.number (head_of c.args.d.now) (stmt_trees c.args.d.now.body.items) entry.0 c.in-Ok.plan entry.2 in
    let can : CanDo c.args.symbols.now c.args.state.now.scope c.in-Ok.plan.number (do_tree c.args.d.now) = subst (λ (k : ℕ). CanDo c.args.symbols.now c.args.state.now.scope k (do_tree c.args.d.now)) (sym number) c.requires.can in
    λ κs h. (search rules, ((λ a b. h a b), (can, (c.requires.ready, entry.2.right))))

pub run_do-returns-in-Ok-clause-told : goal.run_do-returns-in-Ok-clause-told
run_do-returns-in-Ok-clause-told g t c =
    let entry : IsEntry c.args.symbols.now c.args.number (names_at (memory_of c.args.state.now.store) c.args.state.now.scope c.args.symbols.now.constants) (memory_of c.args.state.now.store).cells (head_of c.args.d.now) (stmt_trees c.args.d.now.body.items) (Ok c.in-Ok.plan) =
    subst (λ (r : Result Plan RunError). IsEntry c.args.symbols.now c.args.number (names_at (memory_of c.args.state.now.store) c.args.state.now.scope c.args.symbols.now.constants) (memory_of c.args.state.now.store).cells (head_of c.args.d.now) (stmt_trees c.args.d.now.body.items) r) c.in-Ok.is c.plan_of.ensures.entry in
    do_run c.args.symbols.now c.args.state.now.scope c.args.number (memory_of c.args.state.now.store) c.requires.ready (head_of c.args.d.now) (stmt_trees c.args.d.now.body.items) entry.0 c.in-Ok.plan entry.1 entry.2
    c.run_turns.result (memory_of c.run_turns.new.state.store) c.run_turns.ensures.told

pub run_do-returns-in-Ok-clause-watched : goal.run_do-returns-in-Ok-clause-watched
run_do-returns-in-Ok-clause-watched g t c =
    let entry : IsEntry c.args.symbols.now c.args.number (names_at (memory_of c.args.state.now.store) c.args.state.now.scope c.args.symbols.now.constants) (memory_of c.args.state.now.store).cells (head_of c.args.d.now) (stmt_trees c.args.d.now.body.items) (Ok c.in-Ok.plan) =
    subst (λ (r : Result Plan RunError). IsEntry c.args.symbols.now c.args.number (names_at (memory_of c.args.state.now.store) c.args.state.now.scope c.args.symbols.now.constants) (memory_of c.args.state.now.store).cells (head_of c.args.d.now) (stmt_trees c.args.d.now.body.items) r) c.in-Ok.is c.plan_of.ensures.entry in
    do_watched g.W.Watch.follows c.args.symbols.now c.args.state.now.scope c.args.number (memory_of c.args.state.now.store) c.requires.ready (head_of c.args.d.now) (stmt_trees c.args.d.now.body.items)
    c.args.watch.now c.plan_of.new.watch c.run_turns.new.watch c.in-Ok.ensures.told entry.0 c.in-Ok.plan c.in-Ok.plan.behind c.run_turns.result entry.1 entry.2 c.in-Ok.ensures.behind c.run_turns.ensures.watched

pub run_do-returns-in-Err-clause-told : goal.run_do-returns-in-Err-clause-told
run_do-returns-in-Err-clause-told g t c =
    let entry : IsEntry c.args.symbols.now c.args.number (names_at (memory_of c.args.state.now.store) c.args.state.now.scope c.args.symbols.now.constants) (memory_of c.args.state.now.store).cells (head_of c.args.d.now) (stmt_trees c.args.d.now.body.items) (Err c.in-Err.error) =
    subst (λ (r : Result Plan RunError). IsEntry c.args.symbols.now c.args.number (names_at (memory_of c.args.state.now.store) c.args.state.now.scope c.args.symbols.now.constants) (memory_of c.args.state.now.store).cells (head_of c.args.d.now) (stmt_trees c.args.d.now.body.items) r) c.in-Err.is c.plan_of.ensures.entry in
    do_failed c.args.symbols.now c.args.state.now.scope c.args.number (memory_of c.args.state.now.store) c.requires.ready (head_of c.args.d.now) (stmt_trees c.args.d.now.body.items) c.in-Err.error (memory_of c.args.state.now.store) entry

pub run_do-returns-in-Err-clause-watched : goal.run_do-returns-in-Err-clause-watched
run_do-returns-in-Err-clause-watched g t c =
    let entry : IsEntry c.args.symbols.now c.args.number (names_at (memory_of c.args.state.now.store) c.args.state.now.scope c.args.symbols.now.constants) (memory_of c.args.state.now.store).cells (head_of c.args.d.now) (stmt_trees c.args.d.now.body.items) (Err c.in-Err.error) =
    subst (λ (r : Result Plan RunError). IsEntry c.args.symbols.now c.args.number (names_at (memory_of c.args.state.now.store) c.args.state.now.scope c.args.symbols.now.constants) (memory_of c.args.state.now.store).cells (head_of c.args.d.now) (stmt_trees c.args.d.now.body.items) r) c.in-Err.is c.plan_of.ensures.entry in
    do_error_watched g.W.Watch.follows c.args.symbols.now c.args.state.now.scope c.args.number (memory_of c.args.state.now.store) c.requires.ready (head_of c.args.d.now) (stmt_trees c.args.d.now.body.items)
    c.args.watch.now c.plan_of.new.watch c.in-Err.error c.in-Err.ensures.told entry

pub run_one-returns-in-Assign-clause-told : goal.run_one-returns-in-Assign-clause-told
run_one-returns-in-Assign-clause-told g t c =
    subst (λ (x : StmtTree). HasRun c.args.symbols.now c.args.state.now.scope c.args.number (memory_of c.args.state.now.store) c.watched_assignment.result (memory_of c.watched_assignment.new.state.store) x)
    (sym (ap stmt_tree c.in-Assign.is ∙ tree-Assign c.in-Assign.left c.in-Assign.right)) c.watched_assignment.ensures.told

pub run_one-run_part-requires : goal.run_one-run_part-requires
run_one-run_part-requires g t c =
    let is = ap stmt_tree c.in-If.is ∙ stmt_tree-If c.in-If.condition c.in-If.then_part c.in-If.else_part in
    let a = stmt_trees c.in-If.then_part.items in
    let b = stmt_trees c.in-If.else_part.items in
    let can = then_can c.args.symbols.now c.args.state.now.scope c.args.number (cond_tree c.in-If.condition) a b (subst (λ (x : StmtTree). CanDo c.args.symbols.now c.args.state.now.scope c.args.number x) is c.requires.can) in
    λ κs h. (search (rules, the_lemmas), ((λ a b. h a b), (subst (λ (ss : List Stmt). CanRun c.args.symbols.now c.args.state.now.scope (c.args.number + 1) (stmt_trees ss)) (sym c.deref.ensures.value) can, c.requires.ready)))

pub run_one-returns-in-Ok-true-clause-told : goal.run_one-returns-in-Ok-true-clause-told
run_one-returns-in-Ok-true-clause-told g t c =
    let table = c.args.symbols.now in
    let scope = c.args.state.now.scope in
    let n = c.args.number in
    let old = memory_of c.args.state.now.store in
    let r = c.run_part.result in
    let new = memory_of c.run_part.new.state.store in
    let is = ap stmt_tree c.in-If.is ∙ stmt_tree-If c.in-If.condition c.in-If.then_part c.in-If.else_part in
    let a = stmt_trees c.in-If.then_part.items in
    let holds : (truth (names_at old scope table.constants) (cond_tree c.in-If.condition) old.cells).result ≡ Ok true =
    c.in-Ok-true.ensures.0 ∙ ap Ok c.in-Ok-true.field-0-test in
    let told : Ran scope (n + 1) old (n + 1 + statements_count a) r new (run_all (setting_by table) a (n + 1) scope) =
    subst (λ (ss : List Stmt). Ran scope (n + 1) old (n + 1 + statements_count (stmt_trees ss)) r new (run_all (setting_by table) (stmt_trees ss) (n + 1) scope)) c.deref.ensures.value c.run_part.ensures.told in
    subst (λ (x : StmtTree). HasRun table scope n old r new x) (sym is) (then_run table scope n old c.requires.ready (cond_tree c.in-If.condition) a (stmt_trees c.in-If.else_part.items) r new holds told)

pub run_one-returns-in-Ok-true-clause-watched : goal.run_one-returns-in-Ok-true-clause-watched
run_one-returns-in-Ok-true-clause-watched g t c =
    let table = c.args.symbols.now in
    let scope = c.args.state.now.scope in
    let n = c.args.number in
    let old = memory_of c.args.state.now.store in
    let r = c.run_part.result in
    let is = ap stmt_tree c.in-If.is ∙ stmt_tree-If c.in-If.condition c.in-If.then_part c.in-If.else_part in
    let a = stmt_trees c.in-If.then_part.items in
    let holds : (truth (names_at old scope table.constants) (cond_tree c.in-If.condition) old.cells).result ≡ Ok true =
    c.in-Ok-true.ensures.0 ∙ ap Ok c.in-Ok-true.field-0-test in
    let first = c.args.watch.now in
    let mid = c.watched_truth.new.watch in
    let last = c.run_part.new.watch in
    let follows = g.W.Watch.follows in
    let part : Watched follows mid last scope (before scope (n + 1)) old.cells r (run_all (setting_by table) a (n + 1) scope) =
    subst (λ (ss : List Stmt). Watched follows mid last scope (before scope (n + 1)) old.cells r (run_all (setting_by table) (stmt_trees ss) (n + 1) scope)) c.deref.ensures.value c.run_part.ensures.watched in
    subst (λ (x : StmtTree). Watched follows first last scope (before scope n) old.cells r (run (setting_by table) x n scope)) (sym is)
    (then_watched follows table scope n old c.requires.ready (cond_tree c.in-If.condition) a (stmt_trees c.in-If.else_part.items) first mid last c.in-Ok-true.ensures.1 r holds part)

pub run_one-run_part-requires-in-Ok-false : goal.run_one-run_part-requires-in-Ok-false
run_one-run_part-requires-in-Ok-false g t c =
    let is = ap stmt_tree c.in-If.is ∙ stmt_tree-If c.in-If.condition c.in-If.then_part c.in-If.else_part in
    let a = stmt_trees c.in-If.then_part.items in
    let b = stmt_trees c.in-If.else_part.items in
    let count : c.count_statements.result ≡ statements_count a = c.count_statements.ensures ∙ ap (λ (ss : List Stmt). statements_count (stmt_trees ss)) c.deref-in-Ok-false.ensures.value in
    let can = else_can c.args.symbols.now c.args.state.now.scope c.args.number (cond_tree c.in-If.condition) a b (subst (λ (x : StmtTree). CanDo c.args.symbols.now c.args.state.now.scope c.args.number x) is c.requires.can) in
    let counted : CanRun c.args.symbols.now c.args.state.now.scope (c.args.number + 1 + c.count_statements.result) b = subst (λ (k : ℕ). CanRun c.args.symbols.now c.args.state.now.scope (c.args.number + 1 + k) b) (sym count) can in
    λ κs h. (search (rules, the_lemmas), ((λ a b. h a b), (subst (λ (ss : List Stmt). CanRun c.args.symbols.now c.args.state.now.scope (c.args.number + 1 + c.count_statements.result) (stmt_trees ss)) (sym c.deref-in-Ok-false-2.ensures.value) counted, c.requires.ready)))

pub run_one-returns-in-Ok-false-clause-told : goal.run_one-returns-in-Ok-false-clause-told
run_one-returns-in-Ok-false-clause-told g t c =
    let table = c.args.symbols.now in
    let scope = c.args.state.now.scope in
    let n = c.args.number in
    let old = memory_of c.args.state.now.store in
    let r = c.run_part-in-Ok-false.result in
    let new = memory_of c.run_part-in-Ok-false.new.state.store in
    let is = ap stmt_tree c.in-If.is ∙ stmt_tree-If c.in-If.condition c.in-If.then_part c.in-If.else_part in
    let a = stmt_trees c.in-If.then_part.items in
    let b = stmt_trees c.in-If.else_part.items in
    let count : c.count_statements.result ≡ statements_count a = c.count_statements.ensures ∙ ap (λ (ss : List Stmt). statements_count (stmt_trees ss)) c.deref-in-Ok-false.ensures.value in
    let holds : (truth (names_at old scope table.constants) (cond_tree c.in-If.condition) old.cells).result ≡ Ok false =
    c.in-Ok-false.ensures.0 ∙ ap Ok c.in-Ok-false.field-0-test in
    let part : Ran scope (n + 1 + c.count_statements.result) old (n + 1 + c.count_statements.result + statements_count b) r new (run_all (setting_by table) b (n + 1 + c.count_statements.result) scope) =
    subst (λ (ss : List Stmt). Ran scope (n + 1 + c.count_statements.result) old (n + 1 + c.count_statements.result + statements_count (stmt_trees ss)) r new (run_all (setting_by table) (stmt_trees ss) (n + 1 + c.count_statements.result) scope))
    c.deref-in-Ok-false-2.ensures.value c.run_part-in-Ok-false.ensures.told in
    let told : Ran scope (n + 1 + statements_count a) old (n + 1 + statements_count a + statements_count b) r new (run_all (setting_by table) b (n + 1 + statements_count a) scope) =
    subst (λ (k : ℕ). Ran scope (n + 1 + k) old (n + 1 + k + statements_count b) r new (run_all (setting_by table) b (n + 1 + k) scope)) count part in
    subst (λ (x : StmtTree). HasRun table scope n old r new x) (sym is) (else_run table scope n old c.requires.ready (cond_tree c.in-If.condition) a b r new holds told)

pub run_one-returns-in-Ok-false-clause-watched : goal.run_one-returns-in-Ok-false-clause-watched
run_one-returns-in-Ok-false-clause-watched g t c =
    let table = c.args.symbols.now in
    let scope = c.args.state.now.scope in
    let n = c.args.number in
    let old = memory_of c.args.state.now.store in
    let r = c.run_part-in-Ok-false.result in
    let is = ap stmt_tree c.in-If.is ∙ stmt_tree-If c.in-If.condition c.in-If.then_part c.in-If.else_part in
    let a = stmt_trees c.in-If.then_part.items in
    let b = stmt_trees c.in-If.else_part.items in
    let count : c.count_statements.result ≡ statements_count a = c.count_statements.ensures ∙ ap (λ (ss : List Stmt). statements_count (stmt_trees ss)) c.deref-in-Ok-false.ensures.value in
    let holds : (truth (names_at old scope table.constants) (cond_tree c.in-If.condition) old.cells).result ≡ Ok false =
    c.in-Ok-false.ensures.0 ∙ ap Ok c.in-Ok-false.field-0-test in
    let first = c.args.watch.now in
    let mid = c.watched_truth.new.watch in
    let last = c.run_part-in-Ok-false.new.watch in
    let follows = g.W.Watch.follows in
    let behind : n + 1 + statements_count a ≡ n + (1 + statements_count a) = omega arith in
    let there : Watched follows mid last scope (before scope (n + 1 + c.count_statements.result)) old.cells r (run_all (setting_by table) b (n + 1 + c.count_statements.result) scope) =
    subst (λ (ss : List Stmt). Watched follows mid last scope (before scope (n + 1 + c.count_statements.result)) old.cells r (run_all (setting_by table) (stmt_trees ss) (n + 1 + c.count_statements.result) scope))
    c.deref-in-Ok-false-2.ensures.value c.run_part-in-Ok-false.ensures.watched in
    let part : Watched follows mid last scope (before scope (n + (1 + statements_count a))) old.cells r (run_all (setting_by table) b (n + 1 + statements_count a) scope) =
    subst (λ (k : ℕ). Watched follows mid last scope (before scope k) old.cells r (run_all (setting_by table) b (n + 1 + statements_count a) scope)) behind
    (subst (λ (k : ℕ). Watched follows mid last scope (before scope (n + 1 + k)) old.cells r (run_all (setting_by table) b (n + 1 + k) scope)) count there) in
    subst (λ (x : StmtTree). Watched follows first last scope (before scope n) old.cells r (run (setting_by table) x n scope)) (sym is)
    (else_watched follows table scope n old c.requires.ready (cond_tree c.in-If.condition) a b first mid last c.in-Ok-false.ensures.1 r holds part)

pub run_one-returns-then-is_empty-clause-told : goal.run_one-returns-then-is_empty-clause-told
run_one-returns-then-is_empty-clause-told g t c =
    let table = c.args.symbols.now in
    let scope = c.args.state.now.scope in
    let n = c.args.number in
    let old = memory_of c.args.state.now.store in
    let is = ap stmt_tree c.in-If.is ∙ stmt_tree-If c.in-If.condition c.in-If.then_part c.in-If.else_part in
    let a = stmt_trees c.in-If.then_part.items in
    let none : stmt_trees c.in-If.else_part.items ≡ no_stmts = ap stmt_trees (no_items c.in-If.else_part.items (ap (λ (k : ℕ). k == 0) (sym c.in-If.else_part.ok.0) ∙ sym c.is_empty.ensures ∙ c.if-is_empty.true)) in
    let holds : (truth (names_at old scope table.constants) (cond_tree c.in-If.condition) old.cells).result ≡ Ok false =
    c.in-Ok-false.ensures.0 ∙ ap Ok c.in-Ok-false.field-0-test in
    subst (λ (x : StmtTree). HasRun table scope n old (Ok flow.Going) old x) (sym (is ∙ ap (If (cond_tree c.in-If.condition) a) none)) (none_run table scope n old c.requires.ready (cond_tree c.in-If.condition) a holds)

pub run_one-returns-then-is_empty-clause-watched : goal.run_one-returns-then-is_empty-clause-watched
run_one-returns-then-is_empty-clause-watched g t c =
    let table = c.args.symbols.now in
    let scope = c.args.state.now.scope in
    let n = c.args.number in
    let old = memory_of c.args.state.now.store in
    let is = ap stmt_tree c.in-If.is ∙ stmt_tree-If c.in-If.condition c.in-If.then_part c.in-If.else_part in
    let a = stmt_trees c.in-If.then_part.items in
    let none : stmt_trees c.in-If.else_part.items ≡ no_stmts = ap stmt_trees (no_items c.in-If.else_part.items (ap (λ (k : ℕ). k == 0) (sym c.in-If.else_part.ok.0) ∙ sym c.is_empty.ensures ∙ c.if-is_empty.true)) in
    let holds : (truth (names_at old scope table.constants) (cond_tree c.in-If.condition) old.cells).result ≡ Ok false =
    c.in-Ok-false.ensures.0 ∙ ap Ok c.in-Ok-false.field-0-test in
    let first = c.args.watch.now in
    let mid = c.watched_truth.new.watch in
    let follows = g.W.Watch.follows in
    subst (λ (x : StmtTree). Watched follows first mid scope (before scope n) old.cells (Ok flow.Going) (run (setting_by table) x n scope)) (sym (is ∙ ap (If (cond_tree c.in-If.condition) a) none))
    (else_watched follows table scope n old c.requires.ready (cond_tree c.in-If.condition) a no_stmts first mid mid c.in-Ok-false.ensures.1 (Ok flow.Going) holds (λ s h. refl))

pub run_part-run_one-requires : goal.run_part-run_one-requires
run_part-run_one-requires g t c =
    let one = only_left c.args.stmts.now c.only-item.result (omega arith) c.only-item.is in
    let can = first_can c.args.symbols.now c.args.state.now.scope c.args.first (stmt_tree c.only-item.result) no_stmts (subst (λ (ts : StmtTrees). CanRun c.args.symbols.now c.args.state.now.scope c.args.first ts) one c.requires.can) in
    λ κs h. (search (rules, the_lemmas), ((λ a b. h a b), (can, c.requires.ready)))

pub run_part-returns-clause-told : goal.run_part-returns-clause-told
run_part-returns-clause-told g t c =
    let p = setting_by c.args.symbols.now in
    let scope = c.args.state.now.scope in
    let n = c.args.first in
    let old = memory_of c.args.state.now.store in
    let new = memory_of c.run_one.new.state.store in
    let tree = stmt_tree c.only-item.result in
    let one = only_left c.args.stmts.now c.only-item.result (omega arith) c.only-item.is in
    let count : n + statement_count tree ≡ n + (statement_count tree + 0) = omega arith in
    subst (λ (ts : StmtTrees). Ran scope n old (n + statements_count ts) c.run_one.result new (run_all p ts n scope)) (sym one)
    (subst (λ (f : Store → Run). Ran scope n old (n + (statement_count tree + 0)) c.run_one.result new f) (sym (only_run p tree n scope))
    (subst (λ (k : ℕ). Ran scope n old k c.run_one.result new (run p tree n scope)) count c.run_one.ensures.told))

pub run_part-returns-clause-watched : goal.run_part-returns-clause-watched
run_part-returns-clause-watched g t c =
    let p = setting_by c.args.symbols.now in
    let scope = c.args.state.now.scope in
    let n = c.args.first in
    let old = memory_of c.args.state.now.store in
    let tree = stmt_tree c.only-item.result in
    let one = only_left c.args.stmts.now c.only-item.result (omega arith) c.only-item.is in
    subst (λ (ts : StmtTrees). Watched g.W.Watch.follows c.args.watch.now c.run_one.new.watch scope (before scope n) old.cells c.run_one.result (run_all p ts n scope)) (sym one)
    (subst (λ (f : Store → Run). Watched g.W.Watch.follows c.args.watch.now c.run_one.new.watch scope (before scope n) old.cells c.run_one.result f) (sym (only_run p tree n scope)) c.run_one.ensures.watched)

pub run_one-returns-in-Err-clause-told : goal.run_one-returns-in-Err-clause-told
run_one-returns-in-Err-clause-told g t c =
    let table = c.args.symbols.now in
    let scope = c.args.state.now.scope in
    let old = memory_of c.args.state.now.store in
    let is = ap stmt_tree c.in-If.is ∙ stmt_tree-If c.in-If.condition c.in-If.then_part c.in-If.else_part in
    let a = stmt_trees c.in-If.then_part.items in
    let b = stmt_trees c.in-If.else_part.items in
    subst (λ (x : StmtTree). HasRun table scope c.args.number old (Err c.in-Err.error) old x) (sym is)
    (truth_failed g.W.Watch.follows table scope c.args.number old c.requires.ready (cond_tree c.in-If.condition) a b _ (c.args.number + statement_count (If (cond_tree c.in-If.condition) a b)) old c.in-Err.error c.in-Err.ensures)

pub run_one-returns-in-Err-clause-watched : goal.run_one-returns-in-Err-clause-watched
run_one-returns-in-Err-clause-watched g t c =
    let table = c.args.symbols.now in
    let scope = c.args.state.now.scope in
    let n = c.args.number in
    let old = memory_of c.args.state.now.store in
    let is = ap stmt_tree c.in-If.is ∙ stmt_tree-If c.in-If.condition c.in-If.then_part c.in-If.else_part in
    let a = stmt_trees c.in-If.then_part.items in
    let b = stmt_trees c.in-If.else_part.items in
    subst (λ (x : StmtTree). Watched g.W.Watch.follows c.args.watch.now c.watched_truth.new.watch scope (before scope n) old.cells (Err c.in-Err.error) (run (setting_by table) x n scope)) (sym is)
    (truth_error_watched g.W.Watch.follows table scope n old c.requires.ready (cond_tree c.in-If.condition) a b c.args.watch.now c.watched_truth.new.watch c.in-Err.error c.in-Err.ensures)

pub run_one-returns-in-Do-clause-told : goal.run_one-returns-in-Do-clause-told
run_one-returns-in-Do-clause-told g t c =
    subst (λ (x : StmtTree). HasRun c.args.symbols.now c.args.state.now.scope c.args.number (memory_of c.args.state.now.store) c.run_do.result (memory_of c.run_do.new.state.store) x)
    (sym (ap stmt_tree c.in-Do.is ∙ tree-Do c.in-Do.d)) c.run_do.ensures.told

pub run_one-returns-in-Stop-clause-told : goal.run_one-returns-in-Stop-clause-told
run_one-returns-in-Stop-clause-told g t c =
    subst (λ (x : StmtTree). HasRun c.args.symbols.now c.args.state.now.scope c.args.number (memory_of c.args.state.now.store) (Ok flow.Stopped) (memory_of c.args.state.now.store) x)
    (sym (ap stmt_tree c.in-Stop.is ∙ tree-Stop)) (stop_run c.args.symbols.now c.args.state.now.scope c.args.number (memory_of c.args.state.now.store))

pub run_all-run_one-requires : goal.run_all-run_one-requires
run_all-run_one-requires g t c =
    let table = c.args.symbols.now in
    let scope = c.args.state.now.scope in
    let inv = c.loop-stmt.invariant in
    let n = c.loop-stmt.number in
    let left = stmts_left c.args.stmts.now c.loop-stmt.stmt-index c.stmt-item.result c.loop-stmt-test.true c.stmt-item.is in
    let can = first_can table scope n (stmt_tree c.stmt-item.result) (stmt_trees (drop (c.loop-stmt.stmt-index + 1) c.args.stmts.now)) (subst (λ (ts : StmtTrees). CanRun table scope n ts) left inv.can) in
    λ κs h. (search (rules, the_lemmas), ((λ a b. h a b), (subst (λ (k : Scope). CanDo table k n (stmt_tree c.stmt-item.result)) (sym inv.scope) can, subst (λ (k : Scope). IsReady table k (memory_of c.loop-stmt.state.store)) (sym inv.scope) inv.ready)))

pub run_all-returns-in-Ok-Stopped-clause-told : goal.run_all-returns-in-Ok-Stopped-clause-told
run_all-returns-in-Ok-Stopped-clause-told g t c s a =
    let p = setting_by c.args.symbols.now in
    let scope = c.args.state.now.scope in
    let inv = c.loop-stmt.invariant in
    let n = c.loop-stmt.number in
    let tree = stmt_tree c.stmt-item.result in
    let rest = stmt_trees (drop (c.loop-stmt.stmt-index + 1) c.args.stmts.now) in
    let kept = memory_of c.loop-stmt.state.store in
    let new = memory_of c.run_one.new.state.store in
    let whole : Ending = (run_all p (stmt_trees c.args.stmts.now) c.args.first scope s).ending in
    let left = stmts_left c.args.stmts.now c.loop-stmt.stmt-index c.stmt-item.result c.loop-stmt-test.true c.stmt-item.is in
    let reach = subst (λ (ts : StmtTrees). Reaches scope (before scope n) kept.cells (λ u. (run_all p ts n scope u).ending) whole) left (inv.run s a) in
    let told_there : Ran c.loop-stmt.state.scope n kept (n + statement_count tree) (Ok flow.Stopped) new (run p tree n c.loop-stmt.state.scope) =
    subst (λ (x : Flow). Ran c.loop-stmt.state.scope n kept (n + statement_count tree) (Ok x) new (run p tree n c.loop-stmt.state.scope)) c.in-Ok-Stopped.field-0-is c.in-Ok-Stopped.ensures.told in
    let told : Ran scope n kept (n + statement_count tree) (Ok flow.Stopped) new (run p tree n scope) =
    subst (λ (k : Scope). Ran k n kept (n + statement_count tree) (Ok flow.Stopped) new (run p tree n k)) inv.scope told_there in
    statement_broken p scope tree rest n [] (Ok flow.Stopped) kept.cells new.cells whole tt reach told

pub run_all-returns-in-Ok-Stopped-clause-watched : goal.run_all-returns-in-Ok-Stopped-clause-watched
run_all-returns-in-Ok-Stopped-clause-watched g t c s a =
    let p = setting_by c.args.symbols.now in
    let scope = c.args.state.now.scope in
    let inv = c.loop-stmt.invariant in
    let n = c.loop-stmt.number in
    let tree = stmt_tree c.stmt-item.result in
    let rest = stmt_trees (drop (c.loop-stmt.stmt-index + 1) c.args.stmts.now) in
    let kept = memory_of c.loop-stmt.state.store in
    let new = memory_of c.run_one.new.state.store in
    let follows = g.W.Watch.follows in
    let whole = accesses (run_all p (stmt_trees c.args.stmts.now) c.args.first scope s).acts in
    let left = stmts_left c.args.stmts.now c.loop-stmt.stmt-index c.stmt-item.result c.loop-stmt-test.true c.stmt-item.is in
    let awaits = subst (λ (ts : StmtTrees). Awaits follows c.args.watch.now c.loop-stmt.watch scope (before scope n) kept.cells (run_all p ts n scope) whole) left (inv.told s a) in
    let told_there : Ran c.loop-stmt.state.scope n kept (n + statement_count tree) (Ok flow.Stopped) new (run p tree n c.loop-stmt.state.scope) =
    subst (λ (x : Flow). Ran c.loop-stmt.state.scope n kept (n + statement_count tree) (Ok x) new (run p tree n c.loop-stmt.state.scope)) c.in-Ok-Stopped.field-0-is c.in-Ok-Stopped.ensures.told in
    let told : Ran scope n kept (n + statement_count tree) (Ok flow.Stopped) new (run p tree n scope) =
    subst (λ (k : Scope). Ran k n kept (n + statement_count tree) (Ok flow.Stopped) new (run p tree n k)) inv.scope told_there in
    let watched : Watched follows c.loop-stmt.watch c.run_one.new.watch scope (before scope n) kept.cells (Ok flow.Stopped) (run p tree n scope) =
    subst (λ (k : Scope). Watched follows c.loop-stmt.watch c.run_one.new.watch k (before k n) kept.cells (Ok flow.Stopped) (run p tree n k)) inv.scope c.in-Ok-Stopped.ensures.watched in
    statement_told_broken follows c.args.watch.now p scope tree rest n c.loop-stmt.watch c.run_one.new.watch kept.cells new.cells whole awaits (Ok flow.Stopped) tt told watched

pub run_all-returns-in-Err-clause-told : goal.run_all-returns-in-Err-clause-told
run_all-returns-in-Err-clause-told g t c s a =
    let p = setting_by c.args.symbols.now in
    let scope = c.args.state.now.scope in
    let inv = c.loop-stmt.invariant in
    let n = c.loop-stmt.number in
    let tree = stmt_tree c.stmt-item.result in
    let rest = stmt_trees (drop (c.loop-stmt.stmt-index + 1) c.args.stmts.now) in
    let kept = memory_of c.loop-stmt.state.store in
    let new = memory_of c.run_one.new.state.store in
    let whole : Ending = (run_all p (stmt_trees c.args.stmts.now) c.args.first scope s).ending in
    let left = stmts_left c.args.stmts.now c.loop-stmt.stmt-index c.stmt-item.result c.loop-stmt-test.true c.stmt-item.is in
    let reach = subst (λ (ts : StmtTrees). Reaches scope (before scope n) kept.cells (λ u. (run_all p ts n scope u).ending) whole) left (inv.run s a) in
    let told : Ran scope n kept (n + statement_count tree) (Err c.in-Err.error) new (run p tree n scope) =
    subst (λ (k : Scope). Ran k n kept (n + statement_count tree) (Err c.in-Err.error) new (run p tree n k)) inv.scope c.in-Err.ensures.told in
    statement_broken p scope tree rest n (before scope (c.args.first + statements_count (stmt_trees c.args.stmts.now))) (Err c.in-Err.error) kept.cells new.cells whole tt reach told

pub run_all-returns-in-Err-clause-watched : goal.run_all-returns-in-Err-clause-watched
run_all-returns-in-Err-clause-watched g t c s a =
    let p = setting_by c.args.symbols.now in
    let scope = c.args.state.now.scope in
    let inv = c.loop-stmt.invariant in
    let n = c.loop-stmt.number in
    let tree = stmt_tree c.stmt-item.result in
    let rest = stmt_trees (drop (c.loop-stmt.stmt-index + 1) c.args.stmts.now) in
    let kept = memory_of c.loop-stmt.state.store in
    let new = memory_of c.run_one.new.state.store in
    let follows = g.W.Watch.follows in
    let whole = accesses (run_all p (stmt_trees c.args.stmts.now) c.args.first scope s).acts in
    let left = stmts_left c.args.stmts.now c.loop-stmt.stmt-index c.stmt-item.result c.loop-stmt-test.true c.stmt-item.is in
    let awaits = subst (λ (ts : StmtTrees). Awaits follows c.args.watch.now c.loop-stmt.watch scope (before scope n) kept.cells (run_all p ts n scope) whole) left (inv.told s a) in
    let told : Ran scope n kept (n + statement_count tree) (Err c.in-Err.error) new (run p tree n scope) =
    subst (λ (k : Scope). Ran k n kept (n + statement_count tree) (Err c.in-Err.error) new (run p tree n k)) inv.scope c.in-Err.ensures.told in
    let watched : Watched follows c.loop-stmt.watch c.run_one.new.watch scope (before scope n) kept.cells (Err c.in-Err.error) (run p tree n scope) =
    subst (λ (k : Scope). Watched follows c.loop-stmt.watch c.run_one.new.watch k (before k n) kept.cells (Err c.in-Err.error) (run p tree n k)) inv.scope c.in-Err.ensures.watched in
    statement_told_broken follows c.args.watch.now p scope tree rest n c.loop-stmt.watch c.run_one.new.watch kept.cells new.cells whole awaits (Err c.in-Err.error) tt told watched

pub run_all-loop-stmt-preserved : goal.run_all-loop-stmt-preserved
run_all-loop-stmt-preserved g t c =
    let table = c.args.symbols.now in
    let p = setting_by c.args.symbols.now in
    let scope = c.args.state.now.scope in
    let inv = c.loop-stmt.invariant in
    let n = c.loop-stmt.number in
    let i = c.loop-stmt.stmt-index in
    let tree = stmt_tree c.stmt-item.result in
    let rest = stmt_trees (drop (i + 1) c.args.stmts.now) in
    let kept = memory_of c.loop-stmt.state.store in
    let new = memory_of c.run_one.new.state.store in
    let going : StaysReady table (Ok flow.Going) c.loop-stmt.state.scope c.run_one.new.state.scope new =
    subst (λ (x : Flow). StaysReady table (Ok x) c.loop-stmt.state.scope c.run_one.new.state.scope new) c.in-Ok-Going.field-0-is c.in-Ok-Going.ensures.ready in
    let told_there : Ran c.loop-stmt.state.scope n kept (n + statement_count tree) (Ok flow.Going) new (run p tree n c.loop-stmt.state.scope) =
    subst (λ (x : Flow). Ran c.loop-stmt.state.scope n kept (n + statement_count tree) (Ok x) new (run p tree n c.loop-stmt.state.scope)) c.in-Ok-Going.field-0-is c.in-Ok-Going.ensures.told in
    let left : stmt_trees (drop i c.args.stmts.now) ≡ more_stmts tree rest = stmts_left c.args.stmts.now i c.stmt-item.result c.loop-stmt-test.true c.stmt-item.is in
    let same : c.run_one.new.state.scope ≡ scope = going.0 ∙ inv.scope in
    let count : c.count_statement-number.result ≡ statement_count tree = c.count_statement-number.ensures in
    let counts : statements_count (stmt_trees (drop i c.args.stmts.now)) ≡ statement_count tree + statements_count rest = ap statements_count left in
    let behind : n + statements_count (stmt_trees (drop i c.args.stmts.now)) ≡ c.args.first + statements_count (stmt_trees c.args.stmts.now) = inv.behind in
    let told : Ran scope n kept (n + statement_count tree) (Ok flow.Going) new (run p tree n scope) =
    subst (λ (k : Scope). Ran k n kept (n + statement_count tree) (Ok flow.Going) new (run p tree n k)) inv.scope told_there in
    let follows = g.W.Watch.follows in
    let watched : Watched follows c.loop-stmt.watch c.run_one.new.watch scope (before scope n) kept.cells (Ok flow.Going) (run p tree n scope) =
    subst (λ (k : Scope). Watched follows c.loop-stmt.watch c.run_one.new.watch k (before k n) kept.cells (Ok flow.Going) (run p tree n k)) inv.scope c.in-Ok-Going.ensures.watched in
    record {
      scope = same;
      ready = subst (λ (k : Scope). IsReady table k new) same going.1;
      can = subst (λ (k : ℕ). CanRun table scope (n + k) rest) (sym count) (rest_can table scope n tree rest (subst (λ (ts : StmtTrees). CanRun table scope n ts) left inv.can));
      behind = omega (arith, count, counts, behind);
      run = λ s a.
          let whole : Ending = (run_all p (stmt_trees c.args.stmts.now) c.args.first scope s).ending in
          let reach = subst (λ (ts : StmtTrees). Reaches scope (before scope n) kept.cells (λ u. (run_all p ts n scope u).ending) whole) left (inv.run s a) in
          subst (λ (k : ℕ). Reaches scope (before scope (n + k)) new.cells (λ u. (run_all p rest (n + k) scope u).ending) whole) (sym count) (statement_done p scope tree rest n kept.cells new.cells whole reach told);
      told = λ s a.
          let whole = accesses (run_all p (stmt_trees c.args.stmts.now) c.args.first scope s).acts in
          let awaits = subst (λ (ts : StmtTrees). Awaits follows c.args.watch.now c.loop-stmt.watch scope (before scope n) kept.cells (run_all p ts n scope) whole) left (inv.told s a) in
          subst (λ (k : ℕ). Awaits follows c.args.watch.now c.run_one.new.watch scope (before scope (n + k)) new.cells (run_all p rest (n + k) scope) whole) (sym count)
          (statement_told follows c.args.watch.now p scope tree rest n c.loop-stmt.watch c.run_one.new.watch kept.cells new.cells whole awaits told watched);
    }

pub run_all-returns-clause-told : goal.run_all-returns-clause-told
run_all-returns-clause-told g t c s a =
    let p = setting_by c.args.symbols.now in
    let scope = c.args.state.now.scope in
    let inv = c.loop-stmt.invariant in
    let n = c.loop-stmt.number in
    let i = c.loop-stmt.stmt-index in
    let stmts = c.args.stmts.now in
    let kept = memory_of c.loop-stmt.state.store in
    let whole : Ending = (run_all p (stmt_trees stmts) c.args.first scope s).ending in
    let past : length stmts ≤ i = omega (arith, c.loop-stmt-test.false) in
    let none : stmt_trees (drop i stmts) ≡ no_stmts = ap stmt_trees (drop_all i stmts past) in
    let reach = subst (λ (ts : StmtTrees). Reaches scope (before scope n) kept.cells (λ u. (run_all p ts n scope u).ending) whole) none (inv.run s a) in
    let counts : statements_count (stmt_trees (drop i stmts)) ≡ 0 = ap statements_count none in
    let behind : n + statements_count (stmt_trees (drop i stmts)) ≡ c.args.first + statements_count (stmt_trees stmts) = inv.behind in
    let end : n ≡ c.args.first + statements_count (stmt_trees stmts) = omega (arith, counts, behind) in
    subst (λ (e : Ending). Goes scope (before scope (c.args.first + statements_count (stmt_trees stmts))) kept.cells e) reach.2
    (subst (λ (k : ℕ). Agrees scope (before scope k) kept.cells reach.0) end reach.1)

pub run_all-returns-clause-watched : goal.run_all-returns-clause-watched
run_all-returns-clause-watched g t c s a =
    let p = setting_by c.args.symbols.now in
    let scope = c.args.state.now.scope in
    let inv = c.loop-stmt.invariant in
    let n = c.loop-stmt.number in
    let i = c.loop-stmt.stmt-index in
    let stmts = c.args.stmts.now in
    let kept = memory_of c.loop-stmt.state.store in
    let whole = accesses (run_all p (stmt_trees stmts) c.args.first scope s).acts in
    let past : length stmts ≤ i = omega (arith, c.loop-stmt-test.false) in
    let none : stmt_trees (drop i stmts) ≡ no_stmts = ap stmt_trees (drop_all i stmts past) in
    let awaits = subst (λ (ts : StmtTrees). Awaits g.W.Watch.follows c.args.watch.now c.loop-stmt.watch scope (before scope n) kept.cells (run_all p ts n scope) whole) none (inv.told s a) in
    awaits.2 c.loop-stmt.watch refl

pub run_turns-loop-earlier-init : goal.run_turns-loop-earlier-init
run_turns-loop-earlier-init g t c =
    let table = c.args.symbols.now in
    let scope = c.args.state.now.scope in
    let n = c.args.plan.now.number in
    let body = body_run (setting_by table) (stmt_trees c.args.d.now.body.items) n scope in
    let store = c.enter_loop.ensures.store in
    record {
      scope = c.in_ok-enter_loop.ensures.scope;
      ready = subst (λ (k : Kept). IsReady table scope (memory_of k)) (sym store) c.requires.ready;
      run = λ behind s a m q.
          let agrees : Agrees scope (before_turn scope n 1) (memory_of c.args.state.now.store).cells s = agrees_later scope (before scope n) (before_turn scope n 1) (memory_of c.args.state.now.store).cells s (first_turn scope n 1) a in
          let count : m ≡ c.args.plan.now.count = omega (arith, q) in
          (s, subst (λ (k : Kept). Agrees scope (before_turn scope n 1) (memory_of k).cells s) (sym store) agrees, ap (λ (k : ℕ). turns_end k 1 (entered_by (head_of c.args.d.now) c.args.plan.now behind) scope body s) count);
      told = λ s a m q.
          let agrees : Agrees scope (before_turn scope n 1) (memory_of c.args.state.now.store).cells s = agrees_later scope (before scope n) (before_turn scope n 1) (memory_of c.args.state.now.store).cells s (first_turn scope n 1) a in
          let count : m ≡ c.args.plan.now.count = omega (arith, q) in (
            s,
            subst (λ (k : Kept). Agrees scope (before_turn scope n 1) (memory_of k).cells s) (sym store) agrees,
            λ last f. subst (λ (k : ℕ). Follow g.W.Watch.follows c.args.watch.now (accesses (turns_run k 1 (entered_by (head_of c.args.d.now) c.args.plan.now c.args.plan.now.behind) scope (place_by n scope) body s).acts) last) count f,
          );
    }

pub run_turns-run_turn-requires : goal.run_turns-run_turn-requires
run_turns-run_turn-requires g t c =
    let table = c.args.symbols.now in
    let scope = c.args.state.now.scope in
    let inv = c.loop-earlier.invariant in
    let e = entered_by (head_of c.args.d.now) c.args.plan.now 0 in
    let out : outside c.loop-earlier.state.scope ≡ scope = ap outside inv.scope in
    let kept = memory_of c.loop-earlier.state.store in
    let can = subst (λ (k : Scope). CanDo table k c.args.plan.now.number (do_tree c.args.d.now)) (sym out) c.requires.can in
    let ready = subst (λ (k : Scope). IsReady table k kept) (sym out) inv.ready in
    let inside : c.loop-earlier.state.scope ≡ frame e c.loop-earlier.earlier ∷ outside c.loop-earlier.state.scope = inv.scope ∙ ap (λ (k : Scope). frame e c.loop-earlier.earlier ∷ k) (sym out) in
    λ κs h. (search rules, ((λ a b. h a b), (can, (ready, (c.requires.plan, (c.loop-earlier-test.true, inside))))))

pub run_turns-returns-in-Ok-Stopped-clause-told : goal.run_turns-returns-in-Ok-Stopped-clause-told
run_turns-returns-in-Ok-Stopped-clause-told g t c behind s a =
    let p = setting_by c.args.symbols.now in
    let scope = c.args.state.now.scope in
    let n = c.args.plan.now.number in
    let ts = stmt_trees c.args.d.now.body.items in
    let inv = c.loop-earlier.invariant in
    let k = c.loop-earlier.earlier in
    let e = entered_by (head_of c.args.d.now) c.args.plan.now behind in
    let out : outside c.loop-earlier.state.scope ≡ scope = ap outside inv.scope in
    let kept = memory_of c.loop-earlier.state.store in
    let new = memory_of c.run_turn.new.state.store in
    let m : ℕ = c.args.plan.now.count - (k + 1) in
    let less : k < c.args.plan.now.count = c.loop-earlier-test.true in
    let more : suc m + k ≡ c.args.plan.now.count = omega (arith, less) in
    let at : Scope = outside c.loop-earlier.state.scope in
    let told_there : TellsFrom at (before_turn at n (k + 1)) kept.cells (before_turn at n (k + 2)) (Ok flow.Stopped) new.cells (λ u. (body_run p ts n at (frame e (k + 1)) u).ending) =
    subst (λ (x : Flow). TellsFrom at (before_turn at n (k + 1)) kept.cells (before_turn at n (k + 2)) (Ok x) new.cells (λ u. (body_run p ts n at (frame e (k + 1)) u).ending)) c.in-Ok-Stopped.field-0-is c.in-Ok-Stopped.ensures.told in
    let told : TellsFrom scope (before_turn scope n (k + 1)) kept.cells (before_turn scope n (k + 2)) (Ok flow.Stopped) new.cells (λ u. (body_run p ts n scope (frame e (k + 1)) u).ending) =
    subst (λ (o : Scope). TellsFrom o (before_turn o n (k + 1)) kept.cells (before_turn o n (k + 2)) (Ok flow.Stopped) new.cells (λ u. (body_run p ts n o (frame e (k + 1)) u).ending)) out told_there in
    tells_broken scope (before_turn scope n (k + 1)) (before_turn scope n (k + 2)) [] (Ok flow.Stopped) kept.cells new.cells (λ u. (body_run p ts n scope (frame e (k + 1)) u).ending) (turns_end m (k + 1 + 1) e scope (body_run p ts n scope))
    (turns_end c.args.plan.now.count 1 e scope (body_run p ts n scope) s) tt (inv.run behind s a (suc m) more) told

pub run_turns-returns-in-Ok-Stopped-clause-watched : goal.run_turns-returns-in-Ok-Stopped-clause-watched
run_turns-returns-in-Ok-Stopped-clause-watched g t c s a =
    let p = setting_by c.args.symbols.now in
    let scope = c.args.state.now.scope in
    let n = c.args.plan.now.number in
    let ts = stmt_trees c.args.d.now.body.items in
    let inv = c.loop-earlier.invariant in
    let k = c.loop-earlier.earlier in
    let e = entered_by (head_of c.args.d.now) c.args.plan.now c.args.plan.now.behind in
    let out : outside c.loop-earlier.state.scope ≡ scope = ap outside inv.scope in
    let kept = memory_of c.loop-earlier.state.store in
    let new = memory_of c.run_turn.new.state.store in
    let m : ℕ = c.args.plan.now.count - (k + 1) in
    let less : k < c.args.plan.now.count = c.loop-earlier-test.true in
    let more : suc m + k ≡ c.args.plan.now.count = omega (arith, less) in
    let at : Scope = outside c.loop-earlier.state.scope in
    let told_there : TellsFrom at (before_turn at n (k + 1)) kept.cells (before_turn at n (k + 2)) (Ok flow.Stopped) new.cells (λ u. (body_run p ts n at (frame e (k + 1)) u).ending) =
    subst (λ (x : Flow). TellsFrom at (before_turn at n (k + 1)) kept.cells (before_turn at n (k + 2)) (Ok x) new.cells (λ u. (body_run p ts n at (frame e (k + 1)) u).ending)) c.in-Ok-Stopped.field-0-is c.in-Ok-Stopped.ensures.told in
    let told : TellsFrom scope (before_turn scope n (k + 1)) kept.cells (before_turn scope n (k + 2)) (Ok flow.Stopped) new.cells (λ u. (body_run p ts n scope (frame e (k + 1)) u).ending) =
    subst (λ (o : Scope). TellsFrom o (before_turn o n (k + 1)) kept.cells (before_turn o n (k + 2)) (Ok flow.Stopped) new.cells (λ u. (body_run p ts n o (frame e (k + 1)) u).ending)) out told_there in
    let follows = g.W.Watch.follows in
    let at_place = place_by n scope in
    let watched : Watched follows c.loop-earlier.watch c.run_turn.new.watch scope (before_turn scope n (k + 1)) kept.cells (Ok flow.Stopped) (body_run p ts n scope (frame e (k + 1))) =
    subst (λ (o : Scope). Watched follows c.loop-earlier.watch c.run_turn.new.watch o (before_turn o n (k + 1)) kept.cells (Ok flow.Stopped) (body_run p ts n o (frame e (k + 1)))) out c.in-Ok-Stopped.ensures.watched in
    awaits_broken follows c.args.watch.now c.loop-earlier.watch c.run_turn.new.watch scope (before_turn scope n (k + 1)) (before_turn scope n (k + 2)) (Ok flow.Stopped) kept.cells new.cells (body_run p ts n scope (frame e (k + 1)))
    (turns_run m (k + 1 + 1) e scope at_place (body_run p ts n scope)) (accesses (turns_run c.args.plan.now.count 1 e scope at_place (body_run p ts n scope) s).acts) tt (inv.told s a (suc m) more) told watched

pub run_turns-returns-in-Err-clause-told : goal.run_turns-returns-in-Err-clause-told
run_turns-returns-in-Err-clause-told g t c behind s a =
    let p = setting_by c.args.symbols.now in
    let scope = c.args.state.now.scope in
    let n = c.args.plan.now.number in
    let ts = stmt_trees c.args.d.now.body.items in
    let inv = c.loop-earlier.invariant in
    let k = c.loop-earlier.earlier in
    let e = entered_by (head_of c.args.d.now) c.args.plan.now behind in
    let out : outside c.loop-earlier.state.scope ≡ scope = ap outside inv.scope in
    let kept = memory_of c.loop-earlier.state.store in
    let new = memory_of c.run_turn.new.state.store in
    let m : ℕ = c.args.plan.now.count - (k + 1) in
    let less : k < c.args.plan.now.count = c.loop-earlier-test.true in
    let more : suc m + k ≡ c.args.plan.now.count = omega (arith, less) in
    let r : Result Flow RunError = Err c.in-Err.error in
    let told : TellsFrom scope (before_turn scope n (k + 1)) kept.cells (before_turn scope n (k + 2)) r new.cells (λ u. (body_run p ts n scope (frame e (k + 1)) u).ending) =
    subst (λ (o : Scope). TellsFrom o (before_turn o n (k + 1)) kept.cells (before_turn o n (k + 2)) r new.cells (λ u. (body_run p ts n o (frame e (k + 1)) u).ending)) out c.in-Err.ensures.told in
    tells_broken scope (before_turn scope n (k + 1)) (before_turn scope n (k + 2)) (before scope (n + (statements_count ts + 1))) r kept.cells new.cells (λ u. (body_run p ts n scope (frame e (k + 1)) u).ending) (turns_end m (k + 1 + 1) e scope (body_run p ts n scope))
    (turns_end c.args.plan.now.count 1 e scope (body_run p ts n scope) s) tt (inv.run behind s a (suc m) more) told

pub run_turns-returns-in-Err-clause-watched : goal.run_turns-returns-in-Err-clause-watched
run_turns-returns-in-Err-clause-watched g t c s a =
    let p = setting_by c.args.symbols.now in
    let scope = c.args.state.now.scope in
    let n = c.args.plan.now.number in
    let ts = stmt_trees c.args.d.now.body.items in
    let inv = c.loop-earlier.invariant in
    let k = c.loop-earlier.earlier in
    let e = entered_by (head_of c.args.d.now) c.args.plan.now c.args.plan.now.behind in
    let out : outside c.loop-earlier.state.scope ≡ scope = ap outside inv.scope in
    let kept = memory_of c.loop-earlier.state.store in
    let new = memory_of c.run_turn.new.state.store in
    let m : ℕ = c.args.plan.now.count - (k + 1) in
    let less : k < c.args.plan.now.count = c.loop-earlier-test.true in
    let more : suc m + k ≡ c.args.plan.now.count = omega (arith, less) in
    let r : Result Flow RunError = Err c.in-Err.error in
    let told : TellsFrom scope (before_turn scope n (k + 1)) kept.cells (before_turn scope n (k + 2)) r new.cells (λ u. (body_run p ts n scope (frame e (k + 1)) u).ending) =
    subst (λ (o : Scope). TellsFrom o (before_turn o n (k + 1)) kept.cells (before_turn o n (k + 2)) r new.cells (λ u. (body_run p ts n o (frame e (k + 1)) u).ending)) out c.in-Err.ensures.told in
    let follows = g.W.Watch.follows in
    let at_place = place_by n scope in
    let watched : Watched follows c.loop-earlier.watch c.run_turn.new.watch scope (before_turn scope n (k + 1)) kept.cells r (body_run p ts n scope (frame e (k + 1))) =
    subst (λ (o : Scope). Watched follows c.loop-earlier.watch c.run_turn.new.watch o (before_turn o n (k + 1)) kept.cells r (body_run p ts n o (frame e (k + 1)))) out c.in-Err.ensures.watched in
    awaits_broken follows c.args.watch.now c.loop-earlier.watch c.run_turn.new.watch scope (before_turn scope n (k + 1)) (before_turn scope n (k + 2)) r kept.cells new.cells (body_run p ts n scope (frame e (k + 1)))
    (turns_run m (k + 1 + 1) e scope at_place (body_run p ts n scope)) (accesses (turns_run c.args.plan.now.count 1 e scope at_place (body_run p ts n scope) s).acts) tt (inv.told s a (suc m) more) told watched

pub run_turns-loop-earlier-preserved : goal.run_turns-loop-earlier-preserved
run_turns-loop-earlier-preserved g t c =
    let table = c.args.symbols.now in
    let p = setting_by table in
    let scope = c.args.state.now.scope in
    let n = c.args.plan.now.number in
    let ts = stmt_trees c.args.d.now.body.items in
    let inv = c.loop-earlier.invariant in
    let k = c.loop-earlier.earlier in
    let first = entered_by (head_of c.args.d.now) c.args.plan.now 0 in
    let out : outside c.loop-earlier.state.scope ≡ scope = ap outside inv.scope in
    let kept = memory_of c.loop-earlier.state.store in
    let new = memory_of c.run_turn.new.state.store in
    let ready_there : (c.run_turn.new.state.scope ≡ frame first (k + 1) ∷ outside c.loop-earlier.state.scope) × IsReady table (outside c.loop-earlier.state.scope) new =
    subst (λ (x : Flow). OnGoing (Ok x) ((c.run_turn.new.state.scope ≡ frame first (k + 1) ∷ outside c.loop-earlier.state.scope) × IsReady table (outside c.loop-earlier.state.scope) new)) c.in-Ok-Going.field-0-is c.in-Ok-Going.ensures.ready in
    let two : k + 2 ≡ k + 1 + 1 = omega arith in
    let at : Scope = outside c.loop-earlier.state.scope in
    let told_there : TellsFrom at (before_turn at n (k + 1)) kept.cells (before_turn at n (k + 2)) (Ok flow.Going) new.cells (λ u. (body_run p ts n at (frame first (k + 1)) u).ending) =
    subst (λ (x : Flow). TellsFrom at (before_turn at n (k + 1)) kept.cells (before_turn at n (k + 2)) (Ok x) new.cells (λ u. (body_run p ts n at (frame first (k + 1)) u).ending)) c.in-Ok-Going.field-0-is c.in-Ok-Going.ensures.told in
    let told : TellsFrom scope (before_turn scope n (k + 1)) kept.cells (before_turn scope n (k + 2)) (Ok flow.Going) new.cells (λ u. (body_run p ts n scope (frame first (k + 1)) u).ending) =
    subst (λ (o : Scope). TellsFrom o (before_turn o n (k + 1)) kept.cells (before_turn o n (k + 2)) (Ok flow.Going) new.cells (λ u. (body_run p ts n o (frame first (k + 1)) u).ending)) out told_there in
    let next : TellsFrom scope (before_turn scope n (k + 1)) kept.cells (before_turn scope n (k + 1 + 1)) (Ok flow.Going) new.cells (λ u. (body_run p ts n scope (frame first (k + 1)) u).ending) =
    subst (λ (j : ℕ). TellsFrom scope (before_turn scope n (k + 1)) kept.cells (before_turn scope n j) (Ok flow.Going) new.cells (λ u. (body_run p ts n scope (frame first (k + 1)) u).ending)) two told in
    let follows = g.W.Watch.follows in
    let at_place = place_by n scope in
    let watched : Watched follows c.loop-earlier.watch c.run_turn.new.watch scope (before_turn scope n (k + 1)) kept.cells (Ok flow.Going) (body_run p ts n scope (frame first (k + 1))) =
    subst (λ (o : Scope). Watched follows c.loop-earlier.watch c.run_turn.new.watch o (before_turn o n (k + 1)) kept.cells (Ok flow.Going) (body_run p ts n o (frame first (k + 1)))) out c.in-Ok-Going.ensures.watched in
    record {
      scope = ready_there.0 ∙ ap (λ (o : Scope). frame first (k + 1) ∷ o) out;
      ready = subst (λ (o : Scope). IsReady table o new) out ready_there.1;
      run = λ behind s a m q.
          let e = entered_by (head_of c.args.d.now) c.args.plan.now behind in
          let more : suc m + k ≡ c.args.plan.now.count = omega (arith, q) in
          reaches_behind scope (before_turn scope n (k + 1)) (before_turn scope n (k + 1 + 1)) kept.cells new.cells (λ u. (body_run p ts n scope (frame e (k + 1)) u).ending) (turns_end m (k + 1 + 1) e scope (body_run p ts n scope))
          (turns_end c.args.plan.now.count 1 e scope (body_run p ts n scope) s) (inv.run behind s a (suc m) more) next;
      told = λ s a m q.
          let e = entered_by (head_of c.args.d.now) c.args.plan.now c.args.plan.now.behind in
          let more : suc m + k ≡ c.args.plan.now.count = omega (arith, q) in
          awaits_behind follows c.args.watch.now c.loop-earlier.watch c.run_turn.new.watch scope (before_turn scope n (k + 1)) (before_turn scope n (k + 1 + 1)) kept.cells new.cells (body_run p ts n scope (frame e (k + 1)))
          (turns_run m (k + 1 + 1) e scope at_place (body_run p ts n scope)) (accesses (turns_run c.args.plan.now.count 1 e scope at_place (body_run p ts n scope) s).acts) (inv.told s a (suc m) more) next watched;
    }

pub run_turns-leave_loop-requires-clause-variable : goal.run_turns-leave_loop-requires-clause-variable
run_turns-leave_loop-requires-clause-variable g t c =
    let table = c.args.symbols.now in
    let scope = c.args.state.now.scope in
    let inv = c.loop-earlier.invariant in
    let out : outside c.loop-earlier.state.scope ≡ scope = ap outside inv.scope in
    let kept = memory_of c.loop-earlier.state.store in
    let h = head_of c.args.d.now in
    let scalar : is_scalar (kinds_by table) h.variable ≡ true = variable_scalar (kinds_by table) h (head_can table scope c.args.plan.now.number h (stmt_trees c.args.d.now.body.items) c.requires.can) in
    subst (λ (o : Scope). kept.stands (cell_of o h.variable) ≡ true) (sym out) (cell_stands scope h.variable kept.stands (inv.ready.scalars h.variable scalar) inv.ready.copies)

pub run_turns-leave_loop-requires-clause-private : goal.run_turns-leave_loop-requires-clause-private
run_turns-leave_loop-requires-clause-private g t c =
    let table = c.args.symbols.now in
    let scope = c.args.state.now.scope in
    let inv = c.loop-earlier.invariant in
    let out : outside c.loop-earlier.state.scope ≡ scope = ap outside inv.scope in
    let kept = memory_of c.loop-earlier.state.store in
    let h = head_of c.args.d.now in
    let scalars : list_all (is_scalar (kinds_by table)) h.private ≡ true = private_scalars (kinds_by table) h (head_can table scope c.args.plan.now.number h (stmt_trees c.args.d.now.body.items) c.requires.can) in
    subst (λ (o : Scope). list_all (λ x. kept.stands (cell_of o x)) h.private ≡ true) (sym out) (scalars_stand table scope kept h.private inv.ready scalars)

pub run_turns-leave_loop-requires-clause-inner : goal.run_turns-leave_loop-requires-clause-inner
run_turns-leave_loop-requires-clause-inner g t c =
    let table = c.args.symbols.now in
    let scope = c.args.state.now.scope in
    let inv = c.loop-earlier.invariant in
    let out : outside c.loop-earlier.state.scope ≡ scope = ap outside inv.scope in
    let kept = memory_of c.loop-earlier.state.store in
    let h = head_of c.args.d.now in
    let ts = stmt_trees c.args.d.now.body.items in
    let scalars : list_all (is_scalar (kinds_by table)) (inner_variables h.parallel ts) ≡ true = inner_scalars (kinds_by table) h.parallel ts (body_right table scope c.args.plan.now.number h ts c.requires.can) in
    subst (λ (o : Scope). list_all (λ x. kept.stands (cell_of o x)) c.args.plan.now.inner ≡ true) (sym out)
    (subst (λ (xs : List (List ℕ)). list_all (λ x. kept.stands (cell_of scope x)) xs ≡ true) (sym c.requires.plan.inner) (scalars_stand table scope kept (inner_variables h.parallel ts) inv.ready scalars))

pub run_turns-returns-clause-told : goal.run_turns-returns-clause-told
run_turns-returns-clause-told g t c behind s a =
    let p = setting_by c.args.symbols.now in
    let scope = c.args.state.now.scope in
    let n = c.args.plan.now.number in
    let ts = stmt_trees c.args.d.now.body.items in
    let inv = c.loop-earlier.invariant in
    let k = c.loop-earlier.earlier in
    let e = entered_by (head_of c.args.d.now) c.args.plan.now behind in
    let out : outside c.loop-earlier.state.scope ≡ scope = ap outside inv.scope in
    let kept = memory_of c.loop-earlier.state.store in
    let done : zero + k ≡ c.args.plan.now.count = omega (arith, c.loop-earlier-test.false, c.loop-earlier.auto.earlier-end) in
    let some : 0 < statements_count ts + 1 = omega arith in
    let reach = inv.run behind s a zero done in
    let memory : memory_of c.leave_loop.new.state.store ≡ exited e scope kept = c.leave_loop.ensures.memory ∙ ap (λ (o : Scope). exited e o kept) out in
    let told : Goes scope (before scope (n + (statements_count ts + 1))) (exited e scope kept).cells (turns_end zero (k + 1) e scope (body_run p ts n scope) reach.0) =
    exit_tells e scope (body_run p ts n scope) n (statements_count ts + 1) (k + 1) kept some reach.0 reach.1 in
    subst (λ (m : Memory). Goes scope (before scope (n + (statements_count ts + 1))) m.cells (turns_end c.args.plan.now.count 1 e scope (body_run p ts n scope) s)) (sym memory)
    (subst (λ (x : Ending). Goes scope (before scope (n + (statements_count ts + 1))) (exited e scope kept).cells x) reach.2 told)

pub run_turns-returns-clause-watched : goal.run_turns-returns-clause-watched
run_turns-returns-clause-watched g t c s a =
    let p = setting_by c.args.symbols.now in
    let scope = c.args.state.now.scope in
    let n = c.args.plan.now.number in
    let ts = stmt_trees c.args.d.now.body.items in
    let inv = c.loop-earlier.invariant in
    let k = c.loop-earlier.earlier in
    let e = entered_by (head_of c.args.d.now) c.args.plan.now c.args.plan.now.behind in
    let out : outside c.loop-earlier.state.scope ≡ scope = ap outside inv.scope in
    let kept = memory_of c.loop-earlier.state.store in
    let done : zero + k ≡ c.args.plan.now.count = omega (arith, c.loop-earlier-test.false, c.loop-earlier.auto.earlier-end) in
    let follows = g.W.Watch.follows in
    let at_place = place_by n scope in
    let awaits = inv.told s a zero done in
    let same : c.leave_loop.new.state.scope ≡ scope = c.leave_loop.ensures.scope ∙ out in
    let told : Follow follows c.loop-earlier.watch (accesses_by n scope (noted (exit_touches e scope))) c.tell_exit.new.watch =
    subst (λ (o : Scope). Follow follows c.loop-earlier.watch (accesses_by n o (noted (exit_touches e o))) c.tell_exit.new.watch) same c.in_ok-tell_exit.ensures in
    awaits.2 c.tell_exit.new.watch (subst (λ (xs : List Access). Follow follows c.loop-earlier.watch xs c.tell_exit.new.watch) (sym (act_accesses closed at_place (exit_touches e scope))) told)

pub run_turns-returns-clause-ready : goal.run_turns-returns-clause-ready
run_turns-returns-clause-ready g t c =
    let table = c.args.symbols.now in
    let scope = c.args.state.now.scope in
    let inv = c.loop-earlier.invariant in
    let e = entered_by (head_of c.args.d.now) c.args.plan.now 0 in
    let out : outside c.loop-earlier.state.scope ≡ scope = ap outside inv.scope in
    let kept = memory_of c.loop-earlier.state.store in
    let new = memory_of c.leave_loop.new.state.store in
    let memory : new ≡ exited e scope kept = c.leave_loop.ensures.memory ∙ ap (λ (o : Scope). exited e o kept) out in
    let same : c.leave_loop.new.state.scope ≡ scope = c.leave_loop.ensures.scope ∙ out in
    (same, subst (λ (o : Scope). IsReady table o new) (sym same) (subst (λ (m : Memory). IsReady table scope m) (sym memory) (exit_ready table e scope kept inv.ready)))

pub run_turn-run_part-requires : goal.run_turn-run_part-requires
run_turn-run_part-requires g t c =
    let table = c.args.symbols.now in
    let n = c.args.plan.now.number in
    let old = memory_of c.args.state.now.store in
    let mid = memory_of c.open_turn.new.state.store in
    let fs = outside c.args.state.now.scope in
    let f = frame (entered_by (head_of c.args.d.now) c.args.plan.now 0) (c.args.earlier + 1) in
    let scope : c.open_turn.new.state.scope ≡ f ∷ fs = c.in_ok-open_turn.ensures.scope in
    let memory : mid ≡ with_copies (f ∷ fs) f.private old = c.in_ok-open_turn.ensures.copies ∙ (λ i. with_copies (scope i) (c.requires.plan.copied i) old) in
    let can : CanRun table (f ∷ fs) (n + 1) (stmt_trees c.args.d.now.body.items) = body_can table fs n (head_of c.args.d.now) (stmt_trees c.args.d.now.body.items) c.requires.can f in
    let here : CanRun table (f ∷ fs) (n + 1) (stmt_trees c.deref.result.now) = subst (λ (ss : List Stmt). CanRun table (f ∷ fs) (n + 1) (stmt_trees ss)) (sym c.deref.ensures.value) can in
    let ready : IsReady table (f ∷ fs) mid = subst (λ (m : Memory). IsReady table (f ∷ fs) m) (sym memory) (open_ready table f fs old c.requires.ready) in
    λ κs h. (search (rules, the_lemmas), ((λ a b. h a b), (subst (λ (o : Scope). CanRun table o (n + 1) (stmt_trees c.deref.result.now)) (sym scope) here, subst (λ (o : Scope). IsReady table o mid) (sym scope) ready)))

pub run_turn-close_copies-requires : goal.run_turn-close_copies-requires
run_turn-close_copies-requires g t c =
    let e = entered_by (head_of c.args.d.now) c.args.plan.now 0 in
    let fs = outside c.args.state.now.scope in
    let f = frame e (c.args.earlier + 1) in
    let ready_there : StaysReady c.args.symbols.now (Ok flow.Going) c.open_turn.new.state.scope c.run_part.new.state.scope (memory_of c.run_part.new.state.store) =
    subst (λ (x : Flow). StaysReady c.args.symbols.now (Ok x) c.open_turn.new.state.scope c.run_part.new.state.scope (memory_of c.run_part.new.state.store)) c.in-Ok-Going.field-0-is c.in-Ok-Going.ensures.ready in
    let same : c.run_part.new.state.scope ≡ f ∷ fs = ready_there.0 ∙ c.in_ok-open_turn.ensures.scope in
    (λ i. list_all (λ x. is_copy (cell_of (same i) x)) ((c.as_slice.ensures ∙ c.requires.plan.copied) i)) ∙ all_copies f fs (copied_names e) (all_among (copied_names e))

pub run_turn-returns-in-Ok-Going-clause-told : goal.run_turn-returns-in-Ok-Going-clause-told
run_turn-returns-in-Ok-Going-clause-told g t c =
    let p = setting_by c.args.symbols.now in
    let n = c.args.plan.now.number in
    let ts = stmt_trees c.args.d.now.body.items in
    let old = memory_of c.args.state.now.store in
    let mid = memory_of c.open_turn.new.state.store in
    let ran = memory_of c.run_part.new.state.store in
    let new = memory_of c.close_copies.new.state.store in
    let fs = outside c.args.state.now.scope in
    let f = frame (entered_by (head_of c.args.d.now) c.args.plan.now 0) (c.args.earlier + 1) in
    let scope : c.open_turn.new.state.scope ≡ f ∷ fs = c.in_ok-open_turn.ensures.scope in
    let memory : mid ≡ with_copies (f ∷ fs) f.private old = c.in_ok-open_turn.ensures.copies ∙ (λ i. with_copies (scope i) (c.requires.plan.copied i) old) in
    let ready_there : StaysReady c.args.symbols.now (Ok flow.Going) c.open_turn.new.state.scope c.run_part.new.state.scope (memory_of c.run_part.new.state.store) =
    subst (λ (x : Flow). StaysReady c.args.symbols.now (Ok x) c.open_turn.new.state.scope c.run_part.new.state.scope (memory_of c.run_part.new.state.store)) c.in-Ok-Going.field-0-is c.in-Ok-Going.ensures.ready in
    let same : c.run_part.new.state.scope ≡ f ∷ fs = ready_there.0 ∙ scope in
    let closed : new ≡ without_copies (f ∷ fs) f.private ran = c.close_copies.ensures.copies ∙ (λ i. without_copies (same i) ((c.as_slice.ensures ∙ c.requires.plan.copied) i) ran) in
    let told_there : Ran c.open_turn.new.state.scope (n + 1) mid (n + 1 + statements_count (stmt_trees c.deref.result.now)) (Ok flow.Going) ran (run_all p (stmt_trees c.deref.result.now) (n + 1) c.open_turn.new.state.scope) =
    subst (λ (x : Flow). Ran c.open_turn.new.state.scope (n + 1) mid (n + 1 + statements_count (stmt_trees c.deref.result.now)) (Ok x) ran (run_all p (stmt_trees c.deref.result.now) (n + 1) c.open_turn.new.state.scope)) c.in-Ok-Going.field-0-is c.in-Ok-Going.ensures.told in
    let part = turn_part p f fs n c.open_turn.new.state.scope c.deref.result.now c.args.d.now.body.items old mid ran (Ok flow.Going) scope memory c.deref.ensures.value told_there in
    let told = turn_goes f fs (n + 1) (n + 1 + statements_count ts) old (λ s. (run_all p ts (n + 1) (f ∷ fs) s).ending) ran part in
    let two : c.args.earlier + 1 + 1 ≡ c.args.earlier + 2 = omega arith in
    subst (λ (k : ℕ). TellsFrom fs (before_turn fs n (c.args.earlier + 1)) old.cells (before_turn fs n k) (Ok flow.Going) new.cells (λ s. (run_all p ts (n + 1) (f ∷ fs) s).ending)) two
    (subst (λ (m : Memory). TellsFrom fs (before_turn fs n (c.args.earlier + 1)) old.cells (before_turn fs n (c.args.earlier + 1 + 1)) (Ok flow.Going) m.cells (λ s. (run_all p ts (n + 1) (f ∷ fs) s).ending)) (sym closed) told)

pub run_turn-returns-in-Ok-Going-clause-watched : goal.run_turn-returns-in-Ok-Going-clause-watched
run_turn-returns-in-Ok-Going-clause-watched g t c =
    let n = c.args.plan.now.number in
    let old = memory_of c.args.state.now.store in
    let mid = memory_of c.open_turn.new.state.store in
    let fs = outside c.args.state.now.scope in
    let f = frame (entered_by (head_of c.args.d.now) c.args.plan.now 0) (c.args.earlier + 1) in
    let scope : c.open_turn.new.state.scope ≡ f ∷ fs = c.in_ok-open_turn.ensures.scope in
    let memory : mid ≡ with_copies (f ∷ fs) f.private old = c.in_ok-open_turn.ensures.copies ∙ (λ i. with_copies (scope i) (c.requires.plan.copied i) old) in
    turn_watched g.W.Watch.follows (setting_by c.args.symbols.now) f fs n c.open_turn.new.state.scope c.deref.result.now c.args.d.now.body.items old mid c.args.watch.now c.run_part.new.watch (Ok flow.Going) scope memory c.deref.ensures.value c.in-Ok-Going.ensures.watched

pub run_turn-returns-in-Ok-Going-clause-ready : goal.run_turn-returns-in-Ok-Going-clause-ready
run_turn-returns-in-Ok-Going-clause-ready g t c =
    let table = c.args.symbols.now in
    let ran = memory_of c.run_part.new.state.store in
    let new = memory_of c.close_copies.new.state.store in
    let fs = outside c.args.state.now.scope in
    let f = frame (entered_by (head_of c.args.d.now) c.args.plan.now 0) (c.args.earlier + 1) in
    let ready_there : StaysReady c.args.symbols.now (Ok flow.Going) c.open_turn.new.state.scope c.run_part.new.state.scope (memory_of c.run_part.new.state.store) =
    subst (λ (x : Flow). StaysReady c.args.symbols.now (Ok x) c.open_turn.new.state.scope c.run_part.new.state.scope (memory_of c.run_part.new.state.store)) c.in-Ok-Going.field-0-is c.in-Ok-Going.ensures.ready in
    let same : c.run_part.new.state.scope ≡ f ∷ fs = ready_there.0 ∙ c.in_ok-open_turn.ensures.scope in
    let closed : new ≡ without_copies (f ∷ fs) f.private ran = c.close_copies.ensures.copies ∙ (λ i. without_copies (same i) ((c.as_slice.ensures ∙ c.requires.plan.copied) i) ran) in
    let ready : IsReady table (f ∷ fs) ran = subst (λ (o : Scope). IsReady table o ran) same ready_there.1 in
    (c.close_copies.ensures.scope ∙ same, subst (λ (m : Memory). IsReady table fs m) (sym closed) (close_ready table f fs ran ready))

pub run_turn-returns-in-Ok-Stopped-clause-told : goal.run_turn-returns-in-Ok-Stopped-clause-told
run_turn-returns-in-Ok-Stopped-clause-told g t c =
    let p = setting_by c.args.symbols.now in
    let n = c.args.plan.now.number in
    let ts = stmt_trees c.args.d.now.body.items in
    let old = memory_of c.args.state.now.store in
    let mid = memory_of c.open_turn.new.state.store in
    let ran = memory_of c.run_part.new.state.store in
    let fs = outside c.args.state.now.scope in
    let f = frame (entered_by (head_of c.args.d.now) c.args.plan.now 0) (c.args.earlier + 1) in
    let scope : c.open_turn.new.state.scope ≡ f ∷ fs = c.in_ok-open_turn.ensures.scope in
    let memory : mid ≡ with_copies (f ∷ fs) f.private old = c.in_ok-open_turn.ensures.copies ∙ (λ i. with_copies (scope i) (c.requires.plan.copied i) old) in
    let told_there : Ran c.open_turn.new.state.scope (n + 1) mid (n + 1 + statements_count (stmt_trees c.deref.result.now)) (Ok flow.Stopped) ran (run_all p (stmt_trees c.deref.result.now) (n + 1) c.open_turn.new.state.scope) =
    subst (λ (x : Flow). Ran c.open_turn.new.state.scope (n + 1) mid (n + 1 + statements_count (stmt_trees c.deref.result.now)) (Ok x) ran (run_all p (stmt_trees c.deref.result.now) (n + 1) c.open_turn.new.state.scope)) c.in-Ok-Stopped.field-0-is c.in-Ok-Stopped.ensures.told in
    let part = turn_part p f fs n c.open_turn.new.state.scope c.deref.result.now c.args.d.now.body.items old mid ran (Ok flow.Stopped) scope memory c.deref.ensures.value told_there in
    turn_stops f fs (n + 1) (n + 1 + statements_count ts) old (λ s. (run_all p ts (n + 1) (f ∷ fs) s).ending) ran part

pub run_turn-returns-in-Ok-Stopped-clause-watched : goal.run_turn-returns-in-Ok-Stopped-clause-watched
run_turn-returns-in-Ok-Stopped-clause-watched g t c =
    let n = c.args.plan.now.number in
    let old = memory_of c.args.state.now.store in
    let mid = memory_of c.open_turn.new.state.store in
    let fs = outside c.args.state.now.scope in
    let f = frame (entered_by (head_of c.args.d.now) c.args.plan.now 0) (c.args.earlier + 1) in
    let scope : c.open_turn.new.state.scope ≡ f ∷ fs = c.in_ok-open_turn.ensures.scope in
    let memory : mid ≡ with_copies (f ∷ fs) f.private old = c.in_ok-open_turn.ensures.copies ∙ (λ i. with_copies (scope i) (c.requires.plan.copied i) old) in
    turn_watched g.W.Watch.follows (setting_by c.args.symbols.now) f fs n c.open_turn.new.state.scope c.deref.result.now c.args.d.now.body.items old mid c.args.watch.now c.run_part.new.watch (Ok flow.Stopped) scope memory c.deref.ensures.value c.in-Ok-Stopped.ensures.watched

pub run_turn-returns-in-Err-clause-told : goal.run_turn-returns-in-Err-clause-told
run_turn-returns-in-Err-clause-told g t c =
    let p = setting_by c.args.symbols.now in
    let n = c.args.plan.now.number in
    let ts = stmt_trees c.args.d.now.body.items in
    let old = memory_of c.args.state.now.store in
    let mid = memory_of c.open_turn.new.state.store in
    let ran = memory_of c.run_part.new.state.store in
    let fs = outside c.args.state.now.scope in
    let f = frame (entered_by (head_of c.args.d.now) c.args.plan.now 0) (c.args.earlier + 1) in
    let r : Result Flow RunError = Err c.in-Err.error in
    let scope : c.open_turn.new.state.scope ≡ f ∷ fs = c.in_ok-open_turn.ensures.scope in
    let memory : mid ≡ with_copies (f ∷ fs) f.private old = c.in_ok-open_turn.ensures.copies ∙ (λ i. with_copies (scope i) (c.requires.plan.copied i) old) in
    let part = turn_part p f fs n c.open_turn.new.state.scope c.deref.result.now c.args.d.now.body.items old mid ran r scope memory c.deref.ensures.value c.in-Err.ensures.told in
    let told = turn_fails f fs (n + 1) (n + 1 + statements_count ts) old (λ s. (run_all p ts (n + 1) (f ∷ fs) s).ending) c.in-Err.error ran part in
    let two : c.args.earlier + 1 + 1 ≡ c.args.earlier + 2 = omega arith in
    subst (λ (k : ℕ). TellsFrom fs (before_turn fs n (c.args.earlier + 1)) old.cells (before_turn fs n k) r ran.cells (λ s. (run_all p ts (n + 1) (f ∷ fs) s).ending)) two told

pub run_turn-returns-in-Err-clause-watched : goal.run_turn-returns-in-Err-clause-watched
run_turn-returns-in-Err-clause-watched g t c =
    let n = c.args.plan.now.number in
    let old = memory_of c.args.state.now.store in
    let mid = memory_of c.open_turn.new.state.store in
    let fs = outside c.args.state.now.scope in
    let f = frame (entered_by (head_of c.args.d.now) c.args.plan.now 0) (c.args.earlier + 1) in
    let scope : c.open_turn.new.state.scope ≡ f ∷ fs = c.in_ok-open_turn.ensures.scope in
    let memory : mid ≡ with_copies (f ∷ fs) f.private old = c.in_ok-open_turn.ensures.copies ∙ (λ i. with_copies (scope i) (c.requires.plan.copied i) old) in
    turn_watched g.W.Watch.follows (setting_by c.args.symbols.now) f fs n c.open_turn.new.state.scope c.deref.result.now c.args.d.now.body.items old mid c.args.watch.now c.run_part.new.watch (Err c.in-Err.error) scope memory c.deref.ensures.value c.in-Err.ensures.watched
