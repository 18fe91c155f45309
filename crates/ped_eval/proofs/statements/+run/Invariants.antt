use Rattle.std.proofs.Common.{◌≡◌, ◌+◌, ◌∷◌, ℕ, drop}
use Rattle.ped_tree.specs.Views.{stmt_trees}
use Rattle.ped_tree.specs.Numbering.{statements_count}
use Rattle.ped_store.specs.Stores.{Store}
use Rattle.ped_store.specs.Keeping.{memory_of}
use Rattle.ped_eval.specs.Runs.{run_all}
use Rattle.ped_eval.specs.Loops.{frame}
use Rattle.ped_eval.specs.Readiness.{setting_by, IsReady, CanRun}
use Rattle.ped_eval.specs.Agreement.{before, before_turn, Agrees}
use Rattle.ped_eval.specs.Plans.{entered_by}
use Rattle.ped_tree.specs.Views.{head_of}
use Rattle.ped_eval.specs.Turns.{turns_end, body_run}
use Rattle.ped_eval.specs.Told.{Reaches}
use Rattle.ped_store.specs.Races.{accesses}
use Rattle.ped_eval.specs.Noting.{place_by}
use Rattle.ped_eval.specs.Watched.{Awaits, turns_run}
use Rattle.ped_eval.proofs.statements.+run.Given as goal

abbrev pub invariant-run_all-loop-stmt : goal.invariant-run_all-loop-stmt
invariant-run_all-loop-stmt g l = record {
  scope : l.state.scope ≡ l.initial.state.scope;
  ready : IsReady l.symbols l.initial.state.scope (memory_of l.state.store);
  can : CanRun l.symbols l.initial.state.scope l.number (stmt_trees (drop l.stmt-index l.stmts));
  behind : l.number + statements_count (stmt_trees (drop l.stmt-index l.stmts)) ≡ l.first + statements_count (stmt_trees l.stmts);
  run : (s : Store) → Agrees l.initial.state.scope (before l.initial.state.scope l.first) (memory_of l.initial.state.store).cells s
      → Reaches l.initial.state.scope (before l.initial.state.scope l.number) (memory_of l.state.store).cells
      (λ u. (run_all (setting_by l.symbols) (stmt_trees (drop l.stmt-index l.stmts)) l.number l.initial.state.scope u).ending)
      (run_all (setting_by l.symbols) (stmt_trees l.stmts) l.first l.initial.state.scope s).ending;
  told : (s : Store) → Agrees l.initial.state.scope (before l.initial.state.scope l.first) (memory_of l.initial.state.store).cells s
      → Awaits g.W.Watch.follows l.initial.watch l.watch l.initial.state.scope (before l.initial.state.scope l.number) (memory_of l.state.store).cells
      (run_all (setting_by l.symbols) (stmt_trees (drop l.stmt-index l.stmts)) l.number l.initial.state.scope)
      (accesses (run_all (setting_by l.symbols) (stmt_trees l.stmts) l.first l.initial.state.scope s).acts);
}

abbrev pub invariant-run_turns-loop-earlier : goal.invariant-run_turns-loop-earlier
invariant-run_turns-loop-earlier g l = record {
  scope : l.state.scope ≡ frame (entered_by (head_of l.d) l.plan 0) l.earlier ∷ l.fn.state.scope;
  ready : IsReady l.symbols l.fn.state.scope (memory_of l.state.store);
  run : (behind : ℕ) (s : Store) → Agrees l.fn.state.scope (before l.fn.state.scope l.plan.number) (memory_of l.fn.state.store).cells s
      → (n : ℕ) → n + l.earlier ≡ l.plan.count
      → Reaches l.fn.state.scope (before_turn l.fn.state.scope l.plan.number (l.earlier + 1)) (memory_of l.state.store).cells
      (turns_end n (l.earlier + 1) (entered_by (head_of l.d) l.plan behind) l.fn.state.scope (body_run (setting_by l.symbols) (stmt_trees l.d.body.items) l.plan.number l.fn.state.scope))
      (turns_end l.plan.count 1 (entered_by (head_of l.d) l.plan behind) l.fn.state.scope (body_run (setting_by l.symbols) (stmt_trees l.d.body.items) l.plan.number l.fn.state.scope) s);
  told : (s : Store) → Agrees l.fn.state.scope (before l.fn.state.scope l.plan.number) (memory_of l.fn.state.store).cells s
      → (n : ℕ) → n + l.earlier ≡ l.plan.count
      → Awaits g.W.Watch.follows l.fn.watch l.watch l.fn.state.scope (before_turn l.fn.state.scope l.plan.number (l.earlier + 1)) (memory_of l.state.store).cells
      (turns_run n (l.earlier + 1) (entered_by (head_of l.d) l.plan l.plan.behind) l.fn.state.scope (place_by l.plan.number l.fn.state.scope) (body_run (setting_by l.symbols) (stmt_trees l.d.body.items) l.plan.number l.fn.state.scope))
      (accesses (turns_run l.plan.count 1 (entered_by (head_of l.d) l.plan l.plan.behind) l.fn.state.scope (place_by l.plan.number l.fn.state.scope) (body_run (setting_by l.symbols) (stmt_trees l.d.body.items) l.plan.number l.fn.state.scope) s).acts);
}
