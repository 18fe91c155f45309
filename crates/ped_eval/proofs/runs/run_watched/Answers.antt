use Rattle.std.proofs.Common.{ap}
use Rattle.std.proofs.lemmas.Result.{IfOk-weaker}
use Rattle.std.specs.Str.Lines.{lines}
use Rattle.ped_tree.specs.Views.{stmt_trees, program_tree}
use Rattle.ped_store.specs.Keeping.{memory_of}
use Rattle.ped_eval.specs.OutcomeViews.{outcome_view}
use Rattle.ped_eval.proofs.RunOutcomes.{can_run_from, ready_from, outcome_told, watch_told}
use Rattle.ped_eval.proofs.runs.run_watched.Goals as goal

pub run_all-answer-requires-clause-can : goal.run_all-answer-requires-clause-can
run_all-answer-requires-clause-can g c =
    can_run_from (program_tree c.args.program.now) c.args.symbols.now c.in_ok-state.state.scope (stmt_trees c.deref.result.now)
    (c.right_where_valid.ensures (program_tree c.args.program.now) c.requires.valid) c.requires.symbols c.in_ok-state.ensures.scope (ap stmt_trees c.deref.ensures.value)

pub run_all-answer-requires-clause-ready : goal.run_all-answer-requires-clause-ready
run_all-answer-requires-clause-ready g c =
    ready_from c.args.symbols.now c.in_ok-state.state.scope (memory_of c.in_ok-state.state.store) (lines c.args.input.now) c.in_ok-state.ensures.scope c.in_ok-state.ensures.memory

pub returns-clause-outcome : goal.returns-clause-outcome
returns-clause-outcome g c =
    IfOk-weaker c.finished.result _ _
    (λ o is. outcome_told (program_tree c.args.program.now) c.args.input.now c.args.symbols.now c.in_ok-state.state.scope c.run_all-answer.new.state.scope (stmt_trees c.deref.result.now)
    (memory_of c.in_ok-state.state.store) (memory_of c.run_all-answer.new.state.store) _ c.run_all-answer.result
    c.requires.symbols c.in_ok-state.ensures.scope (ap stmt_trees c.deref.ensures.value) c.in_ok-state.ensures.memory c.run_all-answer.ensures.told c.run_all-answer.ensures.ready (outcome_view o) is)
    c.finished.ensures

pub returns-clause-watch : goal.returns-clause-watch
returns-clause-watch g c =
    watch_told g.W.Watch.follows (program_tree c.args.program.now) c.args.input.now c.args.symbols.now c.in_ok-state.state.scope (stmt_trees c.deref.result.now)
    (memory_of c.in_ok-state.state.store) (memory_of c.run_all-answer.new.state.store) c.run_all-answer.result c.args.watch.now c.run_all-answer.new.watch c.finished.result outcome_view
    c.requires.symbols c.in_ok-state.ensures.scope (ap stmt_trees c.deref.ensures.value) c.in_ok-state.ensures.memory c.run_all-answer.ensures.watched c.finished.ensures
