use Rattle.std.proofs.Common.{List, subst, ◌∙◌}
use Rattle.ped_tree.specs.Views.{stmt_trees}
use Rattle.ped_store.specs.Keeping.{memory_of}
use Rattle.ped_eval.specs.ScopeViews.{names_at}
use Rattle.ped_eval.specs.Evaluation.{number_behind}
use Rattle.ped_eval.specs.Loops.{limits}
use Rattle.ped_tree.specs.Views.{head_of}
use Rattle.ped_eval.specs.Follow.{Follow}
use Rattle.ped_eval.specs.Noting.{Noted, accesses_by}
use Rattle.ped_eval.proofs.Storing.{fresh_noted, fresh_next}
use Rattle.ped_eval.proofs.Watching.{if_ran}
use Rattle.ped_eval.proofs.Entries.{entry_by, plan_behind}
use Rattle.ped_eval.proofs.plans.plan_of.Goals as goal

pub returns-clause-entry : goal.returns-clause-entry
returns-clause-entry g c =
    let m = memory_of c.args.state.now.store in
    entry_by c.args.symbols.now c.args.number (names_at m c.args.state.now.scope c.args.symbols.now.constants) m.cells (head_of c.args.d.now) (stmt_trees c.args.d.now.body.items)
    c.limits_of-limits.result c.plan_by.result c.limits_of-limits.ensures.ok c.limits_of-limits.ensures.err c.plan_by.ensures.plan

pub returns-clause-behind : goal.returns-clause-behind
returns-clause-behind g c =
    let m = memory_of c.args.state.now.store in
    let l = limits (names_at m c.args.state.now.scope c.args.symbols.now.constants) (head_of c.args.d.now) m.cells in
    plan_behind c.plan_by.result c.in_ok-behind.behind (number_behind 1 l.seen)
    (c.in_ok-behind.ensures.next ∙ fresh_next c.from_reference-notes.result c.limits_of-limits.new.notes l.seen c.from_reference-notes.ensures.next c.limits_of-limits.ensures.noted c.in_ok-behind.ensures.kept) c.plan_by.ensures.behind

pub returns-clause-told : goal.returns-clause-told
returns-clause-told g c =
    let m = memory_of c.args.state.now.store in
    let l = limits (names_at m c.args.state.now.scope c.args.symbols.now.constants) (head_of c.args.d.now) m.cells in
    if_ran c.plan_by.result
    (subst (λ (ns : List Noted). Follow g.W.Watch.follows c.args.watch.now (accesses_by c.args.number c.args.state.now.scope ns) c.tell_bounds.new.watch)
    (fresh_noted c.from_reference-notes.result c.limits_of-limits.new.notes l.seen c.from_reference-notes.ensures.touches c.from_reference-notes.ensures.next c.limits_of-limits.ensures.noted c.in_ok-behind.ensures.kept)
    c.in_ok-behind.ensures.told)
