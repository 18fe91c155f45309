use Rattle.ped_tree.specs.Views.{expr_tree}
use Rattle.ped_store.specs.Keeping.{memory_of}
use Rattle.ped_eval.specs.ScopeViews.{names_at}
use Rattle.ped_eval.specs.Statements.{assigned}
use Rattle.ped_eval.specs.StatementNotes.{assignment_noted}
use Rattle.ped_eval.specs.Noting.{Noted, AreNoted, accesses_by}
use Rattle.ped_eval.specs.Scopes.{Scope}
use Rattle.ped_eval.specs.Follow.{Follow}
use Rattle.std.proofs.Common.{List, subst}
use Rattle.ped_eval.proofs.Storing.{fresh_added}
use Rattle.ped_eval.proofs.StatementWatches.{assignment_watched}
use Rattle.ped_eval.proofs.statements.watched_assignment.Goals as goal

pub returns-clause-watched : goal.returns-clause-watched
returns-clause-watched g c =
    let m = memory_of c.args.state.now.store in
    let e = assigned (names_at m c.args.state.now.scope c.args.symbols.now.constants) (expr_tree c.args.left.now) (expr_tree c.args.right.now) m.cells in
    let told = subst (λ (s : Scope). (ns : List Noted) → AreNoted c.run_assignment-answer.new.notes ns → Follow g.W.Watch.follows c.args.watch.now (accesses_by c.args.number s ns) c.tell.new.watch) c.run_assignment-answer.ensures.scope c.in_ok-tell.ensures in
    assignment_watched g.W.Watch.follows c.args.symbols.now c.args.state.now.scope c.args.number m c.requires.ready (expr_tree c.args.left.now) (expr_tree c.args.right.now)
    c.args.watch.now c.tell.new.watch c.run_assignment-answer.result
    (told (assignment_noted 1 e) (fresh_added c.of_statement-notes.result c.run_assignment-answer.new.notes (λ n. assignment_noted n e) c.of_statement-notes.ensures.touches c.of_statement-notes.ensures.next c.run_assignment-answer.ensures.noted))
