use Rattle.std.proofs.Common.{List, map, subst}
use Rattle.ped_tree.specs.Views.{item_tree}
use Rattle.ped_store.specs.Keeping.{memory_of}
use Rattle.ped_eval.specs.Scopes.{Scope}
use Rattle.ped_eval.specs.Follow.{Follow}
use Rattle.ped_eval.specs.Noting.{Noted, AreNoted, accesses_by}
use Rattle.ped_eval.proofs.StatementWatches.{print_answered}
use Rattle.ped_eval.proofs.printing.watched_print.Goals as goal

pub returns-clause-watched : goal.returns-clause-watched
returns-clause-watched g c =
    let told = subst (λ (s : Scope). (ns : List Noted) → AreNoted c.run_print-answer.new.notes ns → Follow g.W.Watch.follows c.args.watch.now (accesses_by c.args.number s ns) c.tell.new.watch) c.run_print-answer.ensures.scope c.in_ok-tell.ensures in
    print_answered g.W.Watch.follows c.args.symbols.now c.args.state.now.scope c.args.number (memory_of c.args.state.now.store) c.requires.ready (map item_tree c.args.items.now)
    c.args.watch.now c.tell.new.watch c.run_print-answer.result c.of_statement-notes.result c.run_print-answer.new.notes c.of_statement-notes.ensures.touches c.of_statement-notes.ensures.next c.run_print-answer.ensures.noted told
