use Rattle.std.proofs.Common.{ℕ, List, map, Ok, Err, refl, sym, subst}
use Rattle.ped_tree.specs.Views.{expr_tree}
use Rattle.ped_store.specs.Keeping.{memory_of}
use Rattle.ped_eval.specs.Scopes.{Scope}
use Rattle.ped_eval.specs.Follow.{Follow}
use Rattle.ped_eval.specs.Readiness.{IsReady}
use Rattle.ped_eval.specs.Noting.{Noted, AreNoted, accesses_by}
use Rattle.ped_eval.specs.StatementNotes.{read_noted}
use Rattle.ped_eval.specs.declared.states.Flow.TheVariants as flow
use Rattle.ped_eval.specs.declared.states.RunError.TheVariants as error
use Rattle.ped_eval.proofs.Readings.{read_ready, read_ran, read_failed}
use Rattle.ped_eval.proofs.Storing.{fresh_added}
use Rattle.ped_eval.proofs.ReadNotes.{read_watched}
use Rattle.ped_eval.proofs.reading.run_read.Goals as goal

pub returns-in-Ok-clause-told : goal.returns-in-Ok-clause-told
returns-in-Ok-clause-told g c =
    read_ran c.args.symbols.now c.args.state.now.scope c.args.number (map expr_tree c.args.items.now) c.args.state.now.store c.requires.ready c.take_items-taken.new.state.store c.in-Ok.ensures.taken

pub returns-in-Ok-clause-ready : goal.returns-in-Ok-clause-ready
returns-in-Ok-clause-ready g c =
    let table = c.args.symbols.now in
    let scope = c.args.state.now.scope in
    let same = c.take_items-taken.ensures.scope in
    let new = memory_of c.take_items-taken.new.state.store in
    let ready : IsReady table scope new = read_ready table scope (map expr_tree c.args.items.now) (memory_of c.args.state.now.store) new c.requires.ready c.in-Ok.ensures.taken in
    (same, subst (λ (k : Scope). IsReady table k new) (sym same) ready)

pub returns-in-Ok-clause-watched : goal.returns-in-Ok-clause-watched
returns-in-Ok-clause-watched g c =
    let told = subst (λ (s : Scope). (ns : List Noted) → AreNoted c.take_items-taken.new.notes ns → Follow g.W.Watch.follows c.args.watch.now (accesses_by c.args.number s ns) c.tell.new.watch) c.take_items-taken.ensures.scope c.in_ok-tell.ensures in
    let items = map expr_tree c.args.items.now in
    let m = memory_of c.args.state.now.store in
    let noted = λ (n : ℕ). read_noted c.args.symbols.now.constants c.args.state.now.scope items n m in
    read_watched g.W.Watch.follows c.args.symbols.now c.args.state.now.scope c.args.number items m c.requires.ready refl c.args.watch.now c.tell.new.watch (Ok flow.Going)
    (told (noted 1) (fresh_added c.of_statement-notes.result c.take_items-taken.new.notes noted c.of_statement-notes.ensures.touches c.of_statement-notes.ensures.next c.take_items-taken.ensures.noted))

pub returns-in-Err-clause-told : goal.returns-in-Err-clause-told
returns-in-Err-clause-told g c =
    read_failed c.args.symbols.now c.args.state.now.scope c.args.number (map expr_tree c.args.items.now) c.args.state.now.store c.requires.ready (memory_of c.take_items-taken.new.state.store) c.in-Err.fault c.in-Err.ensures.taken

pub returns-in-Err-clause-watched : goal.returns-in-Err-clause-watched
returns-in-Err-clause-watched g c =
    let told = subst (λ (s : Scope). (ns : List Noted) → AreNoted c.take_items-taken.new.notes ns → Follow g.W.Watch.follows c.args.watch.now (accesses_by c.args.number s ns) c.tell.new.watch) c.take_items-taken.ensures.scope c.in_ok-tell.ensures in
    let items = map expr_tree c.args.items.now in
    let m = memory_of c.args.state.now.store in
    let noted = λ (n : ℕ). read_noted c.args.symbols.now.constants c.args.state.now.scope items n m in
    read_watched g.W.Watch.follows c.args.symbols.now c.args.state.now.scope c.args.number items m c.requires.ready refl c.args.watch.now c.tell.new.watch (Err (error.Fault c.in-Err.fault c.args.number))
    (told (noted 1) (fresh_added c.of_statement-notes.result c.take_items-taken.new.notes noted c.of_statement-notes.ensures.touches c.of_statement-notes.ensures.next c.take_items-taken.ensures.noted))
