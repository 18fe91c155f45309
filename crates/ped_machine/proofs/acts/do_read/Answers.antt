use Rattle.std.proofs.Common.{map, refl}
use Rattle.ped_store.specs.Keeping.{memory_of}
use Rattle.ped_tree.specs.Views.{expr_tree}
use Rattle.ped_interleavings.specs.ped_eval.proofs.Takings.{read_stands, read_bounds}
use Rattle.ped_machine.proofs.Acting.{Same, same_kept, reads, read_fails}
use Rattle.ped_machine.proofs.Growing.{same_grows}
use Rattle.ped_interleavings.specs.ped_eval.specs.Readiness.{setting_by}
use Rattle.ped_interleavings.specs.ped_eval.specs.Scopes.{place_of}
use Rattle.ped_machine.proofs.acts.do_read.Goals as goal

pub returns-in-Ok-clause-does : goal.returns-in-Ok-clause-does
returns-in-Ok-clause-does c =
    reads c.args.symbols.now c.args.state.now.scope c.args.number (memory_of c.args.state.now.store) c.requires.ready.bounds (map expr_tree c.args.items.now) (memory_of c.take_items.new.state.store) refl refl c.in-Ok.ensures.taken

pub returns-in-Ok-clause-grown : goal.returns-in-Ok-clause-grown
returns-in-Ok-clause-grown c =
    let m = memory_of c.args.state.now.store in
    let after = memory_of c.take_items.new.state.store in
    let p = setting_by c.args.symbols.now in
    let scope = c.args.state.now.scope in
    let items = map expr_tree c.args.items.now in
    same_grows m after
    (read_bounds p scope Same (same_kept p scope) (place_of p c.args.number scope) items m.cells m c.requires.ready.bounds refl refl after c.in-Ok.ensures.taken)
    (read_stands p scope Same (same_kept p scope) (place_of p c.args.number scope) items m.cells m c.requires.ready.bounds refl refl after c.in-Ok.ensures.taken)

pub returns-in-Err-clause-does : goal.returns-in-Err-clause-does
returns-in-Err-clause-does c =
    read_fails c.args.symbols.now c.args.state.now.scope c.args.number (memory_of c.args.state.now.store) c.requires.ready.bounds (map expr_tree c.args.items.now) c.in-Err.fault (memory_of c.take_items.new.state.store) refl c.in-Err.ensures.taken
