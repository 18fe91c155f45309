use Rattle.ped_store.specs.Stores.{Number}
use Rattle.ped_store.specs.Keeping.{memory_of}
use Rattle.ped_tree.specs.Views.{expr_tree}
use Rattle.ped_machine.proofs.Acting.{assigns, assign_fails}
use Rattle.ped_machine.proofs.Growing.{content_grows}
use Rattle.ped_machine.proofs.acts.do_assignment.Goals as goal

pub returns-in-Ok-clause-does : goal.returns-in-Ok-clause-does
returns-in-Ok-clause-does c =
    let r = c.in-Ok.ensures.ok in
    assigns c.args.symbols.now c.args.state.now.scope c.args.number (memory_of c.args.state.now.store) c.requires.ready.bounds (expr_tree c.args.left.now) (expr_tree c.args.right.now) r.0 (memory_of c.assign.new.state.store) r.1 r.2

pub returns-in-Ok-clause-grown : goal.returns-in-Ok-clause-grown
returns-in-Ok-clause-grown c =
    let r = c.in-Ok.ensures.ok in
    content_grows r.0.cell (Number r.0.number) (memory_of c.args.state.now.store) (memory_of c.assign.new.state.store) r.2

pub returns-in-Err-clause-does : goal.returns-in-Err-clause-does
returns-in-Err-clause-does c =
    assign_fails c.args.symbols.now c.args.state.now.scope c.args.number (memory_of c.args.state.now.store) c.requires.ready.bounds (expr_tree c.args.left.now) (expr_tree c.args.right.now) c.in-Err.fault (memory_of c.assign.new.state.store) c.in-Err.ensures.err
