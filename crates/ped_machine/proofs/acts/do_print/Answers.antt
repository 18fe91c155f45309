use Rattle.std.proofs.Common.{◌≡◌, map, Err, Ok, sym, ap, subst, ◌∙◌}
use Rattle.ped_store.specs.Memories.{with_printed}
use Rattle.ped_store.specs.Keeping.{memory_of}
use Rattle.ped_tree.specs.Views.{item_tree}
use Rattle.ped_interleavings.specs.ped_eval.specs.ScopeViews.{names_at}
use Rattle.ped_interleavings.specs.ped_eval.specs.Statements.{printed_line}
use Rattle.ped_interleavings.specs.ped_eval.specs.Items.{IsPrinted}
use Rattle.ped_interleavings.specs.ped_eval.specs.declared.printing.PrintError.{PrintError}
use Rattle.ped_machine.proofs.Acting.{prints, print_fails}
use Rattle.ped_machine.proofs.Growing.{same_grows}
use Rattle.ped_machine.proofs.acts.do_print.Goals as goal

pub returns-in-Ok-clause-does : goal.returns-in-Ok-clause-does
returns-in-Ok-clause-does c =
    let m = memory_of c.args.state.now.store in
    let q : memory_of c.put_line.new.self ≡ with_printed c.as_slice.result.now m = c.in_ok-put_line-in-Ok.ensures.ok in
    prints c.args.symbols.now c.args.state.now.scope c.args.number m c.requires.ready.bounds (map item_tree c.args.items.now) c.as_slice.result.now (memory_of c.put_line.new.self) (c.in-Ok.ensures.line ∙ ap Ok (sym c.as_slice.ensures)) q

pub returns-in-Ok-clause-grown : goal.returns-in-Ok-clause-grown
returns-in-Ok-clause-grown c =
    let m = memory_of c.args.state.now.store in
    let q : memory_of c.put_line.new.self ≡ with_printed c.as_slice.result.now m = c.in_ok-put_line-in-Ok.ensures.ok in
    same_grows m (memory_of c.put_line.new.self) (λ i. (q i).bounds) (λ i. (q i).stands)

pub returns-in-Fault-clause-does : goal.returns-in-Fault-clause-does
returns-in-Fault-clause-does c =
    let m = memory_of c.args.state.now.store in
    let line = (printed_line (names_at m c.args.state.now.scope c.args.symbols.now.constants) (map item_tree c.args.items.now) m.cells).result in
    let h : line ≡ Err c.in-Fault.fault = subst (λ (e : PrintError). IsPrinted line (Err e)) c.in-Fault.is c.in-Err.ensures.line in
    print_fails c.args.symbols.now c.args.state.now.scope c.args.number m c.requires.ready.bounds (map item_tree c.args.items.now) c.in-Fault.fault m h
