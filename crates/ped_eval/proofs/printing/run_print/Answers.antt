use Rattle.std.proofs.Common.{◌≡◌, ℕ, List, map, Ok, Err, refl, sym, ap, subst, ◌∙◌}
use Rattle.ped_tree.specs.Views.{item_tree}
use Rattle.ped_store.specs.Memories.{Memory, with_printed}
use Rattle.ped_store.specs.Keeping.{memory_of}
use Rattle.ped_eval.specs.ScopeViews.{names_at}
use Rattle.ped_eval.specs.Statements.{printed_line}
use Rattle.ped_eval.specs.Items.{IsPrinted, IfPrinted}
use Rattle.ped_eval.specs.Noting.{HasNoted}
use Rattle.ped_store.specs.Cells.{Out}
use Rattle.ped_eval.proofs.Storing.{write_added, fault_added}
use Rattle.ped_eval.specs.declared.printing.PrintError.{PrintError}
use Rattle.ped_eval.specs.Readiness.{IsReady}
use Rattle.ped_eval.proofs.Prints.{ready_printed, print_ran, print_failed}
use Rattle.ped_eval.proofs.printing.run_print.Goals as goal

pub returns-in-Ok-clause-told : goal.returns-in-Ok-clause-told
returns-in-Ok-clause-told c =
    let m = memory_of c.args.state.now.store in
    let q : memory_of c.put_line.new.self ≡ with_printed c.as_slice.result.now m = c.in_ok-put_line-in-Ok.ensures.ok in
    print_ran c.args.symbols.now c.args.state.now.scope c.args.number (map item_tree c.args.items.now) m c.requires.ready (memory_of c.put_line.new.self) c.as_slice.result.now (c.in-Ok.ensures.line ∙ ap Ok (sym c.as_slice.ensures)) q

pub returns-in-Ok-clause-ready : goal.returns-in-Ok-clause-ready
returns-in-Ok-clause-ready c =
    let m = memory_of c.args.state.now.store in
    let q : memory_of c.put_line.new.self ≡ with_printed c.as_slice.result.now m = c.in_ok-put_line-in-Ok.ensures.ok in
    (refl, subst (λ (k : Memory). IsReady c.args.symbols.now c.args.state.now.scope k) (sym q) (ready_printed c.args.symbols.now c.args.state.now.scope c.as_slice.result.now m c.requires.ready))

pub returns-in-Fault-clause-told : goal.returns-in-Fault-clause-told
returns-in-Fault-clause-told c =
    let m = memory_of c.args.state.now.store in
    let line = (printed_line (names_at m c.args.state.now.scope c.args.symbols.now.constants) (map item_tree c.args.items.now) m.cells).result in
    let h : line ≡ Err c.in-Fault.fault = subst (λ (e : PrintError). IsPrinted line (Err e)) c.in-Fault.is c.in-Err.ensures.line in
    print_failed c.args.symbols.now c.args.state.now.scope c.args.number (map item_tree c.args.items.now) m c.requires.ready m _ c.in-Fault.fault refl h

pub returns-in-Ok-clause-noted : goal.returns-in-Ok-clause-noted
returns-in-Ok-clause-noted c =
    let m = memory_of c.args.state.now.store in
    let e = printed_line (names_at m c.args.state.now.scope c.args.symbols.now.constants) (map item_tree c.args.items.now) m.cells in
    write_added (λ (line : List ℕ). Out) e e.seen c.args.notes.now refl c.line_of.new.notes c.refer.new.self c.in-Ok.line c.in-Ok.ensures.line c.in-Ok.ensures.noted c.refer.ensures

pub returns-in-Fault-clause-noted : goal.returns-in-Fault-clause-noted
returns-in-Fault-clause-noted c =
    let m = memory_of c.args.state.now.store in
    let e = printed_line (names_at m c.args.state.now.scope c.args.symbols.now.constants) (map item_tree c.args.items.now) m.cells in
    let h : e.result ≡ Err c.in-Fault.fault = subst (λ (x : PrintError). IsPrinted e.result (Err x)) c.in-Fault.is c.in-Err.ensures.line in
    let k : HasNoted c.args.notes.now e.seen c.line_of.new.notes = subst (λ (x : PrintError). IfPrinted {A = List ℕ} (Err x) (HasNoted c.args.notes.now e.seen c.line_of.new.notes)) c.in-Fault.is c.in-Err.ensures.noted in
    fault_added (λ (line : List ℕ). Out) e e.seen c.args.notes.now refl c.line_of.new.notes c.in-Fault.fault h k
