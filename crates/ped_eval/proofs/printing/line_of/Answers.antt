use Rattle.std.proofs.Common.{ℕ, List, [], map, drop, sym}
use Rattle.ped_tree.specs.Views.{item_tree}
use Rattle.ped_store.specs.Keeping.{memory_of}
use Rattle.ped_eval.specs.ScopeViews.{names_at}
use Rattle.ped_eval.specs.Statements.{item_text, item_texts, printed_line}
use Rattle.ped_eval.specs.Noting.{HasNoted}
use Rattle.ped_eval.proofs.Notings.{none_noted, noted_as}
use Rattle.ped_eval.proofs.Storing.{line_seen, texts_end, item_step, item_fault}
use Rattle.ped_eval.proofs.Prints.{rest_all, rest_next, fault_next, fault_here, broken_line, broken_noted}
use Rattle.ped_eval.proofs.printing.line_of.Goals as goal

pub loop-i-preserved : goal.loop-i-preserved
loop-i-preserved c =
    let m = memory_of c.args.state.now.store in
    let g = names_at m c.args.state.now.scope c.args.symbols.now.constants in
    let items = c.args.items.now in
    let i = c.loop-i.i in
    let x = c.index-items-i.result in
    let a = c.in-Ok.ensures.added in
    record {
      rest = rest_next g m.cells items i x c.loop-i-test.true c.index-items-i.is c.loop-i.line c.add_blank.new.line c.add_item.new.line a.0 a.1 c.in_ok-add_blank.ensures a.2 c.loop-i.invariant.rest;
      fails = fault_next g m.cells items i x c.loop-i-test.true c.index-items-i.is a.0 a.1 c.loop-i.invariant.fails;
      noted = λ new rest. c.loop-i.invariant.noted new (item_step g m.cells c.loop-i.notes c.add_item.new.notes items i x c.loop-i-test.true c.index-items-i.is c.in-Ok.ensures.noted new a.0 a.1 rest);
    }

pub returns-clause-line : goal.returns-clause-line
returns-clause-line c =
    let m = memory_of c.args.state.now.store in
    let g = names_at m c.args.state.now.scope c.args.symbols.now.constants in
    rest_all g m.cells c.args.items.now c.loop-i.i c.loop-i.line c.loop-i-test.false c.loop-i.invariant.rest

pub returns-clause-noted : goal.returns-clause-noted
returns-clause-noted c =
    let m = memory_of c.args.state.now.store in
    let g = names_at m c.args.state.now.scope c.args.symbols.now.constants in
    let items = c.args.items.now in
    let i = c.loop-i.i in
    let notes = c.loop-i.notes in
    let all = c.loop-i.invariant.noted notes (noted_as notes notes [] (item_texts g (map item_tree (drop i items)) m.cells).seen (sym (texts_end g m.cells notes notes items i c.loop-i-test.false)) (none_noted notes)) in
    noted_as c.args.notes.now notes _ (printed_line g (map item_tree items) m.cells).seen (sym (line_seen g m.cells (map item_tree items))) all

pub returns-in-Err-clause-line : goal.returns-in-Err-clause-line
returns-in-Err-clause-line c =
    let m = memory_of c.args.state.now.store in
    let g = names_at m c.args.state.now.scope c.args.symbols.now.constants in
    let items = c.args.items.now in
    let x = c.index-items-i.result in
    broken_line (printed_line g (map item_tree items) m.cells).result (item_text g (item_tree x) m.cells).result c.add_blank.new.line c.add_item.new.line c.in-Err.error
    (λ n k. fault_here g m.cells items c.loop-i.i x c.loop-i-test.true c.index-items-i.is n c.loop-i.invariant.fails k) c.in-Err.ensures.added

pub returns-in-Err-clause-noted : goal.returns-in-Err-clause-noted
returns-in-Err-clause-noted c =
    let m = memory_of c.args.state.now.store in
    let g = names_at m c.args.state.now.scope c.args.symbols.now.constants in
    let items = c.args.items.now in
    let i = c.loop-i.i in
    let x = c.index-items-i.result in
    let notes = c.add_item.new.notes in
    broken_noted (List ℕ) (HasNoted c.loop-i.notes (item_text g (item_tree x) m.cells).seen notes) (HasNoted c.args.notes.now (printed_line g (map item_tree items) m.cells).seen notes) (item_text g (item_tree x) m.cells).result c.add_blank.new.line c.add_item.new.line c.in-Err.error
    (λ n k here. noted_as c.args.notes.now notes _ (printed_line g (map item_tree items) m.cells).seen (sym (line_seen g m.cells (map item_tree items)))
    (c.loop-i.invariant.noted notes (item_fault g m.cells c.loop-i.notes notes items i x c.loop-i-test.true c.index-items-i.is here n k)))
    c.in-Err.ensures.added c.in-Err.ensures.noted
