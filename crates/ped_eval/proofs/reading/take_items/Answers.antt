use Rattle.std.proofs.Common.{◌≡◌, ◌++◌, List, ◌∷◌, map, drop, Ok, Err, refl, sym, ap, subst, ◌+◌, ◌∙◌}
use Rattle.std.proofs.lemmas.List.{append-nil}
use Rattle.ped_tree.specs.Tree.{ExprTree}
use Rattle.ped_tree.specs.Views.{expr_tree}
use Rattle.ped_store.specs.Memories.{Memory}
use Rattle.ped_store.specs.Keeping.{memory_of}
use Rattle.ped_eval.specs.Scopes.{Scope}
use Rattle.ped_eval.specs.Readiness.{kinds_by, IsReady}
use Rattle.ped_eval.specs.Takings.{item_taken}
use Rattle.ped_eval.specs.Noting.{noted_by}
use Rattle.ped_eval.specs.StatementNotes.{items_noted}
use Rattle.ped_eval.proofs.Readings.{ready_data, read_begun, items_step, items_done, item_ready, others_right, none_left}
use Rattle.ped_eval.proofs.ReadNotes.{line_begun, line_missing, items_left}
use Rattle.ped_eval.proofs.reading.take_items.Goals as goal

pub loop-item-init : goal.loop-item-init
loop-item-init c =
    let w = c.in-Ok.ensures.ok in
    let table = c.args.symbols.now in
    let scope = c.args.state.now.scope in
    record {
      rest = refl;
      right = c.requires.right;
      ready = subst (λ (k : Memory). IsReady table scope k) (sym w.2) (ready_data table scope w.0 (memory_of c.args.state.now.store) c.requires.ready);
      scope = refl;
      noted = λ kept. (kept, refl);
    }

pub returns-in-Err-take_item-clause-taken : goal.returns-in-Err-take_item-clause-taken
returns-in-Err-take_item-clause-taken c =
    let w = c.in-Ok.ensures.ok in
    let v = c.loop-item.invariant in
    let constants = c.args.symbols.now.constants in
    let scope = c.args.state.now.scope in
    let items = c.args.items.now in
    let x = c.item-item.result in
    let m = memory_of c.loop-item.state.store in
    let n = c.in-Err-take_item.fault in
    let here : item_taken constants scope (expr_tree x) m ≡ Err n = ap (λ (s : Scope). item_taken constants s (expr_tree x) m) (sym v.scope) ∙ c.in-Err-take_item.ensures.taken in
    read_begun constants scope (map expr_tree items) (memory_of c.args.state.now.store) (memory_of c.next_line.new.self) w.0 w.1 w.2 ∙ sym v.rest
    ∙ items_step constants scope items c.loop-item.item-index x m (Err n) c.loop-item-test.true c.item-item.is here

pub returns-in-Err-take_item-clause-noted : goal.returns-in-Err-take_item-clause-noted
returns-in-Err-take_item-clause-noted c kept =
    let w = c.in-Ok.ensures.ok in
    let v = c.loop-item.invariant in
    let constants = c.args.symbols.now.constants in
    let scope = c.args.state.now.scope in
    let items = c.args.items.now in
    let x = c.item-item.result in
    let m = memory_of c.loop-item.state.store in
    let rest = map expr_tree (drop (c.loop-item.item-index + 1) items) in
    let left = items_left constants scope items c.loop-item.item-index x c.loop-item-test.true c.item-item.is in
    let here = c.in-Err-take_item.ensures.noted kept in
    let before = v.noted here.0 in
    let begun = c.refer.ensures before.0 in
    let last : noted_by c.loop-item.notes ++ items_noted constants scope (expr_tree x ∷ rest) c.loop-item.notes.next m ≡ noted_by c.take_item.new.notes =
    subst (λ (s : Scope). noted_by c.loop-item.notes ++ items_noted constants s (expr_tree x ∷ rest) c.loop-item.notes.next m ≡ noted_by c.take_item.new.notes) v.scope (here.1 rest) in (
      begun.kept,
      sym last ∙ ap (λ (l : List ExprTree). noted_by c.loop-item.notes ++ items_noted constants scope l c.loop-item.notes.next m) (sym left) ∙ before.1
          ∙ sym (line_begun constants scope (map expr_tree items) c.args.notes.now c.refer.new.self (memory_of c.args.state.now.store) begun w.0 (memory_of c.next_line.new.self) w.1 w.2),
    )

pub loop-item-preserved : goal.loop-item-preserved
loop-item-preserved c =
    let v = c.loop-item.invariant in
    let table = c.args.symbols.now in
    let scope = c.args.state.now.scope in
    let items = c.args.items.now in
    let x = c.item-item.result in
    let i = c.loop-item.item-index in
    let m = memory_of c.loop-item.state.store in
    let after = memory_of c.take_item.new.state.store in
    let k : item_taken table.constants scope (expr_tree x) m ≡ Ok after = ap (λ (s : Scope). item_taken table.constants s (expr_tree x) m) (sym v.scope) ∙ c.in-Ok-take_item.ensures.taken in
    let rest = map expr_tree (drop (i + 1) items) in
    let left = items_left table.constants scope items i x c.loop-item-test.true c.item-item.is in
    record {
      rest = sym (items_step table.constants scope items i x m (Ok after) c.loop-item-test.true c.item-item.is k) ∙ v.rest;
      right = others_right (kinds_by table) items i x c.loop-item-test.true c.item-item.is v.right;
      ready = item_ready table scope (expr_tree x) m after v.ready k;
      scope = c.in-Ok-take_item.ensures.scope ∙ v.scope;
      noted = λ kept.
          let here = c.in-Ok-take_item.ensures.noted kept in
          let before = v.noted here.0 in (
            before.0,
            sym (subst (λ (s : Scope). noted_by c.loop-item.notes ++ items_noted table.constants s (expr_tree x ∷ rest) c.loop-item.notes.next m
                ≡ noted_by c.take_item.new.notes ++ items_noted table.constants s rest c.take_item.new.notes.next after) v.scope (here.1 rest))
                ∙ ap (λ (l : List ExprTree). noted_by c.loop-item.notes ++ items_noted table.constants scope l c.loop-item.notes.next m) (sym left) ∙ before.1,
          );
    }

pub returns-clause-taken : goal.returns-clause-taken
returns-clause-taken c =
    let w = c.in-Ok.ensures.ok in
    let constants = c.args.symbols.now.constants in
    let scope = c.args.state.now.scope in
    let items = c.args.items.now in
    read_begun constants scope (map expr_tree items) (memory_of c.args.state.now.store) (memory_of c.next_line.new.self) w.0 w.1 w.2 ∙ sym c.loop-item.invariant.rest
    ∙ items_done constants scope items c.loop-item.item-index (memory_of c.loop-item.state.store) c.loop-item-test.false

pub returns-clause-noted : goal.returns-clause-noted
returns-clause-noted c kept =
    let w = c.in-Ok.ensures.ok in
    let constants = c.args.symbols.now.constants in
    let scope = c.args.state.now.scope in
    let items = c.args.items.now in
    let m = memory_of c.loop-item.state.store in
    let notes = c.loop-item.notes in
    let before = c.loop-item.invariant.noted kept in
    let begun = c.refer.ensures before.0 in (
      begun.kept,
      sym (none_left (λ (l : List ExprTree). noted_by notes ++ items_noted constants scope l notes.next m) items c.loop-item.item-index c.loop-item-test.false ∙ append-nil (noted_by notes))
          ∙ before.1
          ∙ sym (line_begun constants scope (map expr_tree items) c.args.notes.now c.refer.new.self (memory_of c.args.state.now.store) begun w.0 (memory_of c.next_line.new.self) w.1 w.2),
    )

pub returns-in-Err-clause-noted : goal.returns-in-Err-clause-noted
returns-in-Err-clause-noted c kept =
    let begun = c.refer.ensures kept in (
      begun.kept,
      line_missing c.args.symbols.now.constants c.args.state.now.scope (map expr_tree c.args.items.now) c.args.notes.now c.refer.new.self (memory_of c.args.state.now.store) begun _ c.in-Err.ensures.err.0,
    )
