use Rattle.std.proofs.Common.{◌≡◌, ◌++◌, drop, map, true}
use Rattle.std.specs.List.{list_all}
use Rattle.ped_tree.specs.Views.{expr_tree}
use Rattle.ped_store.specs.Keeping.{memory_of}
use Rattle.ped_symbols.specs.RightUses.RightUses.{target_is_right}
use Rattle.ped_eval.specs.Readiness.{kinds_by, IsReady}
use Rattle.ped_eval.specs.Takings.{items_taken}
use Rattle.ped_eval.specs.Noting.{noted_by}
use Rattle.ped_eval.specs.StatementNotes.{items_noted}
use Rattle.ped_eval.proofs.reading.take_items.Given as goal

abbrev pub invariant-loop-item : goal.invariant-loop-item
invariant-loop-item l = record {
  rest : items_taken l.symbols.constants l.initial.state.scope (map expr_tree (drop l.item-index l.items)) (memory_of l.state.store) ≡ items_taken l.symbols.constants l.initial.state.scope (map expr_tree l.items) (memory_of l.initial.state.store);
  right : list_all (target_is_right (kinds_by l.symbols)) (map expr_tree (drop l.item-index l.items)) ≡ true;
  ready : IsReady l.symbols l.initial.state.scope (memory_of l.state.store);
  scope : l.state.scope ≡ l.initial.state.scope;
  noted : l.notes.kept ≡ true → (l.initial.notes.kept ≡ true)
      × (noted_by l.notes ++ items_noted l.symbols.constants l.initial.state.scope (map expr_tree (drop l.item-index l.items)) l.notes.next (memory_of l.state.store)
      ≡ noted_by l.initial.notes ++ items_noted l.symbols.constants l.initial.state.scope (map expr_tree l.items) l.initial.notes.next (memory_of l.initial.state.store));
}
