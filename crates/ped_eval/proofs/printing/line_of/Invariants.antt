use Rattle.std.proofs.Common.{◌≡◌, ◌++◌, ℕ, List, drop, map, Ok, Err}
use Rattle.ped_tree.specs.Views.{item_tree}
use Rattle.ped_store.specs.Keeping.{memory_of}
use Rattle.ped_eval.specs.ScopeViews.{names_at}
use Rattle.ped_eval.specs.Statements.{item_texts, printed_line}
use Rattle.ped_eval.specs.declared.notes.Notes.{Notes}
use Rattle.ped_eval.specs.Noting.{HasNoted}
use Rattle.ped_eval.proofs.Lines.{tail_text}
use Rattle.ped_eval.proofs.printing.line_of.Given as goal

abbrev pub invariant-loop-i : goal.invariant-loop-i
invariant-loop-i l =
    let g = names_at (memory_of l.state.store) l.state.scope l.symbols.constants in
    let s = (memory_of l.state.store).cells in
    record {
      rest : (texts : List (List ℕ)) → (item_texts g (map item_tree (drop l.i l.items)) s).result ≡ Ok texts → (printed_line g (map item_tree l.items) s).result ≡ Ok (l.line ++ tail_text l.i texts);
      fails : (n : ℕ) → (item_texts g (map item_tree (drop l.i l.items)) s).result ≡ Err n → (printed_line g (map item_tree l.items) s).result ≡ Err n;
      noted : (new : Notes) → HasNoted l.notes (item_texts g (map item_tree (drop l.i l.items)) s).seen new → HasNoted l.initial.notes (item_texts g (map item_tree l.items) s).seen new;
    }
