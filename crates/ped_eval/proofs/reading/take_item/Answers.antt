use Rattle.std.proofs.Common.{◌≡◌, ℕ, ℤ, List, Err, rules, to_z, of_z, sym, ap, subst, ◌∙◌}
use Rattle.std.specs.Int.{w64, w128}
use Rattle.std.specs.Int.RustNames.{FitsSigned}
use Rattle.std.proofs.lemmas.Int.{to_z-of_z}
use Rattle.ped_tree.specs.Views.{expr_tree}
use Rattle.ped_store.specs.CellViews.{cell_view}
use Rattle.ped_store.specs.DataLines.{Taken}
use Rattle.ped_store.specs.Memories.{Memory, stored}
use Rattle.ped_store.specs.Keeping.{memory_of}
use Rattle.ped_eval.specs.ScopeViews.{names_at}
use Rattle.ped_eval.specs.Values.{target}
use Rattle.ped_eval.specs.Targets.{bounded}
use Rattle.ped_eval.specs.Noting.{target_seen_at, HasNoted}
use Rattle.ped_eval.specs.Results.{target_at}
use Rattle.ped_eval.proofs.Assignments.{named_stands}
use Rattle.ped_eval.proofs.Readings.{taken_fault, taken_stored}
use Rattle.ped_eval.proofs.ReadNotes.{item_stored, item_unstored, item_faulted}
use Rattle.ped_eval.proofs.reading.take_item.Goals as goal

pub set-requires-clause-stands : goal.set-requires-clause-stands
set-requires-clause-stands c =
    ap (λ (k : Memory). k.stands (cell_view c.in-Ok-target_cell.cell)) c.in-Ok.ensures.ok.2
    ∙ named_stands c.args.symbols.now c.args.state.now.scope (memory_of c.args.state.now.store) (expr_tree c.args.item.now) (cell_view c.in-Ok-target_cell.cell) c.requires.ready c.requires.right c.in-Ok-target_cell.ensures.named

pub returns-in-Ok-set-clause-taken : goal.returns-in-Ok-set-clause-taken
unfolding target_at
returns-in-Ok-set-clause-taken c =
    let m = memory_of c.args.state.now.store in
    let mid = memory_of c.next_value.new.self in
    let scope = c.args.state.now.scope in
    let item = expr_tree c.args.item.now in
    let w = c.in-Ok.ensures.ok in
    let cell = cell_view c.in-Ok-target_cell.cell in
    let t : Taken = record { value = c.in-Ok.value; behind = w.0 } in
    let v : ℤ = to_z w128 (of_z w128 c.from.result) in
    let given : FitsSigned w64 c.in-Ok.value = search rules in
    let fits : FitsSigned w128 c.from.result = search rules in
    let n : v ≡ c.in-Ok.value = to_z-of_z w128 c.from.result fits ∙ c.from.ensures ∙ to_z-of_z w64 c.in-Ok.value given in
    let k : (target (names_at mid scope c.args.symbols.now.constants) item mid.cells).result ≡ bounded mid cell =
    sym (ap (λ (k : List (List ℕ × ℤ)). (target (names_at mid scope k) item mid.cells).result) c.consts.ensures) ∙ c.in-Ok-target_cell.ensures.target in
    taken_stored c.args.symbols.now.constants scope item m t mid w.1 w.2 cell k ∙ ap (λ (u : ℤ). stored cell u mid) (sym n) ∙ c.in-Ok-set.ensures.ok

pub returns-in-Ok-set-clause-noted : goal.returns-in-Ok-set-clause-noted
unfolding target_at target_seen_at
returns-in-Ok-set-clause-noted c =
    let m = memory_of c.args.state.now.store in
    let mid = memory_of c.next_value.new.self in
    let scope = c.args.state.now.scope in
    let item = expr_tree c.args.item.now in
    let w = c.in-Ok.ensures.ok in
    let cell = cell_view c.in-Ok-target_cell.cell in
    let t : Taken = record { value = c.in-Ok.value; behind = w.0 } in
    let v : ℤ = to_z w128 (of_z w128 c.from.result) in
    let given : FitsSigned w64 c.in-Ok.value = search rules in
    let fits : FitsSigned w128 c.from.result = search rules in
    let n : v ≡ c.in-Ok.value = to_z-of_z w128 c.from.result fits ∙ c.from.ensures ∙ to_z-of_z w64 c.in-Ok.value given in
    let k : (target (names_at mid scope c.args.symbols.now.constants) item mid.cells).result ≡ bounded mid cell =
    sym (ap (λ (k : List (List ℕ × ℤ)). (target (names_at mid scope k) item mid.cells).result) c.consts.ensures) ∙ c.in-Ok-target_cell.ensures.target in
    let seen : HasNoted c.args.notes.now (target (names_at mid scope c.args.symbols.now.constants) item mid.cells).seen c.target_cell.new.notes =
    subst (λ (k : List (List ℕ × ℤ)). HasNoted c.args.notes.now (target (names_at mid scope k) item mid.cells).seen c.target_cell.new.notes) c.consts.ensures c.target_cell.ensures.noted in
    item_stored c.args.symbols.now.constants scope item c.args.notes.now m mid t w.1 w.2 c.target_cell.new.notes seen cell k (memory_of c.set.new.self) c.refer.new.self
    (ap (λ (u : ℤ). stored cell u mid) (sym n) ∙ c.in-Ok-set.ensures.ok) c.refer.ensures

pub returns-in-Err-set-clause-taken : goal.returns-in-Err-set-clause-taken
unfolding target_at
returns-in-Err-set-clause-taken c =
    let m = memory_of c.args.state.now.store in
    let mid = memory_of c.next_value.new.self in
    let scope = c.args.state.now.scope in
    let item = expr_tree c.args.item.now in
    let w = c.in-Ok.ensures.ok in
    let cell = cell_view c.in-Ok-target_cell.cell in
    let t : Taken = record { value = c.in-Ok.value; behind = w.0 } in
    let v : ℤ = to_z w128 (of_z w128 c.from.result) in
    let given : FitsSigned w64 c.in-Ok.value = search rules in
    let fits : FitsSigned w128 c.from.result = search rules in
    let n : v ≡ c.in-Ok.value = to_z-of_z w128 c.from.result fits ∙ c.from.ensures ∙ to_z-of_z w64 c.in-Ok.value given in
    let k : (target (names_at mid scope c.args.symbols.now.constants) item mid.cells).result ≡ bounded mid cell =
    sym (ap (λ (k : List (List ℕ × ℤ)). (target (names_at mid scope k) item mid.cells).result) c.consts.ensures) ∙ c.in-Ok-target_cell.ensures.target in
    taken_stored c.args.symbols.now.constants scope item m t mid w.1 w.2 cell k ∙ ap (λ (u : ℤ). stored cell u mid) (sym n) ∙ c.in-Err-set.ensures.err.0

pub returns-in-Err-set-clause-noted : goal.returns-in-Err-set-clause-noted
unfolding target_at target_seen_at
returns-in-Err-set-clause-noted c =
    let m = memory_of c.args.state.now.store in
    let mid = memory_of c.next_value.new.self in
    let scope = c.args.state.now.scope in
    let item = expr_tree c.args.item.now in
    let w = c.in-Ok.ensures.ok in
    let cell = cell_view c.in-Ok-target_cell.cell in
    let t : Taken = record { value = c.in-Ok.value; behind = w.0 } in
    let v : ℤ = to_z w128 (of_z w128 c.from.result) in
    let given : FitsSigned w64 c.in-Ok.value = search rules in
    let fits : FitsSigned w128 c.from.result = search rules in
    let n : v ≡ c.in-Ok.value = to_z-of_z w128 c.from.result fits ∙ c.from.ensures ∙ to_z-of_z w64 c.in-Ok.value given in
    let k : (target (names_at mid scope c.args.symbols.now.constants) item mid.cells).result ≡ bounded mid cell =
    sym (ap (λ (k : List (List ℕ × ℤ)). (target (names_at mid scope k) item mid.cells).result) c.consts.ensures) ∙ c.in-Ok-target_cell.ensures.target in
    let seen : HasNoted c.args.notes.now (target (names_at mid scope c.args.symbols.now.constants) item mid.cells).seen c.target_cell.new.notes =
    subst (λ (k : List (List ℕ × ℤ)). HasNoted c.args.notes.now (target (names_at mid scope k) item mid.cells).seen c.target_cell.new.notes) c.consts.ensures c.target_cell.ensures.noted in
    item_unstored c.args.symbols.now.constants scope item c.args.notes.now m mid t w.1 w.2 c.target_cell.new.notes seen cell k c.in-Err-set.fault (ap (λ (u : ℤ). stored cell u mid) (sym n) ∙ c.in-Err-set.ensures.err.0)

pub returns-in-Err-target_cell-clause-taken : goal.returns-in-Err-target_cell-clause-taken
unfolding target_at
returns-in-Err-target_cell-clause-taken c =
    let m = memory_of c.args.state.now.store in
    let mid = memory_of c.next_value.new.self in
    let scope = c.args.state.now.scope in
    let item = expr_tree c.args.item.now in
    let w = c.in-Ok.ensures.ok in
    let t : Taken = record { value = c.in-Ok.value; behind = w.0 } in
    let k : (target (names_at mid scope c.args.symbols.now.constants) item mid.cells).result ≡ Err c.in-Err-target_cell.fault =
    sym (ap (λ (k : List (List ℕ × ℤ)). (target (names_at mid scope k) item mid.cells).result) c.consts.ensures) ∙ c.in-Err-target_cell.ensures.err in
    taken_fault c.args.symbols.now.constants scope item m t mid w.1 w.2 c.in-Err-target_cell.fault k

pub returns-in-Err-target_cell-clause-noted : goal.returns-in-Err-target_cell-clause-noted
unfolding target_at target_seen_at
returns-in-Err-target_cell-clause-noted c =
    let m = memory_of c.args.state.now.store in
    let mid = memory_of c.next_value.new.self in
    let scope = c.args.state.now.scope in
    let item = expr_tree c.args.item.now in
    let w = c.in-Ok.ensures.ok in
    let t : Taken = record { value = c.in-Ok.value; behind = w.0 } in
    let k : (target (names_at mid scope c.args.symbols.now.constants) item mid.cells).result ≡ Err c.in-Err-target_cell.fault =
    sym (ap (λ (k : List (List ℕ × ℤ)). (target (names_at mid scope k) item mid.cells).result) c.consts.ensures) ∙ c.in-Err-target_cell.ensures.err in
    let seen : HasNoted c.args.notes.now (target (names_at mid scope c.args.symbols.now.constants) item mid.cells).seen c.target_cell.new.notes =
    subst (λ (k : List (List ℕ × ℤ)). HasNoted c.args.notes.now (target (names_at mid scope k) item mid.cells).seen c.target_cell.new.notes) c.consts.ensures c.target_cell.ensures.noted in
    item_faulted c.args.symbols.now.constants scope item c.args.notes.now m mid t w.1 w.2 c.target_cell.new.notes seen c.in-Err-target_cell.fault k
