use Rattle.std.proofs.Common.{◌≡◌, ◌++◌, ℕ, ℤ, List, true, Ok, Err, Result, rules, to_z, of_z, sym, ap, subst, ◌∙◌}
use Rattle.std.proofs.lemmas.List.{append-nil}
use Rattle.std.specs.Int.{w128}
use Rattle.std.specs.Int.RustNames.{FitsSigned}
use Rattle.std.proofs.lemmas.Int.{to_z-of_z}
use Rattle.ped_tree.specs.Views.{expr_tree}
use Rattle.ped_store.specs.Cells.{Cell}
use Rattle.ped_store.specs.CellViews.{cell_view}
use Rattle.ped_store.specs.Keeping.{memory_of}
use Rattle.ped_eval.specs.ScopeViews.{names_at}
use Rattle.ped_eval.specs.Evaluation.{Seen}
use Rattle.ped_eval.specs.Values.{value, target}
use Rattle.ped_eval.specs.Statements.{Stored, assigned}
use Rattle.ped_eval.specs.Noting.{HasNoted, HasReferred, seen_next, seen_at, target_seen_at}
use Rattle.ped_eval.specs.Results.{value_at, target_at}
use Rattle.ped_eval.specs.Targets.{bounded}
use Rattle.ped_eval.proofs.Assignments.{named_stands, assigned_value, assigned_place, assigned_stored, assigned_cell, assigned_unstored}
use Rattle.ped_eval.proofs.Notings.{both_noted}
use Rattle.ped_eval.proofs.Storing.{assigned_seen, fault_added, write_added}
use Rattle.ped_eval.proofs.statements.assign_cell.Goals as goal

pub set-requires-clause-stands : goal.set-requires-clause-stands
set-requires-clause-stands c =
    named_stands c.args.symbols.now c.args.state.now.scope (memory_of c.args.state.now.store) (expr_tree c.args.left.now) (cell_view c.in-Ok-target_cell.cell) c.requires.ready c.requires.right c.in-Ok-target_cell.ensures.named

pub returns-in-Ok-set-clause-ok : goal.returns-in-Ok-set-clause-ok
unfolding value_at target_at seen_at target_seen_at
returns-in-Ok-set-clause-ok c =
    let m = memory_of c.args.state.now.store in
    let at = λ (k : List (List ℕ × ℤ)). names_at m c.args.state.now.scope k in
    let names = names_at m c.args.state.now.scope c.args.symbols.now.constants in
    let left = expr_tree c.args.left.now in
    let right = expr_tree c.args.right.now in
    let v : ℤ = to_z w128 (of_z w128 c.in-Ok.value) in
    let fits : FitsSigned w128 c.in-Ok.value = search rules in
    let h : (value names right m.cells).result ≡ Ok v = sym (ap (λ (k : List (List ℕ × ℤ)). (value (at k) right m.cells).result) c.consts.ensures) ∙ sym c.value_of.ensures.value ∙ c.in-Ok.is ∙ ap Ok (sym (to_z-of_z w128 c.in-Ok.value fits)) in
    let cell = cell_view c.in-Ok-target_cell.cell in
    let k : (target names left m.cells).result ≡ bounded m cell = sym (ap (λ (k : List (List ℕ × ℤ)). (target (at k) left m.cells).result) c.consts.ensures) ∙ c.in-Ok-target_cell.ensures.target in
    assigned_stored names left right m v cell h k (memory_of c.set.new.self) c.in-Ok-set.ensures.ok

pub returns-in-Ok-set-clause-noted : goal.returns-in-Ok-set-clause-noted
unfolding value_at target_at seen_at target_seen_at
returns-in-Ok-set-clause-noted c =
    let m = memory_of c.args.state.now.store in
    let at = λ (k : List (List ℕ × ℤ)). names_at m c.args.state.now.scope k in
    let names = names_at m c.args.state.now.scope c.args.symbols.now.constants in
    let left = expr_tree c.args.left.now in
    let right = expr_tree c.args.right.now in
    let v : ℤ = to_z w128 (of_z w128 c.in-Ok.value) in
    let fits : FitsSigned w128 c.in-Ok.value = search rules in
    let h : (value names right m.cells).result ≡ Ok v = sym (ap (λ (k : List (List ℕ × ℤ)). (value (at k) right m.cells).result) c.consts.ensures) ∙ sym c.value_of.ensures.value ∙ c.in-Ok.is ∙ ap Ok (sym (to_z-of_z w128 c.in-Ok.value fits)) in
    let cell = cell_view c.in-Ok-target_cell.cell in
    let k : (target names left m.cells).result ≡ bounded m cell = sym (ap (λ (k : List (List ℕ × ℤ)). (target (at k) left m.cells).result) c.consts.ensures) ∙ c.in-Ok-target_cell.ensures.target in
    let first : HasNoted c.args.notes.now (value names right m.cells).seen c.value_of.new.notes = subst (λ (k : List (List ℕ × ℤ)). HasNoted c.args.notes.now (value (at k) right m.cells).seen c.value_of.new.notes) c.consts.ensures c.value_of.ensures.noted in
    let second : HasNoted c.value_of.new.notes (target names left m.cells).seen c.target_cell.new.notes = subst (λ (k : List (List ℕ × ℤ)). HasNoted c.value_of.new.notes (target (at k) left m.cells).seen c.target_cell.new.notes) c.consts.ensures c.target_cell.ensures.noted in
    let seen : List Seen = (value names right m.cells).seen ++ (target names left m.cells).seen in
    let reads : (assigned names left right m.cells).seen ≡ seen = assigned_seen names left right m.cells ∙ ap (λ (r : Result ℤ ℕ). (value names right m.cells).seen ++ seen_next r (target names left m.cells).seen) h in
    let both = both_noted c.args.notes.now c.value_of.new.notes c.target_cell.new.notes (value names right m.cells).seen (target names left m.cells).seen first second in
    let w = assigned_stored names left right m v cell h k (memory_of c.set.new.self) c.in-Ok-set.ensures.ok in
    write_added (λ (w : Stored). w.cell) (assigned names left right m.cells) seen c.args.notes.now reads c.target_cell.new.notes c.refer.new.self w.0 w.1 both
    (subst (λ (d : Cell). HasReferred c.target_cell.new.notes d true c.refer.new.self) (assigned_cell names left right m v cell h k (memory_of c.set.new.self) c.in-Ok-set.ensures.ok) c.refer.ensures)

pub returns-in-Err-set-clause-err : goal.returns-in-Err-set-clause-err
unfolding value_at target_at seen_at target_seen_at
returns-in-Err-set-clause-err c =
    let m = memory_of c.args.state.now.store in
    let at = λ (k : List (List ℕ × ℤ)). names_at m c.args.state.now.scope k in
    let names = names_at m c.args.state.now.scope c.args.symbols.now.constants in
    let left = expr_tree c.args.left.now in
    let right = expr_tree c.args.right.now in
    let v : ℤ = to_z w128 (of_z w128 c.in-Ok.value) in
    let fits : FitsSigned w128 c.in-Ok.value = search rules in
    let h : (value names right m.cells).result ≡ Ok v = sym (ap (λ (k : List (List ℕ × ℤ)). (value (at k) right m.cells).result) c.consts.ensures) ∙ sym c.value_of.ensures.value ∙ c.in-Ok.is ∙ ap Ok (sym (to_z-of_z w128 c.in-Ok.value fits)) in
    let cell = cell_view c.in-Ok-target_cell.cell in
    let k : (target names left m.cells).result ≡ bounded m cell = sym (ap (λ (k : List (List ℕ × ℤ)). (target (at k) left m.cells).result) c.consts.ensures) ∙ c.in-Ok-target_cell.ensures.target in
    assigned_unstored names left right m v cell h k c.in-Err-set.fault c.in-Err-set.ensures.err.0

pub returns-in-Err-set-clause-noted : goal.returns-in-Err-set-clause-noted
unfolding value_at target_at seen_at target_seen_at
returns-in-Err-set-clause-noted c =
    let m = memory_of c.args.state.now.store in
    let at = λ (k : List (List ℕ × ℤ)). names_at m c.args.state.now.scope k in
    let names = names_at m c.args.state.now.scope c.args.symbols.now.constants in
    let left = expr_tree c.args.left.now in
    let right = expr_tree c.args.right.now in
    let v : ℤ = to_z w128 (of_z w128 c.in-Ok.value) in
    let fits : FitsSigned w128 c.in-Ok.value = search rules in
    let h : (value names right m.cells).result ≡ Ok v = sym (ap (λ (k : List (List ℕ × ℤ)). (value (at k) right m.cells).result) c.consts.ensures) ∙ sym c.value_of.ensures.value ∙ c.in-Ok.is ∙ ap Ok (sym (to_z-of_z w128 c.in-Ok.value fits)) in
    let cell = cell_view c.in-Ok-target_cell.cell in
    let k : (target names left m.cells).result ≡ bounded m cell = sym (ap (λ (k : List (List ℕ × ℤ)). (target (at k) left m.cells).result) c.consts.ensures) ∙ c.in-Ok-target_cell.ensures.target in
    let first : HasNoted c.args.notes.now (value names right m.cells).seen c.value_of.new.notes = subst (λ (k : List (List ℕ × ℤ)). HasNoted c.args.notes.now (value (at k) right m.cells).seen c.value_of.new.notes) c.consts.ensures c.value_of.ensures.noted in
    let second : HasNoted c.value_of.new.notes (target names left m.cells).seen c.target_cell.new.notes = subst (λ (k : List (List ℕ × ℤ)). HasNoted c.value_of.new.notes (target (at k) left m.cells).seen c.target_cell.new.notes) c.consts.ensures c.target_cell.ensures.noted in
    let seen : List Seen = (value names right m.cells).seen ++ (target names left m.cells).seen in
    let reads : (assigned names left right m.cells).seen ≡ seen = assigned_seen names left right m.cells ∙ ap (λ (r : Result ℤ ℕ). (value names right m.cells).seen ++ seen_next r (target names left m.cells).seen) h in
    let both = both_noted c.args.notes.now c.value_of.new.notes c.target_cell.new.notes (value names right m.cells).seen (target names left m.cells).seen first second in
    fault_added (λ (w : Stored). w.cell) (assigned names left right m.cells) seen c.args.notes.now reads c.target_cell.new.notes c.in-Err-set.fault
    (assigned_unstored names left right m v cell h k c.in-Err-set.fault c.in-Err-set.ensures.err.0) both

pub returns-in-Err-target_cell-clause-err : goal.returns-in-Err-target_cell-clause-err
unfolding value_at target_at seen_at target_seen_at
returns-in-Err-target_cell-clause-err c =
    let m = memory_of c.args.state.now.store in
    let at = λ (k : List (List ℕ × ℤ)). names_at m c.args.state.now.scope k in
    let names = names_at m c.args.state.now.scope c.args.symbols.now.constants in
    let left = expr_tree c.args.left.now in
    let right = expr_tree c.args.right.now in
    let v : ℤ = to_z w128 (of_z w128 c.in-Ok.value) in
    let fits : FitsSigned w128 c.in-Ok.value = search rules in
    let h : (value names right m.cells).result ≡ Ok v = sym (ap (λ (k : List (List ℕ × ℤ)). (value (at k) right m.cells).result) c.consts.ensures) ∙ sym c.value_of.ensures.value ∙ c.in-Ok.is ∙ ap Ok (sym (to_z-of_z w128 c.in-Ok.value fits)) in
    let k : (target names left m.cells).result ≡ Err c.in-Err-target_cell.fault = sym (ap (λ (k : List (List ℕ × ℤ)). (target (at k) left m.cells).result) c.consts.ensures) ∙ c.in-Err-target_cell.ensures.err in
    assigned_place names left right m.cells v c.in-Err-target_cell.fault h k

pub returns-in-Err-target_cell-clause-noted : goal.returns-in-Err-target_cell-clause-noted
unfolding value_at target_at seen_at target_seen_at
returns-in-Err-target_cell-clause-noted c =
    let m = memory_of c.args.state.now.store in
    let at = λ (k : List (List ℕ × ℤ)). names_at m c.args.state.now.scope k in
    let names = names_at m c.args.state.now.scope c.args.symbols.now.constants in
    let left = expr_tree c.args.left.now in
    let right = expr_tree c.args.right.now in
    let v : ℤ = to_z w128 (of_z w128 c.in-Ok.value) in
    let fits : FitsSigned w128 c.in-Ok.value = search rules in
    let h : (value names right m.cells).result ≡ Ok v = sym (ap (λ (k : List (List ℕ × ℤ)). (value (at k) right m.cells).result) c.consts.ensures) ∙ sym c.value_of.ensures.value ∙ c.in-Ok.is ∙ ap Ok (sym (to_z-of_z w128 c.in-Ok.value fits)) in
    let k : (target names left m.cells).result ≡ Err c.in-Err-target_cell.fault = sym (ap (λ (k : List (List ℕ × ℤ)). (target (at k) left m.cells).result) c.consts.ensures) ∙ c.in-Err-target_cell.ensures.err in
    let first : HasNoted c.args.notes.now (value names right m.cells).seen c.value_of.new.notes = subst (λ (k : List (List ℕ × ℤ)). HasNoted c.args.notes.now (value (at k) right m.cells).seen c.value_of.new.notes) c.consts.ensures c.value_of.ensures.noted in
    let second : HasNoted c.value_of.new.notes (target names left m.cells).seen c.target_cell.new.notes = subst (λ (k : List (List ℕ × ℤ)). HasNoted c.value_of.new.notes (target (at k) left m.cells).seen c.target_cell.new.notes) c.consts.ensures c.target_cell.ensures.noted in
    let seen : List Seen = (value names right m.cells).seen ++ (target names left m.cells).seen in
    let reads : (assigned names left right m.cells).seen ≡ seen = assigned_seen names left right m.cells ∙ ap (λ (r : Result ℤ ℕ). (value names right m.cells).seen ++ seen_next r (target names left m.cells).seen) h in
    let both = both_noted c.args.notes.now c.value_of.new.notes c.target_cell.new.notes (value names right m.cells).seen (target names left m.cells).seen first second in
    fault_added (λ (w : Stored). w.cell) (assigned names left right m.cells) seen c.args.notes.now reads c.target_cell.new.notes c.in-Err-target_cell.fault
    (assigned_place names left right m.cells v c.in-Err-target_cell.fault h k) both

pub returns-in-Err-clause-err : goal.returns-in-Err-clause-err
unfolding value_at target_at seen_at target_seen_at
returns-in-Err-clause-err c =
    let m = memory_of c.args.state.now.store in
    let at = λ (k : List (List ℕ × ℤ)). names_at m c.args.state.now.scope k in
    let names = names_at m c.args.state.now.scope c.args.symbols.now.constants in
    let left = expr_tree c.args.left.now in
    let right = expr_tree c.args.right.now in
    let h : (value names right m.cells).result ≡ Err c.in-Err.fault = sym (ap (λ (k : List (List ℕ × ℤ)). (value (at k) right m.cells).result) c.consts.ensures) ∙ sym c.value_of.ensures.value ∙ c.in-Err.is in
    assigned_value names left right m.cells c.in-Err.fault h

pub returns-in-Err-clause-noted : goal.returns-in-Err-clause-noted
unfolding value_at target_at seen_at target_seen_at
returns-in-Err-clause-noted c =
    let m = memory_of c.args.state.now.store in
    let at = λ (k : List (List ℕ × ℤ)). names_at m c.args.state.now.scope k in
    let names = names_at m c.args.state.now.scope c.args.symbols.now.constants in
    let left = expr_tree c.args.left.now in
    let right = expr_tree c.args.right.now in
    let h : (value names right m.cells).result ≡ Err c.in-Err.fault = sym (ap (λ (k : List (List ℕ × ℤ)). (value (at k) right m.cells).result) c.consts.ensures) ∙ sym c.value_of.ensures.value ∙ c.in-Err.is in
    let first : HasNoted c.args.notes.now (value names right m.cells).seen c.value_of.new.notes = subst (λ (k : List (List ℕ × ℤ)). HasNoted c.args.notes.now (value (at k) right m.cells).seen c.value_of.new.notes) c.consts.ensures c.value_of.ensures.noted in
    let reads : (assigned names left right m.cells).seen ≡ (value names right m.cells).seen =
    assigned_seen names left right m.cells ∙ ap (λ (r : Result ℤ ℕ). (value names right m.cells).seen ++ seen_next r (target names left m.cells).seen) h ∙ append-nil (value names right m.cells).seen in
    fault_added (λ (w : Stored). w.cell) (assigned names left right m.cells) (value names right m.cells).seen c.args.notes.now reads c.value_of.new.notes c.in-Err.fault (assigned_value names left right m.cells c.in-Err.fault h) first
