use Rattle.std.proofs.Common.{◌≡◌, ℕ, ℤ, List, [], ◌∷◌, map, true≢false, arith, Ok, Err, rules, to_z, of_z, sym, ap, ◌∙◌}
use Rattle.std.specs.Int.{w128}
use Rattle.std.specs.Int.RustNames.{FitsSigned}
use Rattle.std.proofs.lemmas.Int.{to_z-of_z}
use Rattle.std.proofs.lemmas.Result.{on_ok_weaker, IfErr-weaker}
use Rattle.ped_tree.specs.Tree.{Element}
use Rattle.ped_tree.specs.Views.{expr_tree, pack_exprs}
use Rattle.ped_store.specs.Cells as cells
use Rattle.ped_store.specs.Keeping.{memory_of}
use Rattle.ped_store.specs.Memories.{stored}
use Rattle.ped_eval.specs.ScopeViews.{names_at}
use Rattle.ped_eval.specs.Values.{value, target}
use Rattle.ped_eval.specs.Results.{value_at}
use Rattle.ped_eval.specs.Targets.{bounded}
use Rattle.ped_eval.proofs.OneSubscript.{one_bounded, one_faulted}
use Rattle.ped_eval.proofs.Assignments.{assigned_value, assigned_place, assigned_stored, assigned_unstored}
use Rattle.ped_eval.proofs.statements.assign_element.Goals as goal

cell_known : (c : goal.After-set_element) → (target (names_at (memory_of c.args.state.now.store) c.args.state.now.scope c.args.symbols.now.constants) (Element c.args.name.now (pack_exprs (map expr_tree c.args.indices.now))) (memory_of c.args.state.now.store).cells).result
    ≡ bounded (memory_of c.args.state.now.store) (cells.Element c.args.name.now (c.in-Ok-whole_value.place ∷ []))
cell_known c =
    let m = memory_of c.args.state.now.store in
    let left = Element c.args.name.now (pack_exprs (map expr_tree c.args.indices.now)) in
    let known = one_bounded _ c.args.name.now c.args.indices.now c.index-item.result c.in-Ok-whole_value.place (omega arith) c.index-item.is (sym c.whole_value.ensures.value ∙ c.in-Ok-whole_value.is) in
    sym (ap (λ (k : List (List ℕ × ℤ)). (target (names_at m c.args.state.now.scope k) left m.cells).result) c.consts.ensures) ∙ known

no_cell : (c : goal.In-Err-whole_value) → (target (names_at (memory_of c.args.state.now.store) c.args.state.now.scope c.args.symbols.now.constants) (Element c.args.name.now (pack_exprs (map expr_tree c.args.indices.now))) (memory_of c.args.state.now.store).cells).result
    ≡ Err c.in-Err-whole_value.fault
no_cell c =
    let m = memory_of c.args.state.now.store in
    let left = Element c.args.name.now (pack_exprs (map expr_tree c.args.indices.now)) in
    let faulted = one_faulted _ c.args.name.now c.args.indices.now c.index-item.result c.in-Err-whole_value.fault (omega arith) c.index-item.is (sym c.whole_value.ensures.value ∙ c.in-Err-whole_value.is) in
    sym (ap (λ (k : List (List ℕ × ℤ)). (target (names_at m c.args.state.now.scope k) left m.cells).result) c.consts.ensures) ∙ faulted

pub returns-in-Ok-whole_value-clause-ok : goal.returns-in-Ok-whole_value-clause-ok
unfolding value_at
returns-in-Ok-whole_value-clause-ok c =
    let m = memory_of c.args.state.now.store in
    let at = λ (k : List (List ℕ × ℤ)). names_at m c.args.state.now.scope k in
    let names = names_at m c.args.state.now.scope c.args.symbols.now.constants in
    let left = Element c.args.name.now (pack_exprs (map expr_tree c.args.indices.now)) in
    let right = expr_tree c.args.right.now in
    let v : ℤ = to_z w128 (of_z w128 c.in-Ok.value) in
    let fits : FitsSigned w128 c.in-Ok.value = search rules in
    let h : (value names right m.cells).result ≡ Ok v = sym (ap (λ (k : List (List ℕ × ℤ)). (value (at k) right m.cells).result) c.consts.ensures) ∙ sym c.unnoted_value.ensures.value ∙ c.in-Ok.is ∙ ap Ok (sym (to_z-of_z w128 c.in-Ok.value fits)) in
    let place_fits : FitsSigned w128 c.in-Ok-whole_value.place = search rules in
    let js : List ℤ = c.in-Ok-whole_value.place ∷ [] in
    let k : (target names left m.cells).result ≡ bounded m (cells.Element c.args.name.now js) = cell_known c in
    on_ok_weaker c.set_element.result
    (λ p. assigned_stored names left right m v (cells.Element c.args.name.now js) h k (memory_of c.set_element.new.self) (ap (λ (u : ℤ). stored (cells.Element c.args.name.now (u ∷ [])) v m) (sym (to_z-of_z w128 c.in-Ok-whole_value.place place_fits)) ∙ p))
    c.set_element.ensures.ok

pub returns-in-Ok-whole_value-clause-err : goal.returns-in-Ok-whole_value-clause-err
unfolding value_at
returns-in-Ok-whole_value-clause-err c =
    let m = memory_of c.args.state.now.store in
    let at = λ (k : List (List ℕ × ℤ)). names_at m c.args.state.now.scope k in
    let names = names_at m c.args.state.now.scope c.args.symbols.now.constants in
    let left = Element c.args.name.now (pack_exprs (map expr_tree c.args.indices.now)) in
    let right = expr_tree c.args.right.now in
    let v : ℤ = to_z w128 (of_z w128 c.in-Ok.value) in
    let fits : FitsSigned w128 c.in-Ok.value = search rules in
    let h : (value names right m.cells).result ≡ Ok v = sym (ap (λ (k : List (List ℕ × ℤ)). (value (at k) right m.cells).result) c.consts.ensures) ∙ sym c.unnoted_value.ensures.value ∙ c.in-Ok.is ∙ ap Ok (sym (to_z-of_z w128 c.in-Ok.value fits)) in
    let place_fits : FitsSigned w128 c.in-Ok-whole_value.place = search rules in
    let js : List ℤ = c.in-Ok-whole_value.place ∷ [] in
    let k : (target names left m.cells).result ≡ bounded m (cells.Element c.args.name.now js) = cell_known c in
    IfErr-weaker c.set_element.result _ _
    (λ n p. assigned_unstored names left right m v (cells.Element c.args.name.now js) h k n (ap (λ (u : ℤ). stored (cells.Element c.args.name.now (u ∷ [])) v m) (sym (to_z-of_z w128 c.in-Ok-whole_value.place place_fits)) ∙ p.0))
    c.set_element.ensures.err

pub returns-in-Ok-whole_value-clause-noted : goal.returns-in-Ok-whole_value-clause-noted
returns-in-Ok-whole_value-clause-noted c = λ k. absurd (true≢false (sym (c.unnoted_value.ensures.noted (c.whole_value.ensures.noted k).kept).kept ∙ c.requires.kept))

pub returns-in-Err-whole_value-clause-err : goal.returns-in-Err-whole_value-clause-err
unfolding value_at
returns-in-Err-whole_value-clause-err c =
    let m = memory_of c.args.state.now.store in
    let at = λ (k : List (List ℕ × ℤ)). names_at m c.args.state.now.scope k in
    let names = names_at m c.args.state.now.scope c.args.symbols.now.constants in
    let left = Element c.args.name.now (pack_exprs (map expr_tree c.args.indices.now)) in
    let right = expr_tree c.args.right.now in
    let v : ℤ = to_z w128 (of_z w128 c.in-Ok.value) in
    let fits : FitsSigned w128 c.in-Ok.value = search rules in
    let h : (value names right m.cells).result ≡ Ok v = sym (ap (λ (k : List (List ℕ × ℤ)). (value (at k) right m.cells).result) c.consts.ensures) ∙ sym c.unnoted_value.ensures.value ∙ c.in-Ok.is ∙ ap Ok (sym (to_z-of_z w128 c.in-Ok.value fits)) in
    let k : (target names left m.cells).result ≡ Err c.in-Err-whole_value.fault = no_cell c in
    assigned_place names left right m.cells v c.in-Err-whole_value.fault h k

pub returns-in-Err-whole_value-clause-noted : goal.returns-in-Err-whole_value-clause-noted
returns-in-Err-whole_value-clause-noted c = λ k. absurd (true≢false (sym (c.unnoted_value.ensures.noted (c.whole_value.ensures.noted k).kept).kept ∙ c.requires.kept))

pub returns-in-Err-clause-err : goal.returns-in-Err-clause-err
unfolding value_at
returns-in-Err-clause-err c =
    let m = memory_of c.args.state.now.store in
    let at = λ (k : List (List ℕ × ℤ)). names_at m c.args.state.now.scope k in
    let names = names_at m c.args.state.now.scope c.args.symbols.now.constants in
    let left = Element c.args.name.now (pack_exprs (map expr_tree c.args.indices.now)) in
    let right = expr_tree c.args.right.now in
    let h : (value names right m.cells).result ≡ Err c.in-Err.fault = sym (ap (λ (k : List (List ℕ × ℤ)). (value (at k) right m.cells).result) c.consts.ensures) ∙ sym c.unnoted_value.ensures.value ∙ c.in-Err.is in
    assigned_value names left right m.cells c.in-Err.fault h

pub returns-in-Err-clause-noted : goal.returns-in-Err-clause-noted
returns-in-Err-clause-noted c = λ k. absurd (true≢false (sym (c.unnoted_value.ensures.noted k).kept ∙ c.requires.kept))
