use Rattle.std.proofs.Common.{◌≡◌, ℕ, ℤ, List, map, length, take, true≢false, Ok, Err, rules, to_z, of_z, sym, ap, ◌∙◌}
use Rattle.std.specs.Int.{w128}
use Rattle.std.specs.Int.RustNames.{FitsSigned}
use Rattle.std.proofs.lemmas.Int.{to_z-of_z}
use Rattle.std.proofs.lemmas.Result.{on_ok_weaker, IfErr-weaker}
use Rattle.ped_tree.specs.Tree.{Element}
use Rattle.ped_tree.specs.Views.{expr_tree, pack_exprs}
use Rattle.ped_store.specs.Cells as cells
use Rattle.ped_store.specs.Keeping.{memory_of}
use Rattle.ped_store.specs.Memories.{stored}
use Rattle.ped_eval.specs.ScopeViews.{names_at}
use Rattle.ped_eval.specs.Values.{value, target}
use Rattle.ped_eval.specs.Results.{value_at, target_at}
use Rattle.ped_eval.specs.Targets.{bounded}
use Rattle.ped_eval.proofs.Steps.{target_ranked}
use Rattle.ped_eval.proofs.Assignments.{assigned_value, assigned_place, assigned_stored, assigned_unstored}
use Rattle.ped_eval.proofs.statements.assign_by_more.Goals as goal

pub returns-in-Ok-ranked_places-clause-ok : goal.returns-in-Ok-ranked_places-clause-ok
unfolding value_at target_at
returns-in-Ok-ranked_places-clause-ok c =
    let m = memory_of c.args.state.now.store in
    let at = λ (k : List (List ℕ × ℤ)). names_at m c.args.state.now.scope k in
    let names = names_at m c.args.state.now.scope c.args.symbols.now.constants in
    let left = Element c.args.name.now (pack_exprs (map expr_tree c.args.indices.now)) in
    let right = expr_tree c.args.right.now in
    let v : ℤ = to_z w128 (of_z w128 c.in-Ok.value) in
    let fits : FitsSigned w128 c.in-Ok.value = search rules in
    let h : (value names right m.cells).result ≡ Ok v = sym (ap (λ (k : List (List ℕ × ℤ)). (value (at k) right m.cells).result) c.consts.ensures) ∙ sym c.unnoted_value.ensures.value ∙ c.in-Ok.is ∙ ap Ok (sym (to_z-of_z w128 c.in-Ok.value fits)) in
    let js : List ℤ = take (length c.args.indices.now) c.in-Ok-ranked_places.places in
    let k : (target names left m.cells).result ≡ bounded m (cells.Element c.args.name.now js) =
    sym (ap (λ (k : List (List ℕ × ℤ)). (target (at k) left m.cells).result) c.consts.ensures) ∙ target_ranked _ c.args.name.now c.args.indices.now js c.in-Ok-ranked_places.ensures.places c.in-Ok-ranked_places.ensures.rank in
    on_ok_weaker c.set_element.result
    (λ p. assigned_stored names left right m v (cells.Element c.args.name.now js) h k (memory_of c.set_element.new.self) (ap (λ (ks : List ℤ). stored (cells.Element c.args.name.now ks) v m) (sym c.first_places.ensures) ∙ p))
    c.set_element.ensures.ok

pub returns-in-Ok-ranked_places-clause-err : goal.returns-in-Ok-ranked_places-clause-err
unfolding value_at target_at
returns-in-Ok-ranked_places-clause-err c =
    let m = memory_of c.args.state.now.store in
    let at = λ (k : List (List ℕ × ℤ)). names_at m c.args.state.now.scope k in
    let names = names_at m c.args.state.now.scope c.args.symbols.now.constants in
    let left = Element c.args.name.now (pack_exprs (map expr_tree c.args.indices.now)) in
    let right = expr_tree c.args.right.now in
    let v : ℤ = to_z w128 (of_z w128 c.in-Ok.value) in
    let fits : FitsSigned w128 c.in-Ok.value = search rules in
    let h : (value names right m.cells).result ≡ Ok v = sym (ap (λ (k : List (List ℕ × ℤ)). (value (at k) right m.cells).result) c.consts.ensures) ∙ sym c.unnoted_value.ensures.value ∙ c.in-Ok.is ∙ ap Ok (sym (to_z-of_z w128 c.in-Ok.value fits)) in
    let js : List ℤ = take (length c.args.indices.now) c.in-Ok-ranked_places.places in
    let k : (target names left m.cells).result ≡ bounded m (cells.Element c.args.name.now js) =
    sym (ap (λ (k : List (List ℕ × ℤ)). (target (at k) left m.cells).result) c.consts.ensures) ∙ target_ranked _ c.args.name.now c.args.indices.now js c.in-Ok-ranked_places.ensures.places c.in-Ok-ranked_places.ensures.rank in
    IfErr-weaker c.set_element.result _ _
    (λ n p. assigned_unstored names left right m v (cells.Element c.args.name.now js) h k n (ap (λ (ks : List ℤ). stored (cells.Element c.args.name.now ks) v m) (sym c.first_places.ensures) ∙ p.0))
    c.set_element.ensures.err

pub returns-in-Ok-ranked_places-clause-noted : goal.returns-in-Ok-ranked_places-clause-noted
returns-in-Ok-ranked_places-clause-noted c = λ k. absurd (true≢false (sym (c.unnoted_value.ensures.noted (c.ranked_places.ensures.noted k).kept).kept ∙ c.requires.kept))

pub returns-in-Err-ranked_places-clause-err : goal.returns-in-Err-ranked_places-clause-err
unfolding value_at target_at
returns-in-Err-ranked_places-clause-err c =
    let m = memory_of c.args.state.now.store in
    let at = λ (k : List (List ℕ × ℤ)). names_at m c.args.state.now.scope k in
    let names = names_at m c.args.state.now.scope c.args.symbols.now.constants in
    let left = Element c.args.name.now (pack_exprs (map expr_tree c.args.indices.now)) in
    let right = expr_tree c.args.right.now in
    let v : ℤ = to_z w128 (of_z w128 c.in-Ok.value) in
    let fits : FitsSigned w128 c.in-Ok.value = search rules in
    let h : (value names right m.cells).result ≡ Ok v = sym (ap (λ (k : List (List ℕ × ℤ)). (value (at k) right m.cells).result) c.consts.ensures) ∙ sym c.unnoted_value.ensures.value ∙ c.in-Ok.is ∙ ap Ok (sym (to_z-of_z w128 c.in-Ok.value fits)) in
    let k : (target names left m.cells).result ≡ Err c.in-Err-ranked_places.fault =
    sym (ap (λ (k : List (List ℕ × ℤ)). (target (at k) left m.cells).result) c.consts.ensures) ∙ c.in-Err-ranked_places.ensures.err c.args.name.now in
    assigned_place names left right m.cells v c.in-Err-ranked_places.fault h k

pub returns-in-Err-ranked_places-clause-noted : goal.returns-in-Err-ranked_places-clause-noted
returns-in-Err-ranked_places-clause-noted c = λ k. absurd (true≢false (sym (c.unnoted_value.ensures.noted (c.ranked_places.ensures.noted k).kept).kept ∙ c.requires.kept))

pub returns-in-Err-clause-err : goal.returns-in-Err-clause-err
unfolding value_at
returns-in-Err-clause-err c =
    let m = memory_of c.args.state.now.store in
    let at = λ (k : List (List ℕ × ℤ)). names_at m c.args.state.now.scope k in
    let names = names_at m c.args.state.now.scope c.args.symbols.now.constants in
    let left = Element c.args.name.now (pack_exprs (map expr_tree c.args.indices.now)) in
    let right = expr_tree c.args.right.now in
    let h : (value names right m.cells).result ≡ Err c.in-Err.fault = sym (ap (λ (k : List (List ℕ × ℤ)). (value (at k) right m.cells).result) c.consts.ensures) ∙ sym c.unnoted_value.ensures.value ∙ c.in-Err.is in
    assigned_value names left right m.cells c.in-Err.fault h

pub returns-in-Err-clause-noted : goal.returns-in-Err-clause-noted
returns-in-Err-clause-noted c = λ k. absurd (true≢false (sym (c.unnoted_value.ensures.noted k).kept ∙ c.requires.kept))
