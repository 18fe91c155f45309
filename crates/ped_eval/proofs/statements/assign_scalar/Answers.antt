use Rattle.std.proofs.Common.{◌≡◌, ℕ, ℤ, List, true≢false, Ok, Err, rules, to_z, of_z, sym, ap, ◌∙◌}
use Rattle.std.specs.Int.{w128}
use Rattle.std.specs.Int.RustNames.{FitsSigned}
use Rattle.std.proofs.lemmas.Int.{to_z-of_z}
use Rattle.std.proofs.lemmas.Result.{on_ok_weaker, IfErr-weaker}
use Rattle.ped_tree.specs.Tree.{Var}
use Rattle.ped_tree.specs.Views.{expr_tree}
use Rattle.ped_store.specs.Cells.{Scalar}
use Rattle.ped_store.specs.Keeping.{memory_of}
use Rattle.ped_eval.specs.ScopeViews.{names_at}
use Rattle.ped_eval.specs.Values.{value, target}
use Rattle.ped_eval.specs.Results.{value_at}
use Rattle.ped_eval.proofs.Assignments.{named_stands, assigned_value, assigned_stored, assigned_unstored}
use Rattle.ped_eval.proofs.statements.assign_scalar.Goals as goal

pub set_scalar-requires : goal.set_scalar-requires
set_scalar-requires c =
    named_stands c.args.symbols.now c.args.state.now.scope (memory_of c.args.state.now.store) (Var c.args.name.now) (Scalar c.args.name.now) c.requires.ready c.requires.right (sym c.requires.own)

pub returns-in-Ok-clause-ok : goal.returns-in-Ok-clause-ok
unfolding value_at
returns-in-Ok-clause-ok c =
    let m = memory_of c.args.state.now.store in
    let at = λ (k : List (List ℕ × ℤ)). names_at m c.args.state.now.scope k in
    let names = names_at m c.args.state.now.scope c.args.symbols.now.constants in
    let right = expr_tree c.args.right.now in
    let v : ℤ = to_z w128 (of_z w128 c.in-Ok.value) in
    let fits : FitsSigned w128 c.in-Ok.value = search rules in
    let h : (value names right m.cells).result ≡ Ok v = sym (ap (λ (k : List (List ℕ × ℤ)). (value (at k) right m.cells).result) c.consts.ensures) ∙ sym c.unnoted_value.ensures.value ∙ c.in-Ok.is ∙ ap Ok (sym (to_z-of_z w128 c.in-Ok.value fits)) in
    let k : (target names (Var c.args.name.now) m.cells).result ≡ Ok (Scalar c.args.name.now) = ap Ok c.requires.own in
    on_ok_weaker c.set_scalar.result (λ p. assigned_stored names (Var c.args.name.now) right m v (Scalar c.args.name.now) h k (memory_of c.set_scalar.new.self) p) c.set_scalar.ensures.ok

pub returns-in-Ok-clause-err : goal.returns-in-Ok-clause-err
unfolding value_at
returns-in-Ok-clause-err c =
    let m = memory_of c.args.state.now.store in
    let at = λ (k : List (List ℕ × ℤ)). names_at m c.args.state.now.scope k in
    let names = names_at m c.args.state.now.scope c.args.symbols.now.constants in
    let right = expr_tree c.args.right.now in
    let v : ℤ = to_z w128 (of_z w128 c.in-Ok.value) in
    let fits : FitsSigned w128 c.in-Ok.value = search rules in
    let h : (value names right m.cells).result ≡ Ok v = sym (ap (λ (k : List (List ℕ × ℤ)). (value (at k) right m.cells).result) c.consts.ensures) ∙ sym c.unnoted_value.ensures.value ∙ c.in-Ok.is ∙ ap Ok (sym (to_z-of_z w128 c.in-Ok.value fits)) in
    let k : (target names (Var c.args.name.now) m.cells).result ≡ Ok (Scalar c.args.name.now) = ap Ok c.requires.own in
    IfErr-weaker c.set_scalar.result _ _ (λ n p. assigned_unstored names (Var c.args.name.now) right m v (Scalar c.args.name.now) h k n p.0) c.set_scalar.ensures.err

pub returns-in-Ok-clause-noted : goal.returns-in-Ok-clause-noted
returns-in-Ok-clause-noted c = λ k. absurd (true≢false (sym (c.unnoted_value.ensures.noted k).kept ∙ c.requires.kept))

pub returns-in-Err-clause-err : goal.returns-in-Err-clause-err
unfolding value_at
returns-in-Err-clause-err c =
    let m = memory_of c.args.state.now.store in
    let at = λ (k : List (List ℕ × ℤ)). names_at m c.args.state.now.scope k in
    let names = names_at m c.args.state.now.scope c.args.symbols.now.constants in
    let right = expr_tree c.args.right.now in
    let h : (value names right m.cells).result ≡ Err c.in-Err.fault = sym (ap (λ (k : List (List ℕ × ℤ)). (value (at k) right m.cells).result) c.consts.ensures) ∙ sym c.unnoted_value.ensures.value ∙ c.in-Err.is in
    assigned_value names (Var c.args.name.now) right m.cells c.in-Err.fault h

pub returns-in-Err-clause-noted : goal.returns-in-Err-clause-noted
returns-in-Err-clause-noted c = λ k. absurd (true≢false (sym (c.unnoted_value.ensures.noted k).kept ∙ c.requires.kept))
