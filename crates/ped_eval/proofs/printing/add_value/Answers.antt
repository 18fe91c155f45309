use Rattle.std.proofs.Common.{◌≡◌, ℕ, ℤ, List, Ok, Err, Result, rules, to_z, of_z, sym, ap, ◌∙◌}
use Rattle.std.specs.Fmt.{signed_decimal}
use Rattle.std.specs.Int.{w128}
use Rattle.std.specs.Int.RustNames.{FitsSigned}
use Rattle.std.proofs.lemmas.Int.{to_z-of_z}
use Rattle.ped_tree.specs.Views.{expr_tree}
use Rattle.ped_store.specs.Keeping.{memory_of}
use Rattle.ped_eval.specs.ScopeViews.{names_at}
use Rattle.ped_eval.specs.Evaluation.{onward, given}
use Rattle.ped_eval.specs.Values.{value}
use Rattle.ped_eval.specs.Noting.{seen_at}
use Rattle.ped_eval.specs.Results.{value_at}
use Rattle.ped_eval.proofs.Notings.{noted_as}
use Rattle.ped_eval.proofs.Storing.{value_seen}
use Rattle.ped_eval.proofs.printing.add_value.Goals as goal

pub returns-in-Ok-clause-added : goal.returns-in-Ok-clause-added
unfolding value_at
returns-in-Ok-clause-added c =
    let m = memory_of c.args.state.now.store in
    let e = λ (k : List (List ℕ × ℤ)). value (names_at m c.args.state.now.scope k) (expr_tree c.args.e.now) m.cells in
    let v : ℤ = to_z w128 (of_z w128 c.in-Ok.number) in
    let fits : FitsSigned w128 c.in-Ok.number = search rules in
    let h : (e c.args.symbols.now.constants).result ≡ Ok v = sym (ap (λ k. (e k).result) c.consts.ensures) ∙ sym c.value_of.ensures.value ∙ c.in-Ok.is ∙ ap Ok (sym (to_z-of_z w128 c.in-Ok.number fits)) in
    (signed_decimal v, ap (λ (r : Result ℤ ℕ). (onward (e c.args.symbols.now.constants).seen r (λ n. given (Ok (signed_decimal n)))).result) h, c.in_ok-push_signed-in-Ok.ensures)

pub returns-in-Ok-clause-noted : goal.returns-in-Ok-clause-noted
unfolding seen_at
returns-in-Ok-clause-noted c =
    let m = memory_of c.args.state.now.store in
    let e = λ (k : List (List ℕ × ℤ)). value (names_at m c.args.state.now.scope k) (expr_tree c.args.e.now) m.cells in
    noted_as c.args.notes.now c.value_of.new.notes _ _ (ap (λ k. (e k).seen) c.consts.ensures ∙ sym (value_seen (names_at m c.args.state.now.scope c.args.symbols.now.constants) m.cells (expr_tree c.args.e.now))) c.value_of.ensures.noted

pub returns-in-Err-clause-added : goal.returns-in-Err-clause-added
unfolding value_at
returns-in-Err-clause-added c =
    let m = memory_of c.args.state.now.store in
    let e = λ (k : List (List ℕ × ℤ)). value (names_at m c.args.state.now.scope k) (expr_tree c.args.e.now) m.cells in
    let h : (e c.args.symbols.now.constants).result ≡ Err c.in-Err.fault = sym (ap (λ k. (e k).result) c.consts.ensures) ∙ sym c.value_of.ensures.value ∙ c.in-Err.is in
    ap (λ (r : Result ℤ ℕ). (onward (e c.args.symbols.now.constants).seen r (λ n. given (Ok (signed_decimal n)))).result) h

pub returns-in-Err-clause-noted : goal.returns-in-Err-clause-noted
unfolding seen_at
returns-in-Err-clause-noted c =
    let m = memory_of c.args.state.now.store in
    let e = λ (k : List (List ℕ × ℤ)). value (names_at m c.args.state.now.scope k) (expr_tree c.args.e.now) m.cells in
    noted_as c.args.notes.now c.value_of.new.notes _ _ (ap (λ k. (e k).seen) c.consts.ensures ∙ sym (value_seen (names_at m c.args.state.now.scope c.args.symbols.now.constants) m.cells (expr_tree c.args.e.now))) c.value_of.ensures.noted
