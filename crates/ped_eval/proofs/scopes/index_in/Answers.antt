use Rattle.std.proofs.Common.{◌≡◌, Some, true, rules, sym, ap, ◌∙◌, if◌then◌else◌}
use Rattle.std.specs.Int.{w128}
use Rattle.std.specs.Int.RustNames.{FitsSigned}
use Rattle.std.proofs.lemmas.Int.{to_z-of_z}
use Rattle.ped_base.specs.Lists.{is_same_text}
use Rattle.ped_eval.specs.Scopes.{index_value}
use Rattle.ped_eval.specs.ScopeViews.{scope_view}
use Rattle.ped_eval.proofs.scopes.index_in.Goals as goal

pub returns-then-is_same_name : goal.returns-then-is_same_name
returns-then-is_same_name c =
    let x = c.args.name.now in
    let value = c.in-Some.innermost.now.value in
    let fits : FitsSigned w128 value = search rules in
    let same : is_same_text x c.in-Some.innermost.now.variable ≡ true = sym c.is_same_name.ensures ∙ c.if-is_same_name.true in
    ap Some (to_z-of_z w128 value fits)
    ∙ sym (
    sym c.loop-innermost.invariant
    ∙ ap (λ s. index_value s x) c.in-Some.ensures.is
    ∙ ap (λ b. if b then Some value else index_value (scope_view c.in-Some.outer.now) x) same
    )
