use Rattle.std.proofs.Common.{sym, ap, ◌∙◌, Ok, rules}
use Rattle.std.specs.Int.{w128}
use Rattle.std.specs.Int.RustNames.{FitsSigned}
use Rattle.std.proofs.lemmas.Int.{to_z-of_z}
use Rattle.std.proofs.lemmas.Option.{IfSome_then}
use Rattle.ped_eval.proofs.Steps.{var_constant, var_variable}
use Rattle.ped_eval.proofs.narrow.narrow_scalar.Goals as goal

pub returns-in-Some : goal.returns-in-Some
returns-in-Some c =
    let fits : FitsSigned w128 c.in-Some.constant = search rules in
    IfSome_then c.narrowed.result c.narrowed.ensures
    (λ v h. sym (var_constant c.args.around.now c.args.name.now c.in-Some.constant (sym c.constant_named.ensures ∙ c.in-Some.is)) ∙ ap Ok (sym (to_z-of_z w128 c.in-Some.constant fits) ∙ sym h))

pub returns-in-None : goal.returns-in-None
returns-in-None c =
    IfSome_then c.narrow_variable.result c.narrow_variable.ensures
    (λ v h. sym (var_variable c.args.around.now c.args.name.now (sym c.constant_named.ensures ∙ c.in-None.is)) ∙ h)
