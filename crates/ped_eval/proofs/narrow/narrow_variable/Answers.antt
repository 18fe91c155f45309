use Rattle.std.proofs.Common.{sym, ap, ◌∙◌, Ok, rules}
use Rattle.std.specs.Int.{w128}
use Rattle.std.specs.Int.RustNames.{FitsSigned}
use Rattle.std.proofs.lemmas.Int.{to_z-of_z}
use Rattle.std.proofs.lemmas.Option.{IfSome_then}
use Rattle.ped_store.specs.Keeping.{memory_of}
use Rattle.ped_eval.specs.Scopes.{cell_of}
use Rattle.ped_eval.specs.Values as Values
use Rattle.ped_eval.proofs.narrow.narrow_variable.Goals as goal

pub returns-in-Some : goal.returns-in-Some
returns-in-Some c =
    let m = memory_of c.args.around.now.store.now in
    let fits : FitsSigned w128 c.in-Some.value = search rules in
    IfSome_then c.narrowed.result c.narrowed.ensures
    (λ v h. ap (λ i. (Values.variable_value i m.cells (cell_of c.args.around.now.scope.now c.args.name.now)).result) (sym c.index.ensures ∙ c.in-Some.is) ∙ ap Ok (sym (to_z-of_z w128 c.in-Some.value fits) ∙ sym h))

pub returns-in-None : goal.returns-in-None
returns-in-None c =
    let m = memory_of c.args.around.now.store.now in
    IfSome_then c.narrow_stored.result c.narrow_stored.ensures
    (λ v h. ap (λ i. (Values.variable_value i m.cells (cell_of c.args.around.now.scope.now c.args.name.now)).result) (sym c.index.ensures ∙ c.in-None.is) ∙ h)
