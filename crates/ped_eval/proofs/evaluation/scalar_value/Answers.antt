use Rattle.std.proofs.Common.{ap, sym, ◌∙◌, Ok, rules}
use Rattle.std.specs.Int.{w128}
use Rattle.std.specs.Int.RustNames.{FitsSigned}
use Rattle.std.proofs.lemmas.Int.{to_z-of_z}
use Rattle.ped_eval.proofs.Steps.{var_constant, var_variable}
use Rattle.ped_eval.proofs.Seeing.{constant_seen, variable_seen}
use Rattle.ped_eval.proofs.Notings.{noted_as, none_noted}
use Rattle.ped_eval.proofs.evaluation.scalar_value.Goals as goal

pub returns-in-Some-clause-value : goal.returns-in-Some-clause-value
returns-in-Some-clause-value c =
    let fits : FitsSigned w128 c.in-Some.constant = search rules in
    ap Ok (to_z-of_z w128 c.in-Some.constant fits) ∙ var_constant c.args.around.now c.args.name.now c.in-Some.constant (sym c.constant_named.ensures ∙ c.in-Some.is)

pub returns-in-Some-clause-noted : goal.returns-in-Some-clause-noted
returns-in-Some-clause-noted c =
    noted_as c.args.notes.now c.args.notes.now _ _ (sym (constant_seen c.args.around.now c.args.name.now _ (sym c.constant_named.ensures ∙ c.in-Some.is))) (none_noted c.args.notes.now)

pub returns-in-None-clause-value : goal.returns-in-None-clause-value
returns-in-None-clause-value c = c.variable_value.ensures.value ∙ var_variable c.args.around.now c.args.name.now (sym c.constant_named.ensures ∙ c.in-None.is)

pub returns-in-None-clause-noted : goal.returns-in-None-clause-noted
returns-in-None-clause-noted c =
    noted_as c.args.notes.now c.variable_value.new.notes _ _ (sym (variable_seen c.args.around.now c.args.name.now (sym c.constant_named.ensures ∙ c.in-None.is))) c.variable_value.ensures.noted
