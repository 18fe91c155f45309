use Rattle.std.proofs.Common.{true≢false, sym, ap, ◌∙◌, Ok, rules}
use Rattle.std.specs.Int.{w64, w128}
use Rattle.std.specs.Int.RustNames.{FitsSigned}
use Rattle.std.proofs.lemmas.Int.{to_z-of_z}
use Rattle.ped_eval.proofs.narrow.unnoted_value.Goals as goal

pub returns-in-Some-clause-value : goal.returns-in-Some-clause-value
returns-in-Some-clause-value c =
    let fits : FitsSigned w128 c.from.result = search rules in
    let narrow_fits : FitsSigned w64 c.in-Some.value = search rules in
    ap Ok (to_z-of_z w128 c.from.result fits ∙ c.from.ensures ∙ to_z-of_z w64 c.in-Some.value narrow_fits) ∙ sym c.in-Some.ensures.value

pub returns-in-Some-clause-noted : goal.returns-in-Some-clause-noted
returns-in-Some-clause-noted c = λ k. absurd (true≢false (sym k ∙ c.narrow_value.ensures.kept))

pub returns-in-None-clause-noted : goal.returns-in-None-clause-noted
returns-in-None-clause-noted c = λ k. absurd (true≢false (sym (c.value_of.ensures.noted k).kept ∙ c.narrow_value.ensures.kept))
