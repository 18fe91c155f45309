use Rattle.std.proofs.Common.{sym, ap, ◌∙◌}
use Rattle.ped_affine.specs.AffineForms.{within_limits, negation}
use Rattle.ped_affine.specs.KeptForms.{unknowns_of, kept}
use Rattle.ped_affine.proofs.FormLaws.{kept_within}
use Rattle.ped_affine.proofs.forms.Terms.negation.Goals as goal

pub returns-in-Some-clause-form : goal.returns-in-Some-clause-form
returns-in-Some-clause-form c =
    sym (kept_within (unknowns_of c.args.self.now) c.negated.result c.negated.ensures.over) ∙ ap within_limits c.negated.ensures.form
    ∙ ap (λ f. negation (kept (unknowns_of c.args.self.now) f)) (sym c.in-Some.is)
