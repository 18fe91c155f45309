use Rattle.std.proofs.Common.{ap, ◌∙◌, ◌+ℤ◌}
use Rattle.ped_affine.specs.AffineForms.{combination}
use Rattle.ped_affine.specs.KeptForms.{unknowns_of, kept}
use Rattle.ped_affine.proofs.FormLaws.{difference_is}
use Rattle.ped_affine.proofs.forms.Terms.difference.Goals as goal

pub returns-clause-form : goal.returns-clause-form
returns-clause-form c =
    let us = unknowns_of c.args.self.now in
    c.sum.ensures.form ∙ ap (combination ◌+ℤ◌ (kept us c.args.a)) c.negation.ensures.form
    ∙ difference_is us (kept us c.args.a) c.args.b c.requires.second
