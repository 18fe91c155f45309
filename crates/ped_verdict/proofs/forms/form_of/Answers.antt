use Rattle.std.proofs.Common.{◌≡◌, arith}
use Rattle.std.proofs.lemmas.Grind.{common_steps}
use Rattle.ped_views.specs.Forms as plain
use Rattle.ped_verdict.specs.CodeForms.{form_shown}
use Rattle.ped_verdict.proofs.FormFacts.{sound}
use Rattle.ped_verdict.proofs.forms.form_of.Goals as goal

pub returns-clause-sound : goal.returns-clause-sound
returns-clause-sound c =
    let e : form_shown c.common_form.result ≡ plain.form_of c.args.position.now = grind (arith, common_steps) in
    sound c.args.position.now c.common_form.result e
