use Rattle.std.proofs.Common.{◌+◌, ap, subst, ◌∙◌}
use Rattle.std.proofs.lemmas.Result.{IfOk-weaker}
use Rattle.ped_tree.specs.Views.{program_tree}
use Rattle.ped_versions.specs.States.{State}
use Rattle.ped_versions.specs.ped_valid.specs.Validity.{ReadsValid}
use Rattle.ped_session.specs.Idle.{idle_rows}
use Rattle.ped_session.proofs.Idling.{rows_in}
use Rattle.ped_session.proofs.session.Session.idle.Goals as goal

pub returns : goal.returns
returns g c =
    let t = program_tree c.present.result.program.now in
    let reads = subst (λ (s : State). ReadsValid s.present t) c.self.view_is c.present.ensures.reads in
    let number = c.args.line + 1 in
    IfOk-weaker c.idle_rows.result _ _
    (λ rows is. rows_in c.args.self.now.present number _ t rows reads (is ∙ ap (idle_rows t number) c.evidence-evidence.ensures))
    c.idle_rows.ensures
