use Rattle.std.proofs.Common.{refl, sym, ap, subst, ◌∙◌}
use Rattle.ped_tree.specs.Views.{program_tree}
use Rattle.ped_tree.specs.Printing.{program_text}
use Rattle.ped_versions.specs.ped_update.specs.Fresh.{tested_pairs}
use Rattle.ped_versions.specs.declared.changes.ChangeKind.TheVariants.{Edit}
use Rattle.ped_versions.specs.Splices.{edit_keep}
use Rattle.ped_versions.specs.States.{State, changed_to}
use Rattle.ped_versions.specs.ped_valid.specs.Validity.{ReadsValid}
use Rattle.ped_session.proofs.KeptMeanings.{change_keeps}
use Rattle.ped_session.proofs.session.Session.edit.Goals as goal

pub invariant_of-self-2 : goal.invariant_of-self-2
invariant_of-self-2 g c =
    let s = c.self.inside.versions in
    let text = program_text (program_tree c.args.new.program) in
    let made = c.in_ok-edit.ensures.changes in
    change_keeps Edit text (tested_pairs made.0 (program_tree c.args.new.program) (edit_keep made.0 (program_tree c.args.new.program) c.args.kept c.args.gone)) s c.edit.new.self c.self.invariant
    tt made.2

pub returns-clause-answers : goal.returns-clause-answers
returns-clause-answers g c =
    let new = program_tree c.args.new.program in
    let made = c.in_ok-edit.ensures.changes in (
      refl,
      made.0,
      subst (λ (s : State). ReadsValid s.present made.0) c.self.view_is made.1,
      made.2 ∙ ap (changed_to (program_text new) Edit (tested_pairs made.0 new (edit_keep made.0 new c.args.kept c.args.gone))) c.self.view_is,
    )

pub returns-in_err-edit-clause-most : goal.returns-in_err-edit-clause-most
returns-in_err-edit-clause-most g c old reads = c.edit.ensures.most old (subst (λ (s : State). ReadsValid s.present old) (sym c.self.view_is) reads)

pub returns-clause-most : goal.returns-clause-most
returns-clause-most g c old reads = c.edit.ensures.most old (subst (λ (s : State). ReadsValid s.present old) (sym c.self.view_is) reads)
