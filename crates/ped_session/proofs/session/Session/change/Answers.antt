use Rattle.std.proofs.Common.{refl, sym, ap, subst, ◌∙◌}
use Rattle.ped_tree.specs.Views.{program_tree}
use Rattle.ped_tree.specs.Printing.{program_text}
use Rattle.ped_versions.specs.ped_update.specs.Fresh.{tested_pairs}
use Rattle.ped_versions.specs.States.{State, changed_to}
use Rattle.ped_versions.specs.ped_valid.specs.Validity.{ReadsValid}
use Rattle.ped_session.specs.Meanings.{IsKept}
use Rattle.ped_session.proofs.KeptMeanings.{change_keeps}
use Rattle.ped_session.proofs.session.Session.change.Goals as goal

pub invariant_of-self-2 : goal.invariant_of-self-2
invariant_of-self-2 g c =
    let s = c.self.inside.versions in
    let text = program_text (program_tree c.args.new.program) in
    let made = c.in_ok-change.ensures.changes in
    change_keeps c.args.change text (tested_pairs made.0 (program_tree c.args.new.program) c.args.keep.now) s c.change.new.self c.self.invariant
    (subst (λ (x : State). IsKept c.args.change x.present text) (sym c.self.view_is) c.requires.meaning) made.2

pub returns-clause-answers : goal.returns-clause-answers
returns-clause-answers g c =
    let new = program_tree c.args.new.program in
    let made = c.in_ok-change.ensures.changes in (
      refl,
      made.0,
      subst (λ (s : State). ReadsValid s.present made.0) c.self.view_is made.1,
      made.2 ∙ ap (changed_to (program_text new) c.args.change (tested_pairs made.0 new c.args.keep.now)) c.self.view_is,
    )

pub returns-in_err-change-clause-most : goal.returns-in_err-change-clause-most
returns-in_err-change-clause-most g c old reads = c.change.ensures.most old (subst (λ (s : State). ReadsValid s.present old) (sym c.self.view_is) reads)

pub returns-clause-most : goal.returns-clause-most
returns-clause-most g c old reads = c.change.ensures.most old (subst (λ (s : State). ReadsValid s.present old) (sym c.self.view_is) reads)
