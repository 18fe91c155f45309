use Rattle.std.proofs.Common.{ℕ, List, true, refl, sym, ap, subst, ◌∙◌}
use Rattle.ped_tree.specs.Views.{program_tree}
use Rattle.ped_tree.specs.Printing.{program_text}
use Rattle.ped_versions.specs.ped_valid.specs.ped_symbols.specs.NameRefusals.{IsValid}
use Rattle.ped_versions.specs.declared.changes.ChangeKind.TheVariants.{Transformation}
use Rattle.ped_versions.specs.Changing.{IsFlagText}
use Rattle.ped_versions.specs.States.{State, changed_to}
use Rattle.ped_session.specs.Meanings.{IsKept}
use Rattle.ped_session.proofs.KeptMeanings.{change_keeps}
use Rattle.ped_session.proofs.StillPairs.{flag_tests}
use Rattle.ped_session.proofs.session.Session.set_parallel.Goals as goal

pub change_flag-requires : goal.change_flag-requires
change_flag-requires g c =
    let made = c.requires.parallel in
    subst (λ (s : State). IsFlagText c.args.number true s c.in_ok-text.text) (sym c.self.view_is) (record {
      tree = made.0;
      reads = made.1;
      valid = subst IsValid made.2 c.requires.valid;
      text_is = c.in_ok-text.ensures ∙ ap program_text made.2;
      back = made.4;
    })

pub invariant_of-self-2 : goal.invariant_of-self-2
invariant_of-self-2 g c =
    let s = c.self.inside.versions in
    change_keeps Transformation c.in_ok-text.text 0 s c.change_flag.new.self c.self.invariant
    (subst (λ (x : List ℕ). IsKept Transformation s.present x) (sym c.in_ok-text.ensures)
    (subst (λ (x : State). IsKept Transformation x.present (program_text (program_tree c.args.change.now.tree))) (sym c.self.view_is) c.requires.meaning))
    c.in_ok-change_flag.ensures.changes

pub returns-clause-answers : goal.returns-clause-answers
returns-clause-answers g c =
    let s = c.args.self.now in
    let new = program_tree c.args.change.now.tree in
    let made = c.requires.parallel in
    let tests = flag_tests made.0 new c.args.number true c.args.change.now.keep (c.change_flag.ensures.graph made.0) made.2 made.3 in (
      refl,
      made.0,
      made.1,
      c.in_ok-change_flag.ensures.changes ∙ (λ i. changed_to (c.in_ok-text.ensures i) Transformation (tests i) (c.self.view_is i)),
    )

pub returns-clause-untested : goal.returns-clause-untested
returns-clause-untested g c = ap (λ (s : State). s.tested) c.in_ok-change_flag.ensures.changes
