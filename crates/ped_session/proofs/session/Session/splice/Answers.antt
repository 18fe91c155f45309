use Rattle.std.proofs.Common.{sym, subst}
use Rattle.std.proofs.lemmas.Result.{IfOk-weaker}
use Rattle.ped_tree.specs.Views.{program_tree}
use Rattle.ped_tree.specs.declared.grammar.refusals.Refusal as of_text
use Rattle.ped_versions.specs.ped_valid.specs.Refusals.{IsRefusalOf}
use Rattle.ped_session.specs.declared.replies.Refusal.TheVariants.{BadEdit}
use Rattle.ped_session.specs.declared.replies.Reply.TheVariants.{Refused}
use Rattle.ped_versions.specs.Splices as Splices
use Rattle.ped_session.specs.Steps.{Edits}
use Rattle.ped_session.proofs.Accepted.{made_from, edited, refused_edit, tests_by}
use Rattle.ped_session.proofs.session.Session.splice.Goals as goal

pub returns-in-Ok-clause-answers : goal.returns-in-Ok-clause-answers
returns-in-Ok-clause-answers g c =
    let s = c.args.self.now in
    let all = Splices.spliced s.present c.args.kept c.args.gone c.args.lines.now in
    let made = made_from c.as_slice.result.now c.in_ok-text.text c.source.result.now s.present c.args.kept c.args.gone c.args.lines.now c.as_slice.ensures c.in_ok-text.ensures c.source.ensures in
    IfOk-weaker c.edit.result _ _ (λ reply change. edited s c.edit.new.self c.args.kept c.args.gone c.as_slice.result.now all (program_tree c.in-Ok.opened.program) reply made c.in-Ok.ensures.tree change) c.edit.ensures.answers

pub returns-in-Ok-clause-most : goal.returns-in-Ok-clause-most
returns-in-Ok-clause-most g c =
    let s = c.args.self.now in
    let all = Splices.spliced s.present c.args.kept c.args.gone c.args.lines.now in
    let made = made_from c.as_slice.result.now c.in_ok-text.text c.source.result.now s.present c.args.kept c.args.gone c.args.lines.now c.as_slice.ensures c.in_ok-text.ensures c.source.ensures in
    tests_by s c.args.kept c.args.gone c.as_slice.result.now all (program_tree c.in-Ok.opened.program) c.args.steps.now c.edit.new.steps made c.in-Ok.ensures.tree c.edit.ensures.most

pub returns-in-Err-At-clause-answers : goal.returns-in-Err-At-clause-answers
returns-in-Err-At-clause-answers g c =
    let s = c.args.self.now in
    let all = Splices.spliced s.present c.args.kept c.args.gone c.args.lines.now in
    let made = made_from c.as_slice.result.now c.in_ok-text.text c.source.result.now s.present c.args.kept c.args.gone c.args.lines.now c.as_slice.ensures c.in_ok-text.ensures c.source.ensures in
    let here = subst (IsRefusalOf c.as_slice.result.now) c.in-Err-At.field-0-is c.in-Err-At.ensures.refused in
    subst (λ (why : of_text.Refusal). Edits c.args.kept c.args.gone all s (Refused (BadEdit why)) s) (sym c.in-Err-At.why-is) (refused_edit s c.args.kept c.args.gone c.as_slice.result.now all c.in-Err-At.why made here)
