use Rattle.std.proofs.Common.{subst, sym, ◌∙◌}
use Rattle.ped_tree.specs.Views.{program_tree}
use Rattle.ped_transformations.specs.ped_steps.proofs.Answering.{few_numbers}
use Rattle.ped_transformations.specs.Advice.{IsAdvice}
use Rattle.ped_versions.specs.States.{State}
use Rattle.ped_versions.specs.ped_valid.specs.Validity.{ReadsValid}
use Rattle.ped_session.proofs.Shown.{refused_statement, shown_statement}
use Rattle.ped_session.proofs.session.Session.show_advice.Goals as goal

pub flow_of-requires : goal.flow_of-requires
flow_of-requires g c = few_numbers (program_tree c.present-present.result.program.now) c.present-present.ensures.is.valid

pub returns-then-not-has_statement : goal.returns-then-not-has_statement
returns-then-not-has_statement g c =
    let t = program_tree c.present-present.result.program.now in
    let reads = subst (λ (s : State). ReadsValid s.present t) c.self.view_is c.present-present.ensures.reads in
    refused_statement (λ u. IsAdvice u c.args.number) t c.args.self.now c.args.number reads (sym (c.has_statement.ensures t c.present-present.ensures.is.graph) ∙ c.if-not-has_statement.true)

pub returns : goal.returns
returns g c =
    let t = program_tree c.present-present.result.program.now in
    let reads = subst (λ (s : State). ReadsValid s.present t) c.self.view_is c.present-present.ensures.reads in
    shown_statement (λ u. IsAdvice u c.args.number) t c.args.self.now c.args.number c.in_ok-advice.field-0 reads (sym (c.has_statement.ensures t c.present-present.ensures.is.graph) ∙ c.if-not-has_statement.false)
    c.in_ok-advice.ensures
