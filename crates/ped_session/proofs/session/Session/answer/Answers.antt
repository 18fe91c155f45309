use Rattle.std.proofs.Common.{subst}
use Rattle.std.proofs.lemmas.Result.{IfOk-weaker}
use Rattle.ped_tree.specs.Views.{program_tree}
use Rattle.ped_transformations.specs.ped_steps.proofs.Answering.{few_numbers}
use Rattle.ped_transformations.specs.Table.{step_of}
use Rattle.ped_versions.specs.States.{State}
use Rattle.ped_versions.specs.ped_valid.specs.Validity.{ReadsValid}
use Rattle.ped_session.proofs.Stepping.{answered, takeable}
use Rattle.ped_session.proofs.session.Session.answer.Goals as goal

pub flow_of-requires : goal.flow_of-requires
flow_of-requires g c = few_numbers (program_tree c.present-present.result.program.now) c.present-present.ensures.is.valid

pub returns-clause-answers : goal.returns-clause-answers
returns-clause-answers g c =
    let t = program_tree c.present-present.result.program.now in
    let reads = subst (λ (s : State). ReadsValid s.present t) c.self.view_is c.present-present.ensures.reads in
    IfOk-weaker c.answer.result _ _ (λ answer h. answered (step_of c.args.command.now) t c.args.self.now reads answer h) c.answer.ensures

pub returns-clause-takeable : goal.returns-clause-takeable
returns-clause-takeable g c =
    let t = program_tree c.present-present.result.program.now in
    let reads = subst (λ (s : State). ReadsValid s.present t) c.self.view_is c.present-present.ensures.reads in
    IfOk-weaker c.answer.result _ _ (λ answer h. takeable c.every_step_is_lawful.ensures c.args.command.now t c.args.self.now reads answer h) c.answer.ensures
