use Rattle.std.proofs.Common.{arith, subst}
use Rattle.ped_transformations.specs.ped_steps.proofs.Answering.{few_numbers}
use Rattle.ped_tree.specs.Views.{program_tree}
use Rattle.ped_versions.specs.States.{State}
use Rattle.ped_versions.specs.ped_valid.specs.Validity.{ReadsValid}
use Rattle.ped_session.proofs.automatic.SessionEditor.count.Goals as goal

pub count-requires : goal.count-requires
count-requires g c = let few = few_numbers (program_tree c.present.result.program.now) c.present.ensures.is.valid in omega (arith, few)

pub returns : goal.returns
returns g c =
    let t = program_tree c.present.result.program.now in
    let reads = subst (λ (s : State). ReadsValid s.present t) c.self.view_is c.present.ensures.reads in
    (t, reads, c.count.ensures)
