use Rattle.ped_tree.specs.Views.{program_tree}
use Rattle.ped_transformations.specs.Table.{step_of}
use Rattle.ped_transformations.proofs.AdviceLines.{against}
use Rattle.ped_transformations.proofs.advising.cause_against.Goals as goal

pub returns : goal.returns
returns g c =
    against (program_tree c.args.scene.now.tree.now) (step_of c.args.command.now) c.in_ok-found.found _ c.cause_in.ensures c.in_ok-found.ensures
