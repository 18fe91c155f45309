use Rattle.ped_tree.specs.Views.{program_tree}
use Rattle.ped_transformations.proofs.AdviceLines.{eight_told}
use Rattle.ped_transformations.proofs.advising.tell_all.Goals as goal

pub returns : goal.returns
returns g c =
    eight_told (program_tree c.args.scene.now.tree.now) c.args.statement _ _ _ _ _ _ _ _ _ c.requires.empty
    c.in_ok-tell.ensures c.in_ok-tell-2.ensures c.in_ok-tell-3.ensures c.in_ok-tell-4.ensures c.in_ok-tell-5.ensures c.in_ok-tell-6.ensures c.in_ok-tell-7.ensures c.in_ok-tell-8.ensures
