use Rattle.ped_tree.specs.Views.{program_tree}
use Rattle.ped_reduce.proofs.ReducingAnswers.{no_loop_refused}
use Rattle.ped_reduce.proofs.reducing.reduce.Goals as goal

pub returns-in-None : goal.returns-in-None
returns-in-None g c = no_loop_refused c.args.number c.args.names.now (program_tree c.args.scene.now.tree.now) c.against.result c.against.ensures c.in-None.ensures
