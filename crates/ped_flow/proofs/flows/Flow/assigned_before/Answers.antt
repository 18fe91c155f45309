use Rattle.ped_tree.specs.Views.{program_tree}
use Rattle.ped_flow.proofs.Answering.{before_answer}
use Rattle.ped_flow.proofs.flows.Flow.assigned_before.Goals as goal

pub returns : goal.returns
returns c =
    before_answer (program_tree c.args.self.now.program.now) c.args.loop_number c.args.name.now c.walk_before.result c.always_assigns.result c.walk_before.ensures c.always_assigns.ensures
