use Rattle.ped_tree.specs.Views.{program_tree}
use Rattle.ped_flow.proofs.Answering.{live_answer}
use Rattle.ped_flow.proofs.flows.Flow.live_after.Goals as goal

pub returns : goal.returns
returns c =
    live_answer (program_tree c.args.self.now.program.now) c.args.loop_number c.args.name.now c.walk_behind-summary.result c.leaves.result c.is_saved_in-saved.result c.both.result c.reader_of.result
    c.walk_behind-summary.ensures c.leaves.ensures c.is_saved_in-saved.ensures c.both.ensures c.reader_of.ensures
