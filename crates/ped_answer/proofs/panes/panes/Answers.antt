use Rattle.std.proofs.Common.{◌∙◌, ◌++◌}
use Rattle.ped_tree.specs.Views.{program_tree}
use Rattle.ped_answer.proofs.panes.panes.Goals as goal

pub returns-clause-panes : goal.returns-clause-panes
returns-clause-panes g c = (
  c.in_ok-dependences.dependences,
  c.in_ok-dependences.ensures (program_tree c.args.program.now) c.in_ok-graph.ensures.built,
  c.in_ok-extend_from_slice.ensures.ok ∙ (λ i. c.in_ok-panes.ensures i ++ c.as_slice.ensures i),
)
