use Rattle.ped_tree.specs.Views.{program_tree}
use Rattle.ped_calls.proofs.opening.expand_units.Goals as goal

pub returns-clause-printed : goal.returns-clause-printed
returns-clause-printed c = (program_tree c.in_ok-opened.opened.program, c.in_ok-opened.ensures.tree, c.in_ok-print.ensures)
