use Rattle.ped_tree.specs.Views.{program_tree}
use Rattle.ped_calls.proofs.PlainFiles.{valid_expands}
use Rattle.ped_calls.proofs.opening.expansion.Goals as goal

pub returns-in-Ok-clause-tree : goal.returns-in-Ok-clause-tree
returns-in-Ok-clause-tree c = valid_expands c.args.text.now (program_tree c.in-Ok.opened.program) c.in-Ok.ensures.tree
