use Rattle.std.proofs.Common.{ap, ◌∙◌}
use Rattle.ped_tree.specs.Tree.{StmtTrees, Do}
use Rattle.ped_tree.specs.Views.{head_of}
use Rattle.ped_rules.specs.ped_steps.specs.Replacing.{alone}
use Rattle.ped_reduce.proofs.reducing.loop_with.Goals as goal

pub returns : goal.returns
returns c = ap alone (c.of_loop.ensures ∙ c.in_ok-with_body.ensures ∙ ap (λ (ss : StmtTrees). Do (head_of c.args.d.now) ss) c.in_ok-body.ensures)
