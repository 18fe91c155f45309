use Rattle.std.proofs.Common.{ap, ◌∙◌}
use Rattle.ped_tree.specs.Grammar.Refusal.{earliest}
use Rattle.ped_tree.specs.Grammar.ItemViews.{reading_of}
use Rattle.ped_tree.specs.Grammar.RefusalViews.{found_of}
use Rattle.ped_refusals.specs.OpenBlocks.{blocks_of}
use Rattle.ped_refusals.specs.OpenContexts.{context_of}
use Rattle.ped_refusals.proofs.Loops.{at_loops, no_variable, one_variable}
use Rattle.ped_refusals.proofs.indices.at_private.Goals as goal

pub returns-in-Some : goal.returns-in-Some
returns-in-Some c =
    one_variable (context_of c.args.context.now) (reading_of c.args.reading.now) c.in-Some.variable.now (found_of c.args.found) (found_of c.at_loops.result) c.in-Some.ensures
    (c.at_loops.ensures ∙ ap (λ bs. earliest (found_of c.args.found) (at_loops c.in-Some.variable.now (blocks_of bs))) c.deref.ensures.value)

pub returns-in-None : goal.returns-in-None
returns-in-None c = no_variable (context_of c.args.context.now) (reading_of c.args.reading.now) (found_of c.args.found) c.in-None.ensures
