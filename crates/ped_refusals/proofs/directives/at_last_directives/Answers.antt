use Rattle.std.proofs.Common.{◌∙◌}
use Rattle.ped_refusals.proofs.Stepping.{note_step}
use Rattle.ped_refusals.proofs.directives.at_last_directives.Goals as goal

pub loop-directive-preserved : goal.loop-directive-preserved
loop-directive-preserved c =
    note_step _ _ _ _ _ c.directive-item.result c.loop-directive-test.true c.directive-item.is c.standing-found.ensures ∙ c.loop-directive.invariant
