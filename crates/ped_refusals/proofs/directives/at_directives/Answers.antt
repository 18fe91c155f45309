use Rattle.std.proofs.Common.{◌∙◌, Bool, ap}
use Rattle.ped_tree.specs.Grammar.Refusal.{earliest, refused_if, Syntax}
use Rattle.ped_tree.specs.Grammar.RefusalViews.{found_of}
use Rattle.ped_refusals.proofs.Stepping.{note_step}
use Rattle.ped_refusals.proofs.directives.at_directives.Goals as goal

pub loop-directive-preserved : goal.loop-directive-preserved
loop-directive-preserved c =
    let here = c.standing-found.ensures
    ∙ ap (λ (bad : Bool). earliest (found_of c.loop-directive.found) (refused_if bad Syntax c.directive-item.result.line)) c.is_bad_directive-is_bad.ensures in
    note_step _ _ _ _ _ c.directive-item.result c.loop-directive-test.true c.directive-item.is here ∙ c.loop-directive.invariant
