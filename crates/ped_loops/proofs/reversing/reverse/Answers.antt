use Rattle.std.proofs.Common.{refl}
use Rattle.ped_tree.specs.Views.{program_tree}
use Rattle.ped_rules.specs.ped_steps.specs.Replacing.{all_kept}
use Rattle.ped_loops.specs.Reversing.{reversed, MakesReversed, StandsAgainstReversal}
use Rattle.ped_rules.specs.Carried.{carried}
use Rattle.ped_loops.proofs.Endings.{refused_at_once, ended}
use Rattle.ped_loops.proofs.reversing.reverse.Goals as goal

pub returns-in-Ok : goal.returns-in-Ok
returns-in-Ok g c =
    let t = program_tree c.args.scene.now.tree.now in
    let s = c.args.number in
    ended s (StandsAgainstReversal s) (λ u. carried u s) (MakesReversed s) t (reversed t s) (all_kept t) (refl, refl) c.in_ok-change.field-0 c.in_ok-change.ensures c.in-Ok.change c.in-Ok.is c.first_carried.result c.first_carried.ensures c.unless_forbidden.result c.unless_forbidden.ensures

pub returns-in-Err : goal.returns-in-Err
returns-in-Err g c =
    let t = program_tree c.args.scene.now.tree.now in
    let s = c.args.number in
    refused_at_once s (StandsAgainstReversal s) (λ u. carried u s) (MakesReversed s) t (reversed t s) (all_kept t) (refl, refl) c.in_ok-change.field-0 c.in_ok-change.ensures c.in-Err.refused c.in-Err.is
