use Rattle.std.proofs.Common.{◌+◌, refl}
use Rattle.ped_tree.specs.Views.{program_tree}
use Rattle.ped_rules.specs.KeepMaps.{all_but}
use Rattle.ped_loops.specs.Interchanging.{interchanged, MakesInterchanged, StandsAgainstInterchange}
use Rattle.ped_rules.specs.Carried.{crossing}
use Rattle.ped_loops.proofs.Endings.{refused_at_once, ended}
use Rattle.ped_loops.proofs.interchanging.interchange.Goals as goal

pub returns-in-Ok : goal.returns-in-Ok
returns-in-Ok g c =
    let t = program_tree c.args.scene.now.tree.now in
    let s = c.args.number in
    ended s (StandsAgainstInterchange s) (λ u. crossing u s) (MakesInterchanged s) t (interchanged t s) (all_but s (s + 1) t) (refl, refl) c.in_ok-change.field-0 c.in_ok-change.ensures c.in-Ok.change c.in-Ok.is c.first_crossing.result c.first_crossing.ensures c.unless_forbidden.result c.unless_forbidden.ensures

pub returns-in-Err : goal.returns-in-Err
returns-in-Err g c =
    let t = program_tree c.args.scene.now.tree.now in
    let s = c.args.number in
    refused_at_once s (StandsAgainstInterchange s) (λ u. crossing u s) (MakesInterchanged s) t (interchanged t s) (all_but s (s + 1) t) (refl, refl) c.in_ok-change.field-0 c.in_ok-change.ensures c.in-Err.refused c.in-Err.is
