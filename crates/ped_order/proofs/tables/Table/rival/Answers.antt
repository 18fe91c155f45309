use Rattle.std.proofs.Common.{List, map, take, ap, sym, ◌∙◌}
use Rattle.ped_store.specs.Acts.{Turn}
use Rattle.ped_store.specs.Races.{race}
use Rattle.ped_laws.specs.ped_eval.specs.AccessViews.{access_view, turn_view}
use Rattle.ped_order.specs.Sightings.{earlier_of, first_sighting}
use Rattle.ped_order.specs.Tables.{cut}
use Rattle.ped_order.proofs.Remembering.{asked_nothing, asked_further}
use Rattle.ped_order.proofs.Levels.{one_more}
use Rattle.ped_order.proofs.tables.Table.rival.Goals as goal

pub loop-level-init : goal.loop-level-init
loop-level-init c seen r = asked_nothing (access_view c.args.access.now) seen

pub loop-level-preserved : goal.loop-level-preserved
loop-level-preserved c seen r =
    let b = access_view c.args.access.now in
    let path = c.as_slice-path.result.now in
    c.earlier_of-found.ensures
    ∙ (λ i. earlier_of (c.loop-level.invariant seen r i) (c.in_ok-here.ensures i))
    ∙ asked_further c.args.self.now seen r b c.touched-known.result c.touched-known.ensures (map turn_view (take c.loop-level.level path)) _
    ∙ ap (λ (ts : List Turn). first_sighting (λ a. race a (cut ts b)) 0 seen) (sym (one_more path c.loop-level.level _ c.loop-level-test.true))
