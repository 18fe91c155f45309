use Rattle.std.proofs.Common.{map, sym, refl, ◌∙◌, Bool, true, false}
use Rattle.std.proofs.lemmas.Result.{on_ok_weaker}
use Rattle.ped_store.specs.Races.{Access}
use Rattle.ped_laws.specs.ped_eval.specs.AccessViews.{turn_view}
use Rattle.ped_order.specs.declared.sightings.Sighting.{Sighting}
use Rattle.ped_order.specs.Entered.{in_turns}
use Rattle.ped_order.proofs.Adding.{spread_first, spread_both}
use Rattle.ped_order.proofs.entering.enter_summary.Goals as goal

pub returns-in-None : goal.returns-in-None
returns-in-None c =
    let turns = map turn_view c.args.turns.now in
    let sum = c.args.summary.now in
    let first : Access = in_turns turns (record { cell = c.args.cell.now; writes = false; sighting = sum.first }) in
    spread_first c.args.entries.now.entries c.enter.new.entries.entries c.args.from first sum refl c.in-None.is c.in_ok-enter.ensures

pub returns-in-Some : goal.returns-in-Some
returns-in-Some c =
    let turns = map turn_view c.args.turns.now in
    let sum = c.args.summary.now in
    let first : Access = in_turns turns (record { cell = c.args.cell.now; writes = false; sighting = sum.first }) in
    let write : Access = in_turns turns (record { cell = c.args.cell.now; writes = true; sighting = c.in-Some.sighting }) in
    on_ok_weaker c.enter-in-Some.result
    (λ h. spread_both c.args.entries.now.entries c.enter.new.entries.entries c.enter-in-Some.new.entries.entries c.args.from first write sum c.in-Some.sighting refl refl refl refl c.in-Some.is c.in_ok-enter.ensures h)
    c.enter-in-Some.ensures
