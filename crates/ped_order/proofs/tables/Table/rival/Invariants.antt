use Rattle.std.proofs.Common.{◌≡◌, List, map, take}
use Rattle.ped_store.specs.Races.{Access, race}
use Rattle.ped_laws.specs.ped_eval.specs.AccessViews.{turn_view, access_view}
use Rattle.ped_order.specs.Sightings.{first_sighting}
use Rattle.ped_order.specs.Tables.{Remembers, cut}
use Rattle.ped_order.proofs.tables.Table.rival.Given as goal

abbrev pub invariant-loop-level : goal.invariant-loop-level
invariant-loop-level l = (seen : List Access) → Remembers l.self seen → l.found ≡ first_sighting (λ a. race a (cut (map turn_view (take l.level l.path)) (access_view l.access))) 0 seen
