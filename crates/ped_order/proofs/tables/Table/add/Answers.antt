use Rattle.std.proofs.Common.{◌≡◌, ◌+◌, List, map, ap, subst, sym, ◌∙◌, refl, Some}
use Rattle.std.specs.Prelude.{if◌then◌else◌}
use Rattle.std.specs.Map.{lookup}
use Rattle.ped_store.specs.Cells.{Cell, same_cell}
use Rattle.ped_store.specs.Acts.{Turn}
use Rattle.ped_laws.specs.ped_eval.specs.AccessViews.{access_view, turn_view}
use Rattle.ped_order.specs.Paths.{level_view, common_count}
use Rattle.ped_order.specs.declared.entering.Touch.{Touch}
use Rattle.ped_order.specs.Sightings.{sighting_of}
use Rattle.ped_order.specs.Entered.{told_by, Enters, in_turns}
use Rattle.ped_order.proofs.Adding.{remembers_more}
use Rattle.ped_order.proofs.tables.Table.add.Goals as goal

pub returns : goal.returns
returns c seen r =
    let old = c.args.self.now in
    let b = access_view c.args.access.now in
    let known = c.touched-known.result in
    let after = c.with-after.result in
    let touch : Touch = record { cell = c.args.access.now.cell; writes = c.args.access.now.writes; sighting = sighting_of old.told b } in
    let turns = ap (map turn_view) c.as_slice-path.ensures in
    remembers_more old (record { cells = c.insert.new.self; entries = c.enter.new.entries; told = old.told + 1 }) known after c.spread.new.entries.entries c.common_count-common.result (sighting_of old.told b) b seen
    (record {
      sighting = refl;
      told = refl;
      is_known = c.touched-known.ensures;
      common = c.common_count-common.ensures.count ∙ ap (common_count (map level_view known.path)) turns;
      within = c.common_count-common.ensures.within;
      path = c.with-after.ensures.path;
      seen = c.with-after.ensures.seen;
      cells = λ d. c.in_ok-insert.ensures.updates.0 d ∙ ap (λ (e : Cell). if same_cell e d then Some after else lookup (same_cell d) old.cells.entries) c.new.ensures;
      spread = c.in_ok-spread.ensures;
      entered = subst (λ (ts : List Turn). Enters (told_by c.spread.new.entries.entries) c.enter.new.entries.entries c.common_count-common.result (sighting_of old.told b) (in_turns ts touch)) turns c.in_ok-enter.ensures;
    })
    r
