-- What a watch for races has seen (this project).
use Rattle.std.specs.Prelude.{◌≡◌, ℕ, List, [], ◌∷◌, ◌++◌, Option, Some, None, is_some, true}
use Rattle.std.proofs.Common.{ap, ◌∙◌, append_assoc}
use Rattle.ped_store.specs.Cells.{Cell}
use Rattle.ped_store.specs.Races.{Access, HasNoRace}
use Rattle.ped_store.specs.CellViews.{cell_view}
use Rattle.ped_order.specs.FirstRaces.{IsRaceAt}
use Rattle.ped_order.specs.Tables.{Remembers}
use Rattle.ped_order.specs.declared.tables.Table.{Table}
use Rattle.ped_order.specs.declared.watches.FoundRace.{FoundRace}
use Rattle.ped_order.specs.declared.watches.RaceWatch.{RaceWatch}

-- the race that has been found is the first; where none has been found there is none, and the table remembers the accesses
abbrev pub SawWith : Option FoundRace → Table → List Access → Type 0
SawWith None table seen = HasNoRace seen × Remembers table seen
SawWith (Some r) table seen = IsRaceAt seen (cell_view r.cell) r.first r.second

-- the watch has seen these accesses
abbrev pub Saw : RaceWatch → List Access → Type 0
Saw w seen = SawWith w.found w.table seen

-- what a watch may be after an access: whatever it had seen, it has now seen this access after that
abbrev pub SeesMore : RaceWatch → Access → RaceWatch → Type 0
SeesMore old a new = (seen : List Access) → Saw old seen → Saw new (seen ++ a ∷ [])

-- the first race stays the first, whatever comes after it
pub race_stays : (seen more : List Access) (c : Cell) (earlier later : ℕ) → IsRaceAt seen c earlier later → IsRaceAt (seen ++ more) c earlier later
race_stays seen more c earlier later h = record {
  first = h.first;
  second = h.second;
  race = record {
    before = h.race.before;
    between = h.race.between;
    behind = h.race.behind ++ more;
    order = ap (λ xs. xs ++ more) h.race.order ∙ append_assoc (h.race.before ++ h.first ∷ h.race.between) (h.second ∷ h.race.behind) more;
    none = h.race.none;
    earliest = h.race.earliest;
    races = h.race.races;
  };
  on = h.on;
  by = h.by;
  with = h.with;
}

still : (found : Option FoundRace) (table : Table) (a : Access) (seen : List Access) → is_some found ≡ true → SawWith found table seen → SawWith found table (seen ++ a ∷ [])
still None table a seen e h = absurd cc
still (Some r) table a seen e h = race_stays seen (a ∷ []) (cell_view r.cell) r.first r.second h

-- a watch that has found a race stays as it is
pub race_found_stays : (w : RaceWatch) (a : Access) → is_some w.found ≡ true → SeesMore w a w
race_found_stays w a e seen h = still w.found w.table a seen e h
