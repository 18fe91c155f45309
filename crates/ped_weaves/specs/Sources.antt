-- Where the accesses of a new list come from, by a relation (this project).
use Rattle.std.specs.Prelude.{◌≡◌, List, true, false, ◌⊎◌}
use Rattle.ped_laws.specs.ped_store.specs.Cells.{same_cell}
use Rattle.ped_laws.specs.ped_store.specs.Acts.{Act}
use Rattle.ped_laws.specs.ped_store.specs.Races.{Access, accesses, conflict, are_apart}
use Rattle.ped_laws.specs.Acts.Orders.{IsIn}
use Rattle.ped_laws.specs.Acts.Origins.{StandApart}

-- an access conflicts with none of another iteration of one execution of a PARALLEL DO, whichever is the earlier, as a DO's own stores do, or the read of what nothing there writes (this project)
abbrev pub IsFreeOf : List Act → Access → Type 0
IsFreeOf acts b = (c : Access) → IsIn c (accesses acts) → (are_apart b.place.turns c.place.turns ≡ true → conflict b c ≡ false) × (are_apart c.place.turns b.place.turns ≡ true → conflict c b ≡ false)

-- each access of the new acts has a source among those of the old acts, or conflicts with none of another iteration: writes come from writes, accesses of one cell from accesses of one cell, and accesses that conflict in two iterations of a PARALLEL DO from accesses in such (this project)
pub record HaveSources (comes : Access → Access → Type 0) (acts others : List Act) : Type 0 where
  pub source : (b : Access) → IsIn b (accesses others) → ((x : Access) × IsIn x (accesses acts) × comes b x) ⊎ IsFreeOf others b
  pub written : (b x : Access) → IsIn b (accesses others) → IsIn x (accesses acts) → comes b x → b.writes ≡ true → x.writes ≡ true
  pub one_cell : (b c x y : Access) → IsIn b (accesses others) → IsIn c (accesses others) → IsIn x (accesses acts) → IsIn y (accesses acts) → comes b x → comes c y → same_cell b.cell c.cell ≡ true → same_cell x.cell y.cell ≡ true
  pub apart : (b c x y : Access) → IsIn b (accesses others) → IsIn c (accesses others) → IsIn x (accesses acts) → IsIn y (accesses acts) → comes b x → comes c y → are_apart b.place.turns c.place.turns ≡ true → conflict b c ≡ true → StandApart x y

-- two accesses that race, whichever is the earlier (this project)
pub record RaceSomewhere (acts : List Act) : Type 0 where
  pub one : Access
  pub other : Access
  pub one_in : IsIn one (accesses acts)
  pub other_in : IsIn other (accesses acts)
  pub apart : StandApart one other
  pub conflicting : conflict one other ≡ true
