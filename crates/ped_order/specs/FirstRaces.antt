-- The first race of some accesses (Allen and Kennedy, section 2.2.1; this project).
use Rattle.std.specs.Prelude.{◌≡◌, ℕ, List, ◌∷◌, ◌++◌, true, false}
use Rattle.std.specs.List.{All}
use Rattle.ped_store.specs.Cells.{Cell}
use Rattle.ped_store.specs.Races.{Access, race, HasNoRace}

-- the second of these is the first of all accesses that races with an earlier one, and the first of these is the earliest that it races with (this project)
pub record IsFirstRace (all : List Access) (first second : Access) : Type 0 where
  pub before : List Access
  pub between : List Access
  pub behind : List Access
  pub order : all ≡ (before ++ first ∷ between) ++ second ∷ behind
  pub none : HasNoRace (before ++ first ∷ between)
  pub earliest : All (λ a. race a second ≡ false) before
  pub races : race first second ≡ true

-- the first race of all accesses is on this cell, between accesses of these statements, the earlier one first (this project)
pub record IsRaceAt (all : List Access) (cell : Cell) (earlier later : ℕ) : Type 0 where
  pub first : Access
  pub second : Access
  pub race : IsFirstRace all first second
  pub on : second.cell ≡ cell
  pub by : first.place.statement ≡ earlier
  pub with : second.place.statement ≡ later
