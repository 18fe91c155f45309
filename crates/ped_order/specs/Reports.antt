-- Reports of races: the first race of a run in order, a fault that comes before any race, or that there is neither (Allen and Kennedy, section 2.2.1; this project).
use Rattle.std.specs.Prelude.{◌≡◌, ℕ, List}
use Rattle.ped_tree.specs.Tree.{ProgramTree}
use Rattle.ped_store.specs.Cells.{Cell}
use Rattle.ped_store.specs.Races.{accesses, HasNoRace}
use Rattle.ped_laws.specs.ped_eval.specs.Runs.{failed}
use Rattle.ped_laws.specs.ped_eval.specs.Outcomes.{run_of, IsRaceFree}
use Rattle.ped_order.specs.FirstRaces.{IsRaceAt}

-- what is found of a program on its data: that it runs without a fault and without a race; a race on a cell, with the statements of the earlier access and of the later one; or a fault by its number, with the statement that meets it (this project)
pub data Report : Type 0 where
  NoRace : Report
  Race : Cell → ℕ → ℕ → Report
  Fault : ℕ → ℕ → Report

-- the report of a program on its data: no race where it runs without a fault and without a race, the first race where accesses race, and else the fault that the run meets (this project)
abbrev pub IsReport : ProgramTree → List ℕ → Report → Type 0
IsReport t data_bytes NoRace = IsRaceFree t data_bytes
IsReport t data_bytes (Race cell earlier later) = IsRaceAt (accesses (run_of t data_bytes).acts) cell earlier later
IsReport t data_bytes (Fault number statement) = ((run_of t data_bytes).ending ≡ failed number statement) × HasNoRace (accesses (run_of t data_bytes).acts)
