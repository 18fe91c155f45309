-- The reports that the code's reports stand for (this project).
use Rattle.std.specs.Prelude.{Option, Some, None}
use Rattle.ped_store.specs.CellViews.{cell_view}
use Rattle.ped_laws.specs.ped_eval.specs.Outcomes as outcomes
use Rattle.ped_order.specs.Reports.{Report, NoRace, Race, Fault}
use Rattle.ped_order.specs.declared.reports.RaceReport as code
use Rattle.ped_order.specs.declared.reports.RaceReport.TheVariants as variant
use Rattle.ped_order.specs.declared.watches.FoundRace.{FoundRace}

-- the report that a report of the code stands for
abbrev pub report_view : code.RaceReport → Report
report_view variant.NoRace = NoRace
report_view (variant.Race cell earlier later) = Race (cell_view cell) earlier later
report_view (variant.Fault number statement) = Fault number statement

-- the report where this race has been found and the program has this outcome
abbrev pub report_of : Option FoundRace → outcomes.Outcome → Report
report_of (Some r) o = Race (cell_view r.cell) r.first r.second
report_of None (outcomes.Ended output live) = NoRace
report_of None (outcomes.Fault number statement) = Fault number statement
